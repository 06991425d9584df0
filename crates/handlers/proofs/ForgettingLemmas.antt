-- What a desk is without the records of a class at a path.
use Rattle.std.proofs.Common.{◌≡◌, ℕ, ◌+◌, ◌-◌, Bool, true, false, inl, inr, List, [], ◌∷◌, ◌++◌, length, map, refl, sym, ◌∙◌, ap, arith, Option, Some, None}
use Rattle.std.specs.Prelude.{◌||◌, not, All, bytes_eq, option_map, unwrap_or, if◌then◌else◌}
use Rattle.std.specs.List.{list_any}
use Rattle.std.proofs.lemmas.Bool.{or_left, or_right}
use Rattle.std.proofs.lemmas.List.Elements.{All-cons, All-head, All-tail, All-append}
use Rattle.std.proofs.lemmas.List.Sums.{length-filter, count_by-le-length}
use Rattle.std.proofs.lemmas.List.Folds.{list_any-append}
use Rattle.model.specs.Archives.{Tree, Link, nar}
use Rattle.model.specs.Classes.{is_one_of}
use Rattle.model.specs.Worlds.{Source, tree_at, charge_of, one_of_each}
use Rattle.model.specs.FinishedBuilds.{is_record_at}
use Rattle.model.specs.ForgetRequests as model
use Rattle.model.proofs.BoolLemmas.{either, same_bytes, bytes_eq_sym, both_parts, or_cases}
use Rattle.records.specs.Recorded.{Recorded}
use Rattle.records.specs.Trees.{tree_in, source_at, record_at}
use Rattle.realise.specs.Held.{paths_held, bytes_at}
use Rattle.desk_records.specs.RecordLists.{is_recorded_at, remaining, refers_to}
use Rattle.realise.specs.Holdings.{Holdings, paths_of, is_needed, stays_held, without_records}
use Rattle.realise.proofs.ForgettingLemmas.{stays_closed, all_left}
use Rattle.handlers.specs.Sound.{Beside, sources_at, records_at, desk_of, IsSized, IsSound}
use Rattle.handlers.proofs.ChargeLemmas.{has_path, weight, first_adds}
use Rattle.handlers.proofs.DeskLemmas.{IsKnown, sources_known, records_known, held_found, held_paths}

-- ---- what less is charged

-- of two lists of trees with their paths the second lacks some at one path, whose archive is so long
record Lacks (path : List ℕ) (size : ℕ) (all left : List Source) : Type 0 where
  weighs : weight all ≡ weight left + (if has_path path left then 0 else if has_path path all then size else 0)
  others : (q : List ℕ) → bytes_eq q path ≡ false → has_path q all ≡ has_path q left
  still : has_path path left ≡ true → has_path path all ≡ true

module _ (path : List ℕ) (size : ℕ) where
  lacks_none : Lacks path size [] []
  unfolding one_of_each
  lacks_none = record { weighs = refl; others = λ q other. refl; still = λ there. there }

  kept_sum : (l a : Bool) (wa wl x y : ℕ) → (l ≡ true → a ≡ true) → wa ≡ wl + (if l then 0 else if a then size else 0) → x ≡ wa + (if a then 0 else size)
      → y ≡ wl + (if l then 0 else size) → x ≡ y + 0
  kept_sum true true wa wl x y still w e f = omega (arith, w, e, f)
  kept_sum true false wa wl x y still w e f = absurd (let no = still refl in cc)
  kept_sum false true wa wl x y still w e f = omega (arith, w, e, f)
  kept_sum false false wa wl x y still w e f = omega (arith, w, e, f)

  gone_sum : (l a : Bool) (wa wl x : ℕ) → (l ≡ true → a ≡ true) → wa ≡ wl + (if l then 0 else if a then size else 0) → x ≡ wa + (if a then 0 else size)
      → x ≡ wl + (if l then 0 else size)
  gone_sum true true wa wl x still w e = omega (arith, w, e)
  gone_sum true false wa wl x still w e = absurd (let no = still refl in cc)
  gone_sum false true wa wl x still w e = omega (arith, w, e)
  gone_sum false false wa wl x still w e = omega (arith, w, e)

  module _ (s : Source) (all left : List Source) (lacks : Lacks path size all left) where
    -- what one adds that stands first
    adds : (xs : List Source) → bytes_eq s.path path ≡ true → length (nar s.tree) ≡ size
        → weight (s ∷ xs) ≡ weight xs + (if has_path path xs then 0 else size)
    adds xs t long = first_adds s xs ∙ (λ i. weight xs + (if has_path (same_bytes s.path path t i) xs then 0 else long i))

    -- one more of both
    lacks_kept : (bytes_eq s.path path ≡ true → length (nar s.tree) ≡ size) → Lacks path size (s ∷ all) (s ∷ left)
    lacks_kept long = record {
      weighs = weighs;
      others = λ q other. ap (λ b. bytes_eq s.path q || b) (lacks.others q other);
      still = still;
    }
      where
        weighs : weight (s ∷ all) ≡ weight (s ∷ left) + (if has_path path (s ∷ left) then 0 else if has_path path (s ∷ all) then size else 0)
        weighs = elim (either (bytes_eq s.path path)) [
          | inl t ↦ rw t (kept_sum (has_path path left) (has_path path all) (weight all) (weight left) (weight (s ∷ all)) (weight (s ∷ left)) lacks.still lacks.weighs
              (adds all t (long t)) (adds left t (long t)))
          | inr f ↦
              let more = first_adds s all ∙ ap (λ b. weight all + (if b then 0 else length (nar s.tree))) (lacks.others s.path f) in
              let less = first_adds s left in
              let own = lacks.weighs in
              rw f (omega (arith, more, less, own))
        ]

        still : has_path path (s ∷ left) ≡ true → has_path path (s ∷ all) ≡ true
        still there = elim (either (bytes_eq s.path path)) [ inl t ↦ rw t refl | inr f ↦ rw f (lacks.still (rw f at there)) ]

    -- one more, which the second lacks
    lacks_more : bytes_eq s.path path ≡ true → length (nar s.tree) ≡ size → Lacks path size (s ∷ all) left
    lacks_more t long = record {
      weighs = rw t (gone_sum (has_path path left) (has_path path all) (weight all) (weight left) (weight (s ∷ all)) lacks.still lacks.weighs (adds all t long));
      others = λ q other.
          let none : bytes_eq s.path q ≡ false = ap (λ p. bytes_eq p q) (same_bytes s.path path t) ∙ bytes_eq_sym path q ∙ other in
          rw none (lacks.others q other);
      still = λ there. rw t refl;
    }

module _ (table : List Source) (class path : List ℕ) where
  abbrev size : ℕ
  size = length (nar (tree_in table path))

  long_as : (p : List ℕ) → bytes_eq p path ≡ true → length (nar (tree_in table p)) ≡ size
  long_as p t = ap (λ q. length (nar (tree_in table q))) (same_bytes p path t)

  abbrev paths : List Recorded → List (List ℕ)
  paths records = map (λ r. r.path) records

  records_lack : (records : List Recorded) → Lacks path size (sources_at table (paths records)) (sources_at table (paths (remaining class path records)))
  records_lack [] = lacks_none path size
  records_lack (r ∷ records) =
      let all = sources_at table (paths records) in
      let left = sources_at table (paths (remaining class path records)) in
      elim (either (is_recorded_at class path r)) [
        | inl t ↦
            let at = (both_parts (bytes_eq r.class.path class) (bytes_eq r.path path) t).1 in
            rw t (lacks_more path size (source_at table r.path) all left (records_lack records) at (long_as r.path at))
        | inr f ↦ rw f (lacks_kept path size (source_at table r.path) all left (records_lack records) (long_as r.path))
      ]

  paths_lack : (front : List (List ℕ)) (records : List Recorded)
      → Lacks path size (sources_at table (front ++ paths records)) (sources_at table (front ++ paths (remaining class path records)))
  paths_lack [] records = records_lack records
  paths_lack (p ∷ front) records =
      lacks_kept path size (source_at table p) (sources_at table (front ++ paths records)) (sources_at table (front ++ paths (remaining class path records)))
      (paths_lack front records) (long_as p)

  -- the path of a record that is there is held
  path_there : (records : List Recorded) → list_any (is_recorded_at class path) records ≡ true → is_one_of (paths records) path ≡ true
  path_there [] there = cc
  path_there (r ∷ records) there = elim (or_cases (is_recorded_at class path r) (list_any (is_recorded_at class path) records) there) [
    | inl t ↦ or_left (bytes_eq r.path path) _ (both_parts (bytes_eq r.class.path class) (bytes_eq r.path path) t).1
    | inr rest ↦ or_right (bytes_eq r.path path) _ (path_there records rest)
  ]

  -- its archive is as long as the table has it
  sized_there : (archives : List (List ℕ × ℕ)) → All (IsSized table) archives → list_any (bytes_eq path) (paths_held archives) ≡ true
      → bytes_at path archives ≡ size
  sized_there [] sized there = cc
  sized_there (a ∷ archives) sized there = elim (either (bytes_eq path a.0)) [
    | inl t ↦
        let own : option_map (λ x. length (nar x)) (tree_at a.0 table) ≡ Some a.1 = All-head (IsSized table) a archives sized in
        let back : bytes_eq a.0 path ≡ true = bytes_eq_sym a.0 path ∙ t in
        rw t (sym (found (tree_at a.0 table) a.1 own) ∙ long_as a.0 back)
    | inr f ↦ rw f (sized_there archives (All-tail (IsSized table) a archives sized) (rw f at there))
  ]
    where
      found : (o : Option Tree) (n : ℕ) → option_map (λ x. length (nar x)) o ≡ Some n → length (nar (unwrap_or o (Link []))) ≡ n
      found None n e = cc
      found (Some x) n e = cc

  known_left : (records : List Recorded) → All (IsKnown table) (paths records) → All (IsKnown table) (paths (remaining class path records))
  known_left [] known = known
  known_left (r ∷ records) known = elim (either (is_recorded_at class path r)) [
    | inl t ↦ rw t (known_left records (All-tail (IsKnown table) r.path (paths records) known))
    | inr f ↦ rw f (All-cons (IsKnown table) r.path (paths (remaining class path records)) (All-head (IsKnown table) r.path (paths records) known)
        (known_left records (All-tail (IsKnown table) r.path (paths records) known)))
  ]

  -- ---- the desk without them

  module _ (limit : ℕ) (d : Holdings) (sound : IsSound table limit d) (there : list_any (is_recorded_at class path) d.records ≡ true)
      (held : list_any (bytes_eq path) (paths_held d.archives) ≡ true) where
    abbrev after : Holdings
    after = without_records class path d

    abbrev all : List Source
    all = sources_at table (paths_of d)

    abbrev left : List Source
    left = sources_at table (paths_of after)

    charged_less : (stays : Bool) → stays ≡ stays_held class path d → d.charge ≡ weight all
        → weight all ≡ weight left + (if stays then 0 else size) → d.charge - (if stays then 0 else bytes_at path d.archives) ≡ weight left
    charged_less true is charge less = omega (arith, charge, less)
    charged_less false is charge less = let bytes = sized_there d.archives sound.sized held in omega (arith, charge, less, bytes)

    charged_left : (beside : Beside) → after.charge ≡ charge_of (desk_of beside table after)
    unfolding charge_of
    charged_left beside =
        let own : d.charge ≡ weight all = sound.charged beside ∙ ap weight (held_paths beside table d) in
        let in_all : has_path path all ≡ true =
        sym (held_found table (paths_of d) path) ∙ list_any-append (λ p. bytes_eq p path) d.known.sources (paths d.records)
        ∙ or_right (list_any (λ p. bytes_eq p path) d.known.sources) _ (path_there d.records there) in
        let in_left : has_path path left ≡ stays_held class path d = sym (held_found table (paths_of after) path) in
        let less : weight all ≡ weight left + (if stays_held class path d then 0 else size) =
        (paths_lack d.known.sources d.records).weighs ∙ (λ i. weight left + (if in_left i then 0 else if in_all i then size else 0)) in
        charged_less (stays_held class path d) refl own less ∙ ap weight (sym (held_paths beside table after))

    pub sound_without : is_needed class path d ≡ false → IsSound table limit after
    sound_without free = record {
      charged = charged_left;
      sized = elim (either (stays_held class path d)) [ inl t ↦ rw t sound.sized | inr f ↦ rw f (all_left (IsSized table) path d.archives sound.sized) ];
      within = (let own = sound.within in omega (arith, own));
      few_sources = sound.few_sources;
      few_derivations = sound.few_derivations;
      few_records = (
          let count = length-filter (λ r. not (is_recorded_at class path r)) d.records in
          let less = count_by-le-length (λ r. not (is_recorded_at class path r)) d.records in
          let own = sound.few_records in
          omega (arith, count, less, own));
      few_pins = sound.few_pins;
      known = All-append (IsKnown table) d.known.sources (paths (remaining class path d.records)) (sources_known table limit d sound)
          (known_left d.records (records_known table limit d sound));
      closed = stays_closed class path d free sound.closed;
    }

-- ---- in the terms of the model

module _ (table : List Source) (class path : List ℕ) where
  pub there_as : (records : List Recorded) → list_any (is_record_at class path) (records_at table records) ≡ list_any (is_recorded_at class path) records
  there_as [] = refl
  there_as (r ∷ records) = ap (λ b. is_recorded_at class path r || b) (there_as records)

  pub remaining_as : (records : List Recorded) → model.remaining class path (records_at table records) ≡ records_at table (remaining class path records)
  remaining_as [] = refl
  remaining_as (r ∷ records) = elim (either (is_recorded_at class path r)) [
    | inl t ↦ rw t (remaining_as records)
    | inr f ↦ rw f (ap (λ rest. record_at table r ∷ rest) (remaining_as records))
  ]

  refers_as : (records : List Recorded) → list_any (model.refers_to_class class path) (records_at table records) ≡ list_any (refers_to class path) records
  refers_as [] = refl
  refers_as (r ∷ records) = ap (λ b. refers_to class path r || b) (refers_as records)

  -- whether a record that remains refers to it
  pub needed_as : (d : Holdings)
      → list_any (model.refers_to_class class path) (model.remaining class path (records_at table d.records)) ≡ is_needed class path d
  needed_as d = ap (list_any (model.refers_to_class class path)) (remaining_as d.records) ∙ refers_as (remaining class path d.records)

  -- the desk of the model without them
  pub desk_without : (beside : Beside) (d : Holdings) → model.without_records class path (desk_of beside table d)
      ≡ desk_of (record { trusted = beside.trusted; goals = map (model.let_go class path) beside.goals }) table (without_records class path d)
  desk_without beside d =
      let records = remaining_as d.records in
      λ i. record {
        trusted = beside.trusted;
        sources = sources_at table d.known.sources;
        derivations = d.known.derivations;
        records = records i;
        pins = d.pins;
        goals = map (model.let_go class path) beside.goals;
      }
