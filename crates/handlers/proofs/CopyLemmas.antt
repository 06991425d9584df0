-- A desk to which the entries of a closure are copied.
use Rattle.std.proofs.Common.{◌≡◌, ℕ, ◌+◌, ◌≤◌, ◌⊎◌, rules, Bool, true, false, inl, inr, List, [], ◌∷◌, ◌++◌, length, refl, sym, ◌∙◌, ap, subst, arith, Option, Some, None, Ok, Err}
use Rattle.std.specs.Prelude.{All, map, option_map, bytes_eq, nat_le, not, ◌&&◌}
use Rattle.std.specs.List.{list_any}
use Rattle.std.proofs.lemmas.List.{length-append}
use Rattle.std.proofs.lemmas.List.Elements.{All-nil, All-cons, All-head, All-tail, All-weaker, All-push, All-filter}
use Rattle.std.proofs.lemmas.List.Folds.{list_any-append}
use Rattle.std.proofs.lemmas.Bool.Decides.{nat_tests}
use Rattle.std.proofs.lemmas.Bool.{or_left, or_right, and_from, not_from_false}
use Rattle.model.specs.declared.refusal.Refusal.{Refusal}
use Rattle.model.specs.declared.refusal.Refusal.TheVariants.{Memory, Clash, Quota}
use Rattle.model.specs.Archives.{Tree, nar}
use Rattle.model.specs.Replies as replies
use Rattle.model.specs.Outcomes.{becomes, check, room}
use Rattle.model.specs.Classes.{Class}
use Rattle.model.specs.Limits.{most_sources, most_derivations, most_records, most_pins}
use Rattle.model.specs.Worlds.{Source, Record, Desk, OfSource, OfRecord, path_of_entry, tree_at, are_distinct, charge_of, is_within, has_entry, with_entry, with_all, missing, with_entries}
use Rattle.model.specs.Worlds as worlds
use Rattle.model.specs.Closures.{class_of_entry, tree_of_entry, path_of_class}
use Rattle.model.proofs.BoolLemmas.{either, bytes_same, or_cases, both_parts}
use Rattle.laws.proofs.MemberLemmas.{In, in_of, contains_of, from_filter, in_filter}
use Rattle.closure_laws.proofs.MadeLemmas.{all_from}
use Rattle.laws.proofs.SetLemmas.{clash}
use Rattle.records.specs.Recorded.{Recorded, without_tree, same_recorded}
use Rattle.records.specs.declared.desk_entry.DeskEntry.{DeskEntry}
use Rattle.records.specs.DeskEntries.{entry_path, entry_with}
use Rattle.realise.specs.Holdings.{Holdings, bare, paths_of, archive_of, is_on, holds_entry, holds_each, charged_all, sources_in, records_in, is_at, has_labelled, IsClosed, IsClosedWith}
use Rattle.realise.proofs.SeveralLemmas.{with_parts, each_parts}
use Rattle.store.specs.Stored.{Extends, put_all, source_of, sources_of, AreThere, AreTaken as AreTakenOf}
use Rattle.store.proofs.PuttingLemmas.{put_all-Extends}
use Rattle.handlers.specs.Stored.{source_of_entry}
use Rattle.handlers.specs.Sound.{sources_at, records_at, desk_of, IsSized, IsSound, Beside}
use Rattle.handlers.specs.Taking.{tree_with_path, entry_without, counted, missing_on, are_roomy, AreLabelled, AreCopyable, copied, CopiesEntries}
use Rattle.handlers.specs.Supported.{IsEntryOn, GainsOnly}
use Rattle.handlers.proofs.MissingLemmas.{bare_entries}
use Rattle.handlers.proofs.PuttingLemmas.{unmapped}
use Rattle.handlers.proofs.AddingLemmas.{has_entry-is_on, charge_of-entry, sources_at-push, records_at-push, known-entry, charge_is, archives_are}
use Rattle.handlers.proofs.ClosedLemmas.{still_labelled}
use Rattle.handlers.proofs.DeskLemmas.{IsKnown, desk_kept, known_kept, sized_kept, sized_with, length-sources_at, length-records_at}
use Rattle.handlers.proofs.SupportLemmas.{gains_nothing}

-- ---- one entry

-- an entry is what is put on the desk, with its tree
with_its_tree : (e : worlds.Entry) → entry_with (tree_of_entry e) (entry_without e) ≡ e
with_its_tree (OfSource s) = refl
with_its_tree (OfRecord r) = refl

its_path : (e : worlds.Entry) → entry_path (entry_without e) ≡ path_of_entry e
its_path (OfSource s) = refl
its_path (OfRecord r) = refl

-- the table has the tree of an entry at its path
abbrev pub IsThereFor : List Source → worlds.Entry → Type 0
IsThereFor table e = tree_at (path_of_entry e) table ≡ Some (tree_of_entry e)

module _ (table : List Source) where
  one_copied : (beside : Beside) (d : Holdings) (e : worlds.Entry) (more : ℕ) → IsThereFor table e
      → desk_of beside table (holds_entry (entry_without e) more d) ≡ with_entry e (desk_of beside table d)
  one_copied beside d (OfSource s) more there =
      let sources = sources_at-push table d.known.sources s.path s.tree there in
      λ i. record {
        trusted = beside.trusted;
        sources = sources i;
        derivations = d.known.derivations;
        records = records_at table d.records;
        pins =
            d.pins;
        goals = beside.goals;
      }
  one_copied beside d (OfRecord r) more there =
      let records = records_at-push table d.records (without_tree r) r.tree there in
      λ i. record {
        trusted = beside.trusted;
        sources = sources_at table d.known.sources;
        derivations = d.known.derivations;
        records = records i;
        pins = d.pins;
        goals = beside.goals;
      }

  -- the bytes of the archive of an entry
  abbrev its_archive : worlds.Entry → ℕ
  its_archive e = length (nar (tree_of_entry e))

  one_charged : (beside : Beside) (d : Holdings) (e : worlds.Entry) → IsThereFor table e → d.charge ≡ charge_of (desk_of beside table d)
      → (holds_entry (entry_without e) (its_archive e) d).charge ≡ charge_of (desk_of beside table (holds_entry (entry_without e) (its_archive e) d))
  one_charged beside d e there charged =
      let stored : tree_at (entry_path (entry_without e)) table ≡ Some (tree_of_entry e) = ap (λ p. tree_at p table) (its_path e) ∙ there in
      charge_is (entry_without e) (its_archive e) d
      ∙ sym (charge_of-entry beside table d (tree_of_entry e) (entry_without e) charged (λ held. stored))
      ∙ ap (λ x. charge_of (with_entry x (desk_of beside table d))) (with_its_tree e)
      ∙ ap charge_of (sym (one_copied beside d e (its_archive e) there))

  -- ---- all entries

  -- a desk with these entries, one after another
  abbrev with_each : List worlds.Entry → Holdings → Holdings
  with_each es d = holds_each (map counted es) d

  all_copied : (beside : Beside) (es : List worlds.Entry) (d : Holdings) → All (IsThereFor table) es
      → desk_of beside table (with_each es d) ≡ with_all es (desk_of beside table d)
  unfolding with_all
  all_copied beside [] d there = refl
  all_copied beside (e ∷ es) d there =
      all_copied beside es (holds_entry (entry_without e) (its_archive e) d) (All-tail (IsThereFor table) e es there)
      ∙ ap (with_all es) (one_copied beside d e (its_archive e) (All-head (IsThereFor table) e es there))

  all_charged : (beside : Beside) (es : List worlds.Entry) (d : Holdings) → All (IsThereFor table) es → d.charge ≡ charge_of (desk_of beside table d)
      → (with_each es d).charge ≡ charge_of (desk_of beside table (with_each es d))
  all_charged beside [] d there charged = charged
  all_charged beside (e ∷ es) d there charged =
      all_charged beside es (holds_entry (entry_without e) (its_archive e) d) (All-tail (IsThereFor table) e es there)
      (one_charged beside d e (All-head (IsThereFor table) e es there) charged)

  all_known : (es : List worlds.Entry) (d : Holdings) → All (IsThereFor table) es → All (IsKnown table) (paths_of d)
      → All (IsKnown table) (paths_of (with_each es d))
  all_known [] d there known = known
  all_known (e ∷ es) d there known =
      let here : IsThereFor table e = All-head (IsThereFor table) e es there in
      let one : IsKnown table (entry_path (entry_without e)) = rw (its_path e, here) refl in
      all_known es (holds_entry (entry_without e) (its_archive e) d) (All-tail (IsThereFor table) e es there)
      (known-entry table d (entry_without e) (its_archive e) known one)

  all_sized : (es : List worlds.Entry) (d : Holdings) → All (IsThereFor table) es → All (IsSized table) d.archives
      → All (IsSized table) (with_each es d).archives
  all_sized [] d there sized = sized
  all_sized (e ∷ es) d there sized =
      let stored : tree_at (entry_path (entry_without e)) table ≡ Some (tree_of_entry e) = ap (λ p. tree_at p table) (its_path e)
      ∙ All-head (IsThereFor table) e es there in
      all_sized es (holds_entry (entry_without e) (its_archive e) d) (All-tail (IsThereFor table) e es there)
      (subst (All (IsSized table)) (sym (archives_are (entry_without e) (its_archive e) d))
      (sized_with table (entry_path (entry_without e), its_archive e) d.archives (ap (option_map (λ t. length (nar t))) stored) sized))

-- ---- those that are missing

same_missing : (beside : Beside) (table : List Source) (d : Holdings) (entries : List worlds.Entry)
    → missing entries (desk_of beside table d) ≡ missing_on d entries
same_missing beside table d [] = refl
same_missing beside table d (e ∷ entries) =
    let same : has_entry e (desk_of beside table d) ≡ is_on (entry_without e) d =
    ap (λ x. has_entry x (desk_of beside table d)) (sym (with_its_tree e)) ∙ has_entry-is_on beside table d (tree_of_entry e) (entry_without e) in
    elim (either (is_on (entry_without e) d)) [
      | inl t ↦ rw (same, t) (same_missing beside table d entries)
      | inr f ↦ rw (same, f) (ap (λ rest. e ∷ rest) (same_missing beside table d entries))
    ]

-- ---- what the labels name

still_each : (es : List (DeskEntry × ℕ)) (d : Holdings) (path : List ℕ) (class : Option Class) → has_labelled d path class ≡ true
    → has_labelled (holds_each es d) path class ≡ true
still_each [] d path class h = h
still_each (e ∷ es) d path class h =
    still_each es (holds_entry e.0 e.1 d) path class (still_labelled d e.0 e.1 path class h)

one_labelled : (d : Holdings) (e : worlds.Entry) (more : ℕ) → has_labelled (holds_entry (entry_without e) more d) (path_of_entry e) (class_of_entry e) ≡ true
one_labelled d (OfSource s) more =
    list_any-append (λ p. bytes_eq p s.path) d.known.sources (s.path ∷ [])
    ∙ or_right (list_any (λ p. bytes_eq p s.path) d.known.sources) _ (or_left (bytes_eq s.path s.path) false (bytes_same s.path))
one_labelled d (OfRecord r) more =
    list_any-append (is_at r.path r.class) d.records (without_tree r ∷ [])
    ∙ or_right (list_any (is_at r.path r.class) d.records) _
    (or_left (is_at r.path r.class (without_tree r)) false (and_from (bytes_eq r.path r.path) (bytes_eq r.class.path r.class.path) (bytes_same r.path)
    (bytes_same r.class.path)))

each_labelled : (es : List worlds.Entry) (d : Holdings) (e : worlds.Entry) → In e es
    → has_labelled (holds_each (map counted es) d) (path_of_entry e) (class_of_entry e) ≡ true
each_labelled [] d e h = absurd h
each_labelled (x ∷ es) d e h =
    let archive = length (nar (tree_of_entry x)) in
    let next : Holdings = holds_entry (entry_without x) archive d in
    elim h [
      | inl same ↦ still_each (map counted es) next (path_of_entry e) (class_of_entry e)
          (subst (λ y. has_labelled next (path_of_entry y) (class_of_entry y) ≡ true) same (one_labelled d x archive))
      | inr behind ↦ each_labelled es next e behind
    ]

at_if_same : (records : List Recorded) (r : Recorded) → list_any (λ q. same_recorded q r) records ≡ true → list_any (is_at r.path r.class) records ≡ true
at_if_same [] r h = cc
at_if_same (q ∷ records) r h = elim (or_cases (same_recorded q r) (list_any (λ x. same_recorded x r) records) h) [
  | inl t ↦
      let class = both_parts (bytes_eq q.class.path r.class.path) _ t in
      let path = both_parts (bytes_eq q.path r.path) _ class.1 in
      or_left (is_at r.path r.class q) _ (and_from (bytes_eq q.path r.path) (bytes_eq q.class.path r.class.path) path.0 class.0)
  | inr rest ↦ or_right (is_at r.path r.class q) _ (at_if_same records r rest)
]

labelled_on : (d : Holdings) (e : worlds.Entry) → is_on (entry_without e) d ≡ true → has_labelled d (path_of_entry e) (class_of_entry e) ≡ true
labelled_on d (OfSource s) on = on
labelled_on d (OfRecord r) on = at_if_same d.records (without_tree r) on

-- what is labelled with a class is so with each of the same path
labelled_alike : (d : Holdings) (path : List ℕ) (a b : Option Class) → path_of_class a ≡ path_of_class b → has_labelled d path a ≡ true
    → has_labelled d path b ≡ true
labelled_alike d path None None e h = h
labelled_alike d path None (Some b) e h = absurd (cc)
labelled_alike d path (Some a) None e h = absurd (cc)
labelled_alike d path (Some a) (Some b) e h =
    let same : a.path ≡ b.path = cc in
    subst (λ p. list_any (λ (r : Recorded). bytes_eq r.path path && bytes_eq r.class.path p) d.records ≡ true) same h

module _ (d : Holdings) (entries : List worlds.Entry) where
  abbrev after : Holdings
  after = holds_each (map counted (missing_on d entries)) d

  entry_there : (e : worlds.Entry) → In e entries → has_labelled after (path_of_entry e) (class_of_entry e) ≡ true
  entry_there e h = elim (either (is_on (entry_without e) d)) [
    | inl t ↦ still_each (map counted (missing_on d entries)) d (path_of_entry e) (class_of_entry e) (labelled_on d e t)
    | inr f ↦ each_labelled (missing_on d entries) d e
        (in_filter (λ x. not (is_on (entry_without x) d)) e entries h (not_from_false (is_on (entry_without e) d) f))
  ]

  entries_there : All (λ e. has_labelled after (path_of_entry e) (class_of_entry e) ≡ true) entries
  entries_there = all_from (λ e. has_labelled after (path_of_entry e) (class_of_entry e) ≡ true) entries entry_there

  still_after : GainsOnly d after
  still_after path class h = still_each (map counted (missing_on d entries)) d path class h

  record_closed : AreLabelled entries → (r : Record) → In (OfRecord r) entries → IsClosedWith after (without_tree r)
  record_closed labelled r h = by r.labels (λ l k. k)
    where
      named : (l : worlds.Label) → In l r.labels → has_labelled after l.path l.class ≡ true
      named l k =
          let w = labelled (OfRecord r) l (contains_of entries (OfRecord r) h) (contains_of r.labels l k) in
          let there = entry_there w.1 (in_of entries w.1 (w.0, w.2, w.3)) in
          labelled_alike after l.path (class_of_entry w.1) l.class w.4.1 (subst (λ p. has_labelled after p (class_of_entry w.1) ≡ true) w.4.0 there)

      by : (labels : List worlds.Label) → ((l : worlds.Label) → In l labels → In l r.labels) → All (λ l. has_labelled after l.path l.class ≡ true) labels
      by [] inside = All-nil (λ (l : worlds.Label). has_labelled after l.path l.class ≡ true)
      by (l ∷ labels) inside =
          All-cons (λ (l : worlds.Label). has_labelled after l.path l.class ≡ true) l labels (named l (inside l (inl refl))) (by labels (λ m k.
          inside m (inr k)))

  -- what holds of the records of a desk and of the entries holds of all its records then
  all_records : (P : Recorded → Type 0) (es : List worlds.Entry) (from : Holdings) → All P from.records
      → ((r : Record) → In (OfRecord r) es → P (without_tree r)) → All P (holds_each (map counted es) from).records
  all_records P [] from old own = old
  all_records P (OfSource s ∷ es) from old own = all_records P es _ old (λ r h. own r (inr h))
  all_records P (OfRecord q ∷ es) from old own = all_records P es _ (All-push P from.records (without_tree q) old (own q (inl refl))) (λ r h. own r (inr h))

  all_closed : AreLabelled entries → IsClosed d → IsClosed after
  all_closed labelled closed =
      all_records (IsClosedWith after) (missing_on d entries) d
      (All-weaker (IsClosedWith d) (IsClosedWith after) (λ r all. All-weaker (λ l. has_labelled d l.path l.class ≡ true) (λ l. has_labelled after
      l.path l.class ≡ true)
      (λ l h. still_each (map counted (missing_on d entries)) d l.path l.class h) r.labels all) d.records closed)
      (λ r h. record_closed labelled r (from_filter (λ e. not (is_on (entry_without e) d)) (OfRecord r) entries h).0)

-- ---- room

module _ (old new : List Source) (limit : ℕ) (d : Holdings) (entries : List worlds.Entry)
    (later : Extends old new) (there : All (IsThereFor new) entries) (sound : IsSound old limit d) where
  abbrev found : List worlds.Entry
  found = missing_on d entries

  abbrev pub bytes_more : ℕ
  bytes_more = charged_all (map counted found) d

  abbrev pub with_found : Holdings
  with_found = holds_each (map counted found) d

  in_parts : with_found ≡ with_parts (sources_in (bare_entries found)) (records_in (bare_entries found)) (map archive_of (map counted found)) bytes_more d
  in_parts = each_parts (map counted found) d

  found_there : All (IsThereFor new) found
  found_there = All-filter (λ e. not (is_on (entry_without e) d)) (IsThereFor new) entries there

  -- the desk with them is the model's
  pub desk_copied : (beside : Beside) → with_entries entries (desk_of beside old d) ≡ desk_of beside new with_found
  desk_copied beside =
      ap (λ es. with_all es (desk_of beside old d)) (same_missing beside old d entries)
      ∙ ap (with_all found) (sym (desk_kept beside old new limit d later sound))
      ∙ sym (all_copied new beside found d found_there)

  charged_so : (beside : Beside) → with_found.charge ≡ charge_of (desk_of beside new with_found)
  charged_so beside =
      let before : d.charge ≡ charge_of (desk_of beside new d) = sound.charged beside ∙ ap charge_of (sym (desk_kept beside old new limit d later sound)) in
      all_charged new beside found d found_there before

  charge_sum : with_found.charge ≡ d.charge + bytes_more
  charge_sum = ap (λ (h : Holdings). h.charge) in_parts

  source_sum : length with_found.known.sources ≡ length d.known.sources + length (sources_in (bare_entries found))
  source_sum = ap (λ (h : Holdings). length h.known.sources) in_parts ∙ length-append d.known.sources (sources_in (bare_entries found))

  record_sum : length with_found.records ≡ length d.records + length (records_in (bare_entries found))
  record_sum = ap (λ (h : Holdings). length h.records) in_parts ∙ length-append d.records (records_in (bare_entries found))

  -- whether it is within the limits
  pub within_copied : (users : List (List ℕ)) (beside : Beside)
      → is_within (record { users = users; charge = limit }) (desk_of beside new with_found) ≡ are_roomy (bare_entries found) bytes_more limit d
  unfolding is_within charge_of
  within_copied users beside =
      let sources : length (sources_at new with_found.known.sources) ≡ length d.known.sources + length (sources_in (bare_entries found)) =
      length-sources_at new with_found.known.sources ∙ source_sum in
      let records : length (records_at new with_found.records) ≡ length d.records + length (records_in (bare_entries found)) =
      length-records_at new with_found.records ∙ record_sum in
      let same_derivations : with_found.known.derivations ≡ d.known.derivations = ap (λ (h : Holdings). h.known.derivations) in_parts in
      let same_pins : with_found.pins ≡ d.pins = ap (λ (h : Holdings). h.pins) in_parts in
      let derivations : nat_le (length d.known.derivations) most_derivations ≡ true = grind (arith, nat_tests, sound.few_derivations) in
      let pins : nat_le (length d.pins) most_pins ≡ true = grind (arith, nat_tests, sound.few_pins) in
      let charge : charge_of (desk_of beside new with_found) ≡ d.charge + bytes_more = sym (charged_so beside) ∙ charge_sum in
      rw (sources, records, same_derivations, same_pins, derivations, pins, charge) refl

  pub closed_copied : AreCopyable entries → IsClosed with_found
  closed_copied copyable = all_closed d entries copyable.labelled sound.closed

  -- all of them are on it, and so is what was
  pub there_copied : All (IsEntryOn with_found) entries
  there_copied = entries_there d entries

  pub gains_copied : GainsOnly d with_found
  gains_copied = still_after d entries

  pub sound_copied : AreCopyable entries → are_roomy (bare_entries found) bytes_more limit d ≡ true → IsSound new limit with_found
  sound_copied copyable roomy =
      let S : List DeskEntry = bare_entries found in
      let first = both_parts (nat_le (length d.known.sources + length (sources_in S)) most_sources) _ roomy in
      let second = both_parts (nat_le (length d.records + length (records_in S)) most_records) _ first.1 in
      record {
        charged = charged_so;
        sized = all_sized new found d found_there (sized_kept old new later d.archives sound.sized);
        within = (let fits : d.charge + bytes_more ≤ limit = grind (arith, nat_tests, second.1) in rw charge_sum fits);
        few_sources = (let fits : length d.known.sources + length (sources_in S) ≤ most_sources = grind (arith, nat_tests, first.0) in rw source_sum fits);
        few_derivations = (let same : with_found.known.derivations ≡ d.known.derivations = ap (λ (h : Holdings). h.known.derivations) in_parts in
            rw same sound.few_derivations);
        few_records = (let fits : length d.records + length (records_in S) ≤ most_records = grind (arith, nat_tests, second.0) in rw record_sum fits);
        few_pins = (let same : with_found.pins ≡ d.pins = ap (λ (h : Holdings). h.pins) in_parts in rw same sound.few_pins);
        known = all_known new found d found_there (known_kept old new later (paths_of d) sound.known);
        closed = closed_copied copyable;
      }

-- ---- copying

-- the trees of entries are those of their sources
sources_same : (es : List worlds.Entry) → sources_of (map tree_with_path es) ≡ map source_of_entry es
sources_same [] = refl
sources_same (e ∷ es) = ap (λ rest. source_of_entry e ∷ rest) (sources_same es)

pub sources_are : (entries : List worlds.Entry) (trees : List (List ℕ × Tree)) → trees ≡ map tree_with_path entries
    → sources_of trees ≡ map source_of_entry entries
sources_are entries trees is = ap sources_of is ∙ sources_same entries

pub all_there : (old : List Source) (entries : List worlds.Entry) (trees : List (List ℕ × Tree)) → trees ≡ map tree_with_path entries → AreThere old trees
    → All (IsThereFor (put_all (map source_of_entry entries) old)) entries
all_there old entries trees is there =
    let here : AreThere old (map tree_with_path entries) = subst (AreThere old) is there in
    let P : List Source → List ℕ × Tree → Type 0 = λ sources e. tree_at e.0 (put_all sources old) ≡ Some e.1 in
    unmapped (P (map source_of_entry entries)) tree_with_path entries (subst (λ sources. All (P sources) (map tree_with_path entries))
    (sources_same entries) here)

map_parts : {X Y : Type 0} (f : X → Y) (xs : List X) (y : X) (zs : List X) → map f (xs ++ y ∷ zs) ≡ map f xs ++ f y ∷ map f zs
map_parts f [] y zs = refl
map_parts f (x ∷ xs) y zs = ap (λ rest. f x ∷ rest) (map_parts f xs y zs)

-- another tree is at the path of one of them, or memory was refused
pub uncopied : (limit : ℕ) (old : List Source) (d : Holdings) (entries : List worlds.Entry) (trees : List (List ℕ × Tree)) (why : Refusal)
    → trees ≡ map tree_with_path entries → (why ≡ Memory) ⊎ ((why ≡ Clash) × AreTakenOf old trees) → CopiesEntries limit old d entries (Err why) old d
uncopied limit old d entries trees why is (inl memory) = record {
  fits = λ users beside reply own. (let no = rw memory at own in cc);
  stored = search rules;
  sound = search rules;
  there = search rules;
  gains = gains_nothing d;
  kept = record { sources = refl; desk = refl };
  taken = λ clash. (let no : Memory ≡ Clash = sym memory ∙ (let same : why ≡ Clash = cc in same) in cc);
}
uncopied limit old d entries trees why is (inr clash) =
    let t = clash.1 in
    record {
      fits = λ users beside reply own. (let no = rw clash.0 at own in cc);
      stored = search rules;
      sound = search rules;
      there = search rules;
      gains = gains_nothing d;
      kept = record { sources = refl; desk = refl };
      taken = λ same. record {
        before = sources_of t.before;
        source = source_of t.one;
        behind = sources_of t.after;
        parts = sym (sources_are entries trees is) ∙ ap sources_of t.are ∙ map_parts source_of t.before t.one t.after;
        taken = t.taken;
      };
    }

module _ (limit : ℕ) (old : List Source) (d : Holdings) (entries : List worlds.Entry) (trees : List (List ℕ × Tree)) (sound : IsSound old limit d)
    (copyable : AreCopyable entries) (is : trees ≡ map tree_with_path entries) (there : AreThere old trees) where
  abbrev later_table : List Source
  later_table = put_all (map source_of_entry entries) old

  its_later : Extends old later_table
  its_later = put_all-Extends (map source_of_entry entries) old

  its_there : All (IsThereFor later_table) entries
  its_there = all_there old entries trees is there

  abbrev its_more : ℕ
  its_more = charged_all (map counted (missing_on d entries)) d

  abbrev its_desk : Holdings
  its_desk = holds_each (map counted (missing_on d entries)) d

  roomy_as : (found : List (DeskEntry × ℕ)) (more : ℕ) (b : Bool) → found ≡ map counted (missing_on d entries) → more ≡ charged_all found d
      → are_roomy (bare found) more limit d ≡ b → are_roomy (bare_entries (missing_on d entries)) its_more limit d ≡ b
  roomy_as found more b found_is more_is roomy =
      subst (λ f. are_roomy (bare f) (charged_all f d) limit d ≡ b) found_is (subst (λ m. are_roomy (bare found) m limit d ≡ b) more_is roomy)

  copied_as : (users : List (List ℕ)) (beside : Beside) (reply : replies.Reply) (b : Bool)
      → are_roomy (bare_entries (missing_on d entries)) its_more limit d ≡ b
      → copied users limit beside old d entries reply ≡ check Quota b (becomes (desk_of beside later_table its_desk) reply)
  copied_as users beside reply b roomy =
      ap (λ x. room (record { users = users; charge = limit }) x reply) (desk_copied old later_table limit d entries its_later its_there sound beside)
      ∙ ap (λ t. check Quota t (becomes (desk_of beside later_table its_desk) reply))
      (within_copied old later_table limit d entries its_later its_there sound users beside ∙ roomy)

  -- there is no room for them
  pub over_copied : (found : List (DeskEntry × ℕ)) (more : ℕ) → found ≡ map counted (missing_on d entries) → more ≡ charged_all found d
      → are_roomy (bare found) more limit d ≡ false → CopiesEntries limit old d entries (Err Quota) old d
  over_copied found more found_is more_is over = record {
    fits = λ users beside reply own. copied_as users beside reply false (roomy_as found more false found_is more_is over);
    stored = search rules;
    sound = search rules;
    there = search rules;
    gains = gains_nothing d;
    kept = record { sources = refl; desk = refl };
    taken = λ clash. cc;
  }

  -- what the labels on the desk with them name is on it
  pub entries_closed : (found : List (DeskEntry × ℕ)) → found ≡ map counted (missing_on d entries) → IsClosed (holds_each found d)
  entries_closed found found_is =
      rw found_is (closed_copied old later_table limit d entries its_later its_there sound copyable)

  -- they are copied
  pub done_copied : (found : List (DeskEntry × ℕ)) (more : ℕ) (new : List Source) (after : Holdings) → found ≡ map counted (missing_on d entries)
      → more ≡ charged_all found d → are_roomy (bare found) more limit d ≡ true → new ≡ put_all (sources_of trees) old → after ≡ holds_each found d
      → CopiesEntries limit old d entries (Ok tt) new after
  done_copied found more new after found_is more_is roomy new_is after_is =
      let room = roomy_as found more true found_is more_is roomy in
      let table : new ≡ later_table = new_is ∙ ap (λ ss. put_all ss old) (sources_are entries trees is) in
      let desk : after ≡ its_desk = after_is ∙ rw found_is refl in
      rw (table, desk) (record {
        fits = λ users beside reply. copied_as users beside reply true room;
        stored = refl;
        sound = sound_copied old later_table limit d entries its_later its_there sound copyable room;
        there = there_copied old later_table limit d entries its_later its_there sound;
        gains = gains_copied old later_table limit d entries its_later its_there sound;
        kept = search rules;
        taken = λ clash. cc;
      })
