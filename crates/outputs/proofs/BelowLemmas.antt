-- The records below a derivation are those that the steps reach, and the candidates are their labels and those of the sources.
use Rattle.std.proofs.Common.{◌≡◌, ℕ, zero, suc, ◌+◌, ◌≤◌, Bool, true, ◌&&◌, ◌||◌, not, ◌⊎◌, inl, inr, List, [], ◌∷◌, ◌++◌, map, length, refl, sym, ap, ◌∙◌, arith}
use Rattle.std.specs.Prelude.{bytes_eq, filter, Option, Some, None}
use Rattle.std.specs.List.{list_any}
use Rattle.std.proofs.lemmas.Bool.{or_left, or_right, and_from}
use Rattle.std.proofs.lemmas.List.{length-map}
use Rattle.std.proofs.lemmas.List.Sums.{length-filter, count_by-le-length}
use Rattle.model.specs.Reach.{leads_by, all_reached}
use Rattle.model.specs.Derivations.{Derivation}
use Rattle.model.specs.Classes.{Class, Known}
use Rattle.model.specs.Worlds.{Source, Label, Record}
use Rattle.model.specs.References.{is_of_class, is_label_of, refers_to, is_input_class, label_of_source, label_of_record, labels_in_order, candidates}
use Rattle.model.proofs.BoolLemmas.{either, or_cases, both_parts}
use Rattle.laws.proofs.MemberLemmas.{In, any_true, from_any, in_filter, from_filter}
use Rattle.laws.proofs.AllReachedLemmas.{reached_first, reached_next, reached_least}
use Rattle.records.specs.Recorded.{Recorded, without_tree}
use Rattle.records.specs.Ordered.{source_label, record_label}
use Rattle.desk_records.specs.RecordLists.{is_recorded_at}
use Rattle.outputs.specs.Below.{AreBelow, AreCandidates}
use Rattle.outputs.specs.Reaching.{is_for, is_label_for, has_class, chosen, AreSame, below_at, fresh_at}
use Rattle.outputs.proofs.SameLemmas.{same_order, same_behind}
use Rattle.outputs.proofs.StepLemmas.{same_tests, stays}

-- ---- as many steps as there are records reach all

-- what passes one test or another is what passes the one, and what passes the other alone
count_either : {X : Type 0} (p q : X → Bool) (xs : List X)
    → length (filter (λ x. p x || q x) xs) ≡ length (filter p xs) + length (filter (λ x. (p x || q x) && not (p x)) xs)
count_either p q [] = refl
count_either p q (x ∷ xs) =
    let rest = count_either p q xs in
    elim (either (p x)) [
      | inl t ↦ rw t (omega (arith, rest))
      | inr f ↦ elim (either (q x)) [ inl u ↦ rw (f, u) (omega (arith, rest)) | inr g ↦ rw (f, g) rest ]
    ]

empty_or_not : {X : Type 0} (xs : List X) → (xs ≡ []) ⊎ (1 ≤ length xs)
empty_or_not [] = inl refl
empty_or_not (x ∷ xs) = inr (omega arith)

module _ (records : List Recorded) (inputs : List ℕ → Bool) where
  -- a step up to the k-th reaches nothing
  abbrev Ends : ℕ → Type 0
  Ends k = (j : ℕ) × (j ≤ k) × (chosen (fresh_at records inputs j) records ≡ [])

  -- or each reaches a record at least
  ends_or_grows : (k : ℕ) → Ends k ⊎ (suc k ≤ length (chosen (below_at records inputs k) records))
  unfolding below_at
  ends_or_grows zero = elim (empty_or_not (chosen (fresh_at records inputs zero) records)) [ inl e ↦ inl (zero, omega arith, e) | inr l ↦ inr l ]
  ends_or_grows (suc k) = elim (ends_or_grows k) [
    | inl before ↦ inl (before.0, omega (arith, before.1), before.2)
    | inr grown ↦ elim (empty_or_not (chosen (fresh_at records inputs (suc k)) records)) [
      | inl e ↦ inl (suc k, omega arith, e)
      | inr more ↦
          let count = count_either (λ (r : Recorded). below_at records inputs k r.class.path r.path)
          (λ r. list_any (λ a. below_at records inputs k a.class.path a.path && list_any (is_label_for r.path r.class.path) a.labels) records) records in
          inr (omega (arith, grown, more, count))
    ]
  ]

  -- so one step more reaches nothing more
  pub settled : (class path : List ℕ) → below_at records inputs (suc (length records)) class path ≡ below_at records inputs (length records) class path
  settled class path = elim (ends_or_grows (length records)) [
    | inl ends ↦
        stays records inputs ends.0 ends.2 (suc (length records)) (omega (arith, ends.1)) class path
        ∙ sym (stays records inputs ends.0 ends.2 (length records) ends.1 class path)
    | inr grown ↦
        let test = λ (r : Recorded). below_at records inputs (length records) r.class.path r.path in
        absurd (omega (arith, grown, length-filter test records, count_by-le-length test records))
  ]

-- ---- what the definition says of records without their trees

of_class : (c : Class) (o : Option Class) → is_for c.path o ≡ is_of_class c o
of_class c None = refl
of_class c (Some d) = refl

named_labels : (r : Record) (ls : List Label) → list_any (is_label_for r.path r.class.path) ls ≡ list_any (is_label_of r) ls
named_labels r [] = refl
named_labels r (l ∷ ls) = λ i. (bytes_eq l.path r.path && of_class r.class l.class i) || named_labels r ls i

refer_too : (p : Record → Bool) (q : List ℕ → List ℕ → Bool) → ((a : Record) → p a ≡ q a.class.path a.path) → (r : Record) (xs : List Record)
    → list_any (λ a. p a && refers_to a r) xs ≡ list_any (λ (a : Recorded). q a.class.path a.path && list_any (is_label_for r.path r.class.path) a.labels) (map without_tree xs)
refer_too p q same r [] = refl
refer_too p q same r (x ∷ xs) = λ i. (same x i && sym (named_labels r x.labels) i) || refer_too p q same r xs i

module _ (whole : List Record) (inputs : List ℕ → Bool) where
  abbrev reached : List Record
  reached = all_reached (λ r. inputs r.class.path) refers_to whole

  abbrev in_steps : ℕ → Record → Bool
  in_steps k r = below_at (map without_tree whole) inputs k r.class.path r.path

  one_step_more : (k : ℕ) (r : Record) → in_steps (suc k) r ≡ (in_steps k r || list_any (λ a. in_steps k a && refers_to a r) whole)
  unfolding below_at
  one_step_more k r =
      ap (λ b. in_steps k r || b) (sym (refer_too (in_steps k) (below_at (map without_tree whole) inputs k) (λ a. refl) r whole))

  steps_more : (k : ℕ) (r : Record) → inputs r.class.path ≡ true → in_steps k r ≡ true
  unfolding below_at
  steps_more zero r t = t
  steps_more (suc k) r t = or_left _ _ (steps_more k r t)

  from_steps : (k : ℕ) (r : Record) → In r whole → in_steps k r ≡ true → In r reached
  unfolding below_at
  from_steps zero r h t = reached_first (λ (q : Record). inputs q.class.path) refers_to whole r h t
  from_steps (suc k) r h t =
      elim (or_cases (in_steps k r) (list_any (λ a. in_steps k a && refers_to a r) whole) (sym (one_step_more k r) ∙ t)) [
        | inl before ↦ from_steps k r h before
        | inr last ↦
            let w = from_any (λ a. in_steps k a && refers_to a r) whole last in
            let parts = both_parts (in_steps k w.0) (refers_to w.0 r) w.2 in
            reached_next (λ (q : Record). inputs q.class.path) refers_to whole w.0 r (from_steps k w.0 w.1 parts.0) h parts.1
      ]

  to_steps : (r : Record) → In r reached → in_steps (length whole) r ≡ true
  to_steps r h =
      let long : length (map without_tree whole) ≡ length whole = length-map whole without_tree in
      reached_least (λ (q : Record). inputs q.class.path) refers_to whole (λ q. in_steps (length whole) q ≡ true) (λ q i t. steps_more (length whole) q t)
      (λ q s i j t on.
      ap (λ n. below_at (map without_tree whole) inputs n s.class.path s.path) (sym long) ∙ sym (settled (map without_tree whole) inputs s.class.path s.path)
      ∙ ap (λ n. in_steps (suc n) s) long ∙ one_step_more (length whole) s
      ∙ or_right (in_steps (length whole) s) _ (any_true (λ a. in_steps (length whole) a && refers_to a s) whole q i (and_from (in_steps (length whole) q) _ t on)))
      r h

  abbrev is_reached : Record → Bool
  is_reached r = inputs r.class.path || list_any (λ a. inputs a.class.path && leads_by refers_to whole a r) whole

  reached_in_steps : (r : Record) → In r whole → is_reached r ≡ in_steps (length whole) r
  reached_in_steps r h =
      same_tests (is_reached r) (in_steps (length whole) r) (λ t. to_steps r (in_filter is_reached r whole h t))
      (λ t. (from_filter is_reached r whole (from_steps (length whole) r h t)).1)

-- ---- the records below, and labels

chosen_without : (p : Record → Bool) (test : List ℕ → List ℕ → Bool) (xs : List Record) → ((r : Record) → In r xs → p r ≡ test r.class.path r.path)
    → chosen test (map without_tree xs) ≡ map without_tree (filter p xs)
chosen_without p test [] same = refl
chosen_without p test (x ∷ xs) same =
    let rest = chosen_without p test xs (λ r h. same r (inr h)) in
    elim (either (p x)) [
      | inl t ↦ let u = sym (same x (inl refl)) ∙ t in rw (t, u) (ap (λ rs. without_tree x ∷ rs) rest)
      | inr n ↦ let m = sym (same x (inl refl)) ∙ n in rw (n, m) rest
    ]

-- what is reached where nothing more is is below
pub below_are : (known : Known) (x : Derivation) (records found : List Recorded) (inputs : List (List ℕ))
    → ((class : List ℕ) → has_class inputs class ≡ is_input_class known x class)
    → AreSame found (chosen (below_at records (has_class inputs) (length records)) records) → AreBelow known x records found
below_are known x records found inputs are same whole e class path =
    let own = is_input_class known x in
    let long : length records ≡ length whole = ap length (sym e) ∙ length-map whole without_tree in
    let steps : chosen (below_at records (has_class inputs) (length records)) records ≡ chosen (below_at (map without_tree whole) own (length whole)) (map without_tree whole) =
    ap (λ rs. chosen (below_at rs (has_class inputs) (length records)) rs) (sym e)
    ∙ (λ i. chosen (below_at (map without_tree whole) (λ c. are c i) (long i)) (map without_tree whole)) in
    same class path ∙ ap (filter (is_recorded_at class path))
    (steps ∙ chosen_without (is_reached whole own) (below_at (map without_tree whole) own (length whole)) whole (reached_in_steps whole own))

source_labels : (sources : List Source) → map source_label (map (λ s. s.path) sources) ≡ map label_of_source sources
source_labels [] = refl
source_labels (s ∷ sources) = ap (λ rest. label_of_source s ∷ rest) (source_labels sources)

record_labels : (records : List Record) → map record_label (map without_tree records) ≡ map label_of_record records
record_labels [] = refl
record_labels (r ∷ records) = ap (λ rest. label_of_record r ∷ rest) (record_labels records)

pub are_candidates : (known : Known) (x : Derivation) (records found : List Recorded) (labels ordered : List Label) → AreBelow known x records found
    → labels ≡ map source_label known.sources ++ map record_label found → ordered ≡ labels_in_order labels → AreCandidates known x records ordered
unfolding candidates
are_candidates known x records found labels ordered below are put d knows has =
    let model = all_reached (λ (r : Record). is_input_class known x r.class.path) refers_to d.records in
    let sources : map source_label known.sources ≡ map label_of_source d.sources =
    ap (λ (k : Known). map source_label k.sources) (sym knows) ∙ source_labels d.sources in
    let below_known = λ (k : Known). map label_of_record (all_reached (λ (r : Record). is_input_class k x r.class.path) refers_to d.records) in
    put ∙ ap labels_in_order are
    ∙ same_behind (map source_label known.sources) (map record_label found) (map record_label (map without_tree model))
    (same_order found (map without_tree model) (below d.records has))
    ∙ ap labels_in_order ((λ i. sources i ++ record_labels model i) ∙ ap (λ ls. map label_of_source d.sources ++ ls) (ap below_known (sym knows)))
