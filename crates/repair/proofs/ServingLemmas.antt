-- How the classes of a plan are served one after another.
use Rattle.std.proofs.Common.{◌≡◌, ℕ, ◌+◌, ◌<◌, ◌≤◌, true, false, ◌⊎◌, inl, inr, refl, sym, ◌∙◌, ap, subst, arith, List, [], ◌∷◌, ◌++◌, length, get_or, take, drop, suc, Option, Some, None, Ok, Err}
use Rattle.std.specs.Prelude.{nat_lt, bytes_eq}
use Rattle.std.specs.Map.{lookup}
use Rattle.std.proofs.lemmas.Bool.{ltb-true, ltb-false}
use Rattle.std.proofs.lemmas.Bool.Decides.{nat_tests}
use Rattle.model.specs.declared.refusal.Refusal.{Refusal}
use Rattle.model.specs.declared.refusal.Refusal.TheVariants.{NotRealised, Memory}
use Rattle.model.specs.Results.{then_do, each}
use Rattle.model.specs.Classes.{Class}
use Rattle.model.specs.Limits.{greatest_rank}
use Rattle.model.specs.Worlds.{Record}
use Rattle.model.specs.Choices.{rank_before, Plan}
use Rattle.model.specs.Repairs.{replacements_of, relabelled, served, serve, chosen_in, serve_all}
use Rattle.model.proofs.BoolLemmas.{either, same_bytes, bytes_same}
use Rattle.laws.proofs.MemberLemmas.{In, in_append, in_left, in_right}
use Rattle.laws.proofs.SetLemmas.{Ascends, clash, irreflexive}
use Rattle.records.specs.Plans.{IsInOrder}
use Rattle.records.proofs.EntryOrderLemmas.{rank_before-Weak}
use Rattle.repair.specs.Served.{Served, values_of, if_below, or_not_realised, served_in, served_from}
use Rattle.repair.specs.Serving.{AreServedBy, AreServed}
use Rattle.laws.proofs.ServedLemmas.{served_none, served_high, served_low, serve_rank, serve_replacements, chosen_in_list, chosen_in_one, option_cases}
use Rattle.rewrite.proofs.StepLemmas.{take_next}
use Rattle.repair.proofs.TurnLemmas.{split_at, each_stop}

-- ---- what is served so far

are_served_push : (choice : List ℕ → Option Record) (rs : List Record) (es : Served) (r v : Record) (class : List ℕ) → AreServedBy choice rs es
    → class ≡ r.class.path
    → serve choice r.class.path ≡ Ok v → AreServedBy choice (rs ++ r ∷ []) (es ++ (class, v) ∷ [])
are_served_push choice [] [] r v class a c s = (c, s, tt)
are_served_push choice [] (e ∷ es) r v class a c s = absurd a
are_served_push choice (q ∷ rs) [] r v class a c s = absurd a
are_served_push choice (q ∷ rs) (e ∷ es) r v class a c s = (a.0, a.1, are_served_push choice rs es r v class a.2 c s)

some_is : (x y : Record) → Some x ≡ Some y → x ≡ y
some_is x y e = cc

-- what serves a class is there for a record of it
pub found_for : (choice : List ℕ → Option Record) (rs : List Record) (es : Served) (class : List ℕ) (v : Record) → AreServedBy choice rs es
    → lookup (bytes_eq class) es ≡ Some v → (r : Record) × In r rs × (r.class.path ≡ class) × (serve choice class ≡ Ok v)
found_for choice [] [] class v a e = cc
found_for choice [] (x ∷ es) class v a e = absurd a
found_for choice (q ∷ rs) [] class v a e = absurd a
found_for choice (q ∷ rs) (x ∷ es) class v a e = elim (either (bytes_eq class x.0)) [
  | inl t ↦
      let same : q.class.path ≡ class = sym a.0 ∙ sym (same_bytes class x.0 t) in
      let value : Some x.1 ≡ Some v = rw t at e in
      (q, inl refl, same, subst (λ c. serve choice c ≡ Ok v) same (a.1 ∙ ap Ok (some_is x.1 v value)))
  | inr f ↦ let w = found_for choice rs es class v a.2 (rw f at e) in (w.0, inr w.1, w.2, w.3)
]

-- where there is none, it is for none of the records
pub missing_for : (choice : List ℕ → Option Record) (rs : List Record) (es : Served) (class : List ℕ) → AreServedBy choice rs es
    → lookup (bytes_eq class) es ≡ None
    → (r : Record) → In r rs → r.class.path ≡ class → ⊥
missing_for choice [] [] class a e r h same = absurd h
missing_for choice [] (x ∷ es) class a e r h same = absurd a
missing_for choice (q ∷ rs) [] class a e r h same = absurd a
missing_for choice (q ∷ rs) (x ∷ es) class a e r h same = elim (either (bytes_eq class x.0)) [
  | inl t ↦ absurd (none_some x.1 (rw t at e))
  | inr f ↦ elim h [
    | inl is ↦
        let there : bytes_eq class x.0 ≡ true = subst (λ c. bytes_eq class c ≡ true) (sym (a.0 ∙ ap (λ (z : Record). z.class.path) is ∙ same)) (bytes_same class) in
        clash (bytes_eq class x.0) there f
    | inr behind ↦ missing_for choice rs es class a.2 (rw f at e) r behind same
  ]
]
  where
    none_some : (x : Record) → Some x ≡ None → ⊥
    none_some x e = cc

none_in : (choice : List ℕ → Option Record) (rs : List Record) (es : Served) (class : List ℕ) → AreServedBy choice rs es
    → ((r : Record) → In r rs → r.class.path ≡ class → ⊥) → lookup (bytes_eq class) es ≡ None
none_in choice [] [] class a n = refl
none_in choice [] (x ∷ es) class a n = absurd a
none_in choice (q ∷ rs) [] class a n = absurd a
none_in choice (q ∷ rs) (x ∷ es) class a n = elim (either (bytes_eq class x.0)) [
  | inl t ↦ absurd (n q (inl refl) (sym a.0 ∙ sym (same_bytes class x.0 t)))
  | inr f ↦ rw f (none_in choice rs es class a.2 (λ r h. n r (inr h)))
]

each_of : (choice : List ℕ → Option Record) (rs : List Record) (es : Served) → AreServedBy choice rs es
    → each (λ r. serve choice r.class.path) rs ≡ Ok (values_of es)
unfolding each
each_of choice [] [] a = refl
each_of choice [] (x ∷ es) a = absurd a
each_of choice (q ∷ rs) [] a = absurd a
each_of choice (q ∷ rs) (x ∷ es) a = rw (a.1, each_of choice rs es a.2) refl

-- ---- records by rank

ascends_behind : (xs ys : List Record) → Ascends rank_before (xs ++ ys) → Ascends rank_before ys
ascends_behind [] ys up = up
ascends_behind (x ∷ xs) ys up = ascends_behind xs ys up.1

ascends_to : (xs ys : List Record) (x y : Record) → Ascends rank_before (xs ++ ys) → In x xs → In y ys → rank_before x y ≡ true
ascends_to [] ys x y up h i = absurd h
ascends_to (z ∷ xs) ys x y up h i = elim h [
  | inl same ↦ subst (λ v. rank_before v y ≡ true) same (up.0 y (in_right y xs ys i))
  | inr behind ↦ ascends_to xs ys x y up.1 behind i
]

-- what goes before another is of no higher rank
rank_up : (q r : Record) → rank_before q r ≡ true → q.class.rank ≤ r.class.rank
rank_up q r t = elim (either (nat_lt r.class.rank q.class.rank)) [
  | inr f ↦ ltb-false r.class.rank q.class.rank f
  | inl less ↦
      let not_less : nat_lt q.class.rank r.class.rank ≡ false = grind (arith, nat_tests) in
      absurd (false_true (rw (not_less, less) at t))
]
  where
    false_true : false ≡ true → ⊥
    false_true e = cc

-- ---- one class more

-- the record at a place of a plan, where the classes of those before it are served
module _ (p : Plan) (o : IsInOrder p) (k : ℕ) (r : Record) (es : Served) (lt : k < length p.records) (is : r ≡ get_or p.records k r)
    (low : r.class.rank ≤ greatest_rank) (a : AreServed p (take k p.records) es) where
  parts : p.records ≡ take k p.records ++ r ∷ drop (suc k) p.records
  parts = split_at p.records k r lt is

  up : Ascends rank_before (take k p.records ++ r ∷ drop (suc k) p.records)
  up = subst (Ascends rank_before) parts o.records

  there : In r p.records
  there = subst (In r) (sym parts) (in_right r (take k p.records) (r ∷ drop (suc k) p.records) (inl refl))

  before_there : (q : Record) → In q (take k p.records) → In q p.records
  before_there q h = subst (In q) (sym parts) (in_left q (take k p.records) (r ∷ drop (suc k) p.records) h)

  is_chosen : chosen_in p.records r.class.path ≡ Some r
  is_chosen = chosen_in_one p.records o.once r there

  -- a class that is not served yet is of no lower rank
  not_lower : (q : Record) → In q p.records → (In q (take k p.records) → ⊥) → r.class.rank ≤ q.class.rank
  not_lower q h n = elim (in_append q (take k p.records) (r ∷ drop (suc k) p.records) (subst (In q) parts h)) [
    | inl first ↦ absurd (n first)
    | inr rest ↦ elim rest [
      | inl same ↦ subst (λ (z : Record). r.class.rank ≤ z.class.rank) same (omega arith)
      | inr behind ↦ rank_up r q ((ascends_behind (take k p.records) (r ∷ drop (suc k) p.records) up).0 q behind)
    ]
  ]

  there_low : (class : List ℕ) (v : Record) → lookup (bytes_eq class) es ≡ Some v
      → or_not_realised (if_below r.class.rank (Some v)) ≡ served (chosen_in p.records) r.class.rank class
  there_low class v e =
      let w = found_for (chosen_in p.records) (take k p.records) es class v a e in
      let s = serve_replacements (chosen_in p.records) class v w.3 in
      elim (either (nat_lt v.class.rank r.class.rank)) [
        | inl t ↦
            let less : s.chosen.class.rank < r.class.rank = subst (λ (c : Class). c.rank < r.class.rank) s.class (ltb-true v.class.rank r.class.rank t) in
            rw t (sym (served_low (chosen_in p.records) r.class.rank class s.chosen s.is_chosen less (omega (arith, low)) ∙ w.3))
        | inr f ↦
            let high : r.class.rank ≤ s.chosen.class.rank = subst (λ (c : Class). r.class.rank ≤ c.rank) s.class (ltb-false v.class.rank r.class.rank f) in
            rw f (sym (served_high (chosen_in p.records) r.class.rank class s.chosen s.is_chosen high))
      ]

  not_there : (class : List ℕ) → lookup (bytes_eq class) es ≡ None → Err NotRealised ≡ served (chosen_in p.records) r.class.rank class
  not_there class e = elim (option_cases (chosen_in p.records class)) [
    | inl none ↦ sym (served_none (chosen_in p.records) r.class.rank class none)
    | inr w ↦
        let c = chosen_in_list p.records class w.0 w.1 in
        let high = not_lower w.0 c.0 (λ h. missing_for (chosen_in p.records) (take k p.records) es class a e w.0 h c.1) in
        sym (served_high (chosen_in p.records) r.class.rank class w.0 w.1 high)
  ]

  -- what is served so far is what serves the classes of lower ranks
  same_served : (class : List ℕ) → served_in es r.class.rank class ≡ served (chosen_in p.records) r.class.rank class
  same_served class = elim (option_cases (lookup (bytes_eq class) es)) [
    | inl none ↦ ap (λ v. or_not_realised (if_below r.class.rank v)) none ∙ not_there class none
    | inr w ↦ ap (λ v. or_not_realised (if_below r.class.rank v)) w.1 ∙ there_low class w.0 w.1
  ]

  -- so its labels are replaced alike by both
  pub same_replacements : replacements_of (served_in es r.class.rank) r.labels ≡ replacements_of (served (chosen_in p.records) r.class.rank) r.labels
  same_replacements = ap (λ f. replacements_of f r.labels) (λ j class. same_served class j)

  pub serves_next : serve (chosen_in p.records) r.class.path ≡ served_from es r
  serves_next =
      serve_rank (chosen_in p.records) r.class.path r is_chosen low
      ∙ ap (λ f. then_do (replacements_of f r.labels) (relabelled r)) (sym (λ j class. same_served class j))

  pub serve_refused : (why : Refusal) → (why ≡ Memory) ⊎ (served_from es r ≡ Err why)
      → (why ≡ Memory) ⊎ (serve_all p.records ≡ Err why)
  serve_refused why h = elim h [
    | inl m ↦ inl m
    | inr e ↦ inr (each_stop (λ q. serve (chosen_in p.records) q.class.path) p.records k r (values_of es) why lt is
        (each_of (chosen_in p.records) (take k p.records) es a) (serves_next ∙ e))
  ]

  -- those before it are of other classes
  pub others_before : (q : Record) → In q (take k p.records) → q.class.path ≡ r.class.path → ⊥
  others_before q h same =
      let one : q ≡ r = o.once q r (before_there q h) there same in
      let before : rank_before q r ≡ true = ascends_to (take k p.records) (r ∷ drop (suc k) p.records) q r up h (inl refl) in
      clash (rank_before r r) (subst (λ z. rank_before z r ≡ true) one before) (irreflexive rank_before rank_before-Weak r)

  not_yet : (class : List ℕ) → class ≡ r.class.path → lookup (bytes_eq class) es ≡ None
  not_yet class c = none_in (chosen_in p.records) (take k p.records) es class a (λ q h same. others_before q h (same ∙ c))

  pub serve_step : (v : Record) (class : List ℕ) (new : Served) → class ≡ r.class.path
      → served_from es r ≡ Ok v
      → (lookup (bytes_eq class) es ≡ None → new ≡ es ++ (class, v) ∷ []) → AreServed p (take (k + 1) p.records) new
  serve_step v class new c e put =
      subst (λ rs. AreServed p rs new) (sym (take_next p.records k r lt is))
      (subst (λ xs. AreServed p (take k p.records ++ r ∷ []) xs) (sym (put (not_yet class c)))
      (are_served_push (chosen_in p.records) (take k p.records) es r v class a c (serves_next ∙ e)))

pub all_served : (p : Plan) (es : Served) → AreServed p p.records es → serve_all p.records ≡ Ok (values_of es)
all_served p es a = each_of (chosen_in p.records) p.records es a
