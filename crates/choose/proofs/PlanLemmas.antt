-- How a plan is gathered, and what it is in order.
use Rattle.std.proofs.Common.{◌≡◌, ℕ, zero, suc, ◌+◌, ◌<◌, ◌≤◌, Bool, true, false, ◌⊎◌, inl, inr, refl, sym, ◌∙◌, ap, subst, arith, List, [], ◌∷◌, ◌++◌, length, get_or, take, append_assoc, length-append, Option, Some, None, Ok, Err}
use Rattle.std.specs.Prelude.{nat_lt, bytes_eq, is_none}
use Rattle.std.specs.List.{list_any}
use Rattle.std.specs.List.Sorted.{IsPermutation, IsSortedBy}
use Rattle.std.proofs.lemmas.Bool.Decides.{nat_tests}
use Rattle.std.proofs.lemmas.List.{take_more, take_all, take-append-le}
use Rattle.std.proofs.lemmas.List.Sorted.{IsPermutation-sym, Contains-permutation, length_permutation}
use Rattle.model.specs.declared.refusal.Refusal.{Refusal}
use Rattle.model.specs.declared.refusal.Refusal.TheVariants.{Memory, NotRealised, ClosureTooLarge}
use Rattle.model.specs.Limits.{most_entries}
use Rattle.model.specs.Classes.{Class}
use Rattle.model.specs.Worlds.{Source, Label, Record, Pin}
use Rattle.model.specs.Choices.{rank_before, source_before, is_of, Plan, small_plan}
use Rattle.model.proofs.BoolLemmas.{either, bytes_same}
use Rattle.laws.proofs.MemberLemmas.{In, in_of, contains_of, any_true, in_right}
use Rattle.laws.proofs.ClosureLemmas.{chosen_among}
use Rattle.choose.specs.Visible.{Visible, choose_in, source_in, plan_in}
use Rattle.records.specs.Plans.{IsInOrder}
use Rattle.choose.specs.Gathering.{has_class, with_chosen, with_class, has_source, with_found, with_source, with_named, with_label, with_labels, IsChoiceAmong, IsGathered, IsTooMuch}
use Rattle.records.proofs.SetLemmas.{sorted_ascends}
use Rattle.records.proofs.EntryOrderLemmas.{rank_before-Weak, source_before-Weak}
use Rattle.choose.proofs.ReachedLemmas.{one_of_class, planned, too_many, none_chosen}
use Rattle.choose.proofs.ChoosingLemmas.{false_true}
use Rattle.choose.proofs.GatherLemmas.{asked_more, sources_more, below_more}

-- ---- items

pub in_at : {X : Type 0} (xs : List X) (k : ℕ) (x : X) → k < length xs → x ≡ get_or xs k x → In x xs
in_at [] k x lt is = absurd (omega arith)
in_at (y ∷ xs) zero x lt is = inl (sym is)
in_at (y ∷ xs) (suc k) x lt is = inr (in_at xs k x (omega arith) is)

pub take_step : {X : Type 0} (xs : List X) (k : ℕ) (x : X) → k < length xs → x ≡ get_or xs k x → take (k + 1) xs ≡ take k xs ++ x ∷ []
take_step xs k x lt is = take_more xs k x lt ∙ ap (λ y. take k xs ++ y ∷ []) (sym is)

any_push : {X : Type 0} (p : X → Bool) (xs : List X) (x : X) → list_any p xs ≡ false → p x ≡ false → list_any p (xs ++ x ∷ []) ≡ false
any_push p [] x h k = rw k refl
any_push p (y ∷ xs) x h k = elim (either (p y)) [
  | inl t ↦ absurd (false_true (sym (rw t at h)))
  | inr f ↦ rw f (any_push p xs x (rw f at h) k)
]

-- ---- classes asked for

has_of : (c : List ℕ) (rs : List Record) (s : Record) → In s rs → s.class.path ≡ c → list_any (is_of c) rs ≡ true
has_of c rs s h e = any_true (is_of c) rs s h (ap (λ q. bytes_eq q c) e ∙ bytes_same c)

none_cases : (o : Option Record) → (is_none o ≡ true) ⊎ ((s : Record) × (o ≡ Some s))
none_cases None = inl refl
none_cases (Some s) = inr (s, refl)

none_or : (o : Option Record) → (is_none o ≡ false) ⊎ (o ≡ None)
none_or None = inr refl
none_or (Some s) = inl refl

pub classes_step : (view : Visible) (pins : List Pin) (classes sources : List (List ℕ)) (k : ℕ) (c : List ℕ) (p q : Plan) → k < length classes
    → c ≡ get_or classes k c → q ≡ with_class (choose_in view pins) c p
    → IsGathered view (choose_in view pins) classes sources (take k classes) [] [] p
    → IsGathered view (choose_in view pins) classes sources (take (k + 1) classes) [] [] q
classes_step view pins classes sources k c p q lt is e g =
    let choice = choose_in view pins in
    let w = asked_more view choice (chosen_among view.records pins) classes sources (take k classes) p c (in_at classes k c lt is) g in
    subst (λ A. IsGathered view choice classes sources A [] [] q) (sym (take_step classes k c lt is))
    (subst (λ r. IsGathered view choice classes sources (take k classes ++ c ∷ []) [] [] r) (sym e) w.0)

-- a class that is there has been chosen
pub class_chosen : (view : Visible) (pins : List Pin) (classes : List (List ℕ)) (k : ℕ) (c : List ℕ) (p q : Plan) → k < length classes
    → c ≡ get_or classes k c → q ≡ with_class (choose_in view pins) c p
    → IsGathered view (choose_in view pins) classes [] (take k classes) [] [] p → true ≡ has_class c q
    → list_any (λ d. is_none (choose_in view pins d)) (take k classes) ≡ false
    → list_any (λ d. is_none (choose_in view pins d)) (take (k + 1) classes) ≡ false
class_chosen view pins classes k c p q lt is e g there before =
    let choice = choose_in view pins in
    let w = asked_more view choice (chosen_among view.records pins) classes [] (take k classes) p c (in_at classes k c lt is) g in
    let some : is_none (choice c) ≡ false = elim (none_or (choice c)) [
      | inl f ↦ f
      | inr n ↦ absurd (false_true (sym (w.1 n) ∙ ap (has_class c) (sym e) ∙ sym there))
    ] in
    rw (take_step classes k c lt is) (any_push (λ d. is_none (choice d)) (take k classes) c before some)

-- and one that is not has not
pub class_missing : (view : Visible) (pins : List Pin) (classes : List (List ℕ)) (k : ℕ) (c : List ℕ) (p q : Plan) → k < length classes
    → c ≡ get_or classes k c → q ≡ with_class (choose_in view pins) c p
    → IsGathered view (choose_in view pins) classes [] (take k classes) [] [] p → false ≡ has_class c q
    → list_any (λ d. is_none (choose_in view pins d)) classes ≡ true
class_missing view pins classes k c p q lt is e g absent =
    let choice = choose_in view pins in
    let after = classes_step view pins classes [] k c p q lt is e g in
    let here : In c (take (k + 1) classes) = subst (λ A. In c A) (sym (take_step classes k c lt is)) (in_right c (take k classes) (c ∷ []) (inl refl)) in
    any_true (λ d. is_none (choice d)) classes c (in_at classes k c lt is) (elim (none_cases (choice c)) [
      | inl t ↦ t
      | inr w ↦ absurd (false_true (absent ∙ has_of c q.records w.0 (after.asked c w.0 here w.1) (chosen_among view.records pins c w.0 w.1).1))
    ])

-- ---- sources asked for

pub sources_step : (view : Visible) (choice : List ℕ → Option Record) → IsChoiceAmong view.records choice
    → (classes sources A : List (List ℕ)) (k : ℕ) (c : List ℕ) (p q : Plan) → k < length sources → c ≡ get_or sources k c → q ≡ with_source view c p
    → IsGathered view choice classes sources A (take k sources) [] p → IsGathered view choice classes sources A (take (k + 1) sources) [] q
sources_step view choice own classes sources A k c p q lt is e g =
    subst (λ P. IsGathered view choice classes sources A P [] q) (sym (take_step sources k c lt is))
    (subst (λ r. IsGathered view choice classes sources A (take k sources ++ c ∷ []) [] r) (sym e)
    (sources_more view choice own classes sources A (take k sources) p c (in_at sources k c lt is) g))

-- ---- below

-- what is there stays in its place
abbrev Lengthens : List Record → List Record → Type 0
Lengthens xs ys = (more : List Record) × (ys ≡ xs ++ more)

append_nil : (xs : List Record) → xs ≡ xs ++ []
append_nil [] = refl
append_nil (x ∷ xs) = ap (λ rest. x ∷ rest) (append_nil xs)

record_lengthens : (o : Option Record) (p : Plan) → Lengthens p.records (with_chosen o p).records
record_lengthens None p = ([], append_nil p.records)
record_lengthens (Some r) p = (r ∷ [], refl)

class_lengthens : (choice : List ℕ → Option Record) (c : List ℕ) (p : Plan) → Lengthens p.records (with_class choice c p).records
class_lengthens choice c p = elim (either (has_class c p)) [ inl t ↦ rw t ([], append_nil p.records) | inr f ↦ rw f (record_lengthens (choice c) p) ]

found_lengthens : (o : Option Source) (p : Plan) → Lengthens p.records (with_found o p).records
found_lengthens None p = ([], append_nil p.records)
found_lengthens (Some s) p = ([], append_nil p.records)

source_lengthens : (view : Visible) (q : List ℕ) (p : Plan) → Lengthens p.records (with_source view q p).records
source_lengthens view q p = elim (either (has_source q p)) [ inl t ↦ rw t ([], append_nil p.records) | inr f ↦ rw f (found_lengthens (source_in view q) p) ]

served_lengthens : (view : Visible) (choice : List ℕ → Option Record) (q : List ℕ) (o : Option Class) (p : Plan)
    → Lengthens p.records (with_named view choice q o p).records
served_lengthens view choice q None p = source_lengthens view q p
served_lengthens view choice q (Some c) p = class_lengthens choice c.path p

labels_lengthen : (view : Visible) (choice : List ℕ → Option Record) (ls : List Label) (p : Plan) → Lengthens p.records (with_labels view choice ls p).records
unfolding with_labels
labels_lengthen view choice [] p = ([], append_nil p.records)
labels_lengthen view choice (l ∷ ls) p =
    let a = served_lengthens view choice l.path l.class p in
    let b = labels_lengthen view choice ls (with_label view choice l p) in
    (a.0 ++ b.0, b.1 ∙ ap (λ xs. xs ++ b.0) a.1 ∙ append_assoc p.records a.0 b.0)

pub below_step : (view : Visible) (pins : List Pin) (classes sources A P : List (List ℕ)) (k : ℕ) (r : Record) (p q : Plan) → k < length p.records
    → r ≡ get_or p.records k r → q ≡ with_labels view (choose_in view pins) r.labels p
    → IsGathered view (choose_in view pins) classes sources A P (take k p.records) p
    → IsGathered view (choose_in view pins) classes sources A P (take (k + 1) q.records) q
below_step view pins classes sources A P k r p q lt is e g =
    let choice = choose_in view pins in
    let after = below_more view choice (chosen_among view.records pins) classes sources A P (take k p.records) p r (in_at p.records k r lt is) g in
    let long = labels_lengthen view choice r.labels p in
    let few : k + 1 ≤ length p.records = omega arith in
    let same : take (k + 1) q.records ≡ take k p.records ++ r ∷ [] = ap (λ (z : Plan). take (k + 1) z.records) e ∙ ap (take (k + 1)) long.1
    ∙ take-append-le (k + 1) p.records long.0 few ∙ take_step p.records k r lt is in
    subst (λ D. IsGathered view choice classes sources A P D q) (sym same)
    (subst (λ z. IsGathered view choice classes sources A P (take k p.records ++ r ∷ []) z) (sym e) after)

pub below_within : (view : Visible) (choice : List ℕ → Option Record) (k : ℕ) (ls : List Label) (p q : Plan) → k < length p.records
    → q ≡ with_labels view choice ls p → k + 1 ≤ length q.records
below_within view choice k ls p q lt e =
    let long = labels_lengthen view choice ls p in
    let more : length q.records ≡ length p.records + length long.0 = ap (λ (z : Plan). length z.records) e ∙ ap length long.1
    ∙ length-append p.records long.0 in
    omega (arith, more)

pub all_taken : (xs : List Record) (k : ℕ) → k ≤ length xs → length xs ≤ k → take k xs ≡ xs
all_taken xs k a b = take_all k xs b

pub too_much : (view : Visible) (choice : List ℕ → Option Record) (classes sources A P : List (List ℕ)) (D : List Record) (p : Plan)
    → IsGathered view choice classes sources A P D p → true ≡ nat_lt most_entries (length p.records + length p.sources) → IsTooMuch view choice classes sources
too_much view choice classes sources A P D p g t = record {
  asked_classes = A;
  asked_sources = P;
  below = D;
  plan = p;
  gathered = g;
  many = grind (arith, nat_tests);
}

-- ---- the plan

pub plan_missing : (view : Visible) (pins : List Pin) (classes sources : List (List ℕ)) (e : Refusal) → (e ≡ Memory)
    ⊎ ((e ≡ NotRealised) × (list_any (λ c. is_none (choose_in view pins c)) classes ≡ true)) → (e ≡ Memory) ⊎ (plan_in view pins classes sources ≡ Err e)
plan_missing view pins classes sources e h = elim h [
  | inl m ↦ inl m
  | inr n ↦
      inr (none_chosen view.records view.sources (choose_in view pins) classes sources n.1 ∙ ap Err (sym n.0))
]

pub plan_too_large : (view : Visible) (pins : List Pin) (classes sources : List (List ℕ)) (e : Refusal)
    → list_any (λ c. is_none (choose_in view pins c)) classes ≡ false
    → (e ≡ Memory) ⊎ ((e ≡ ClosureTooLarge) × IsTooMuch view (choose_in view pins) classes sources) → (e ≡ Memory) ⊎ (plan_in view pins classes sources ≡ Err e)
plan_too_large view pins classes sources e all h = elim h [
  | inl m ↦ inl m
  | inr n ↦ inr (too_many view (choose_in view pins) (chosen_among view.records pins) classes sources n.1.asked_classes n.1.asked_sources n.1.below n.1.plan
      n.1.gathered all n.1.many ∙ ap Err (sym n.0))
]

up : {X : Type 0} (xs ys : List X) → IsPermutation xs ys → (x : X) → In x xs → In x ys
up xs ys h x i = in_of ys x (Contains-permutation xs ys x h (contains_of xs x i))

small : (q : Plan) (n m : ℕ) → length q.records ≡ n → length q.sources ≡ m → nat_lt most_entries (n + m) ≡ false → small_plan q ≡ Ok q
small q n m a b f = let is : nat_lt most_entries (length q.records + length q.sources) ≡ false = rw (a, b) f in rw is refl

pub plan_found : (view : Visible) (pins : List Pin) (classes sources : List (List ℕ)) (p q : Plan)
    → list_any (λ c. is_none (choose_in view pins c)) classes ≡ false
    → IsGathered view (choose_in view pins) classes sources classes sources p.records p → nat_lt most_entries (length p.records + length p.sources) ≡ false
    → IsPermutation p.records q.records → IsSortedBy rank_before q.records → IsPermutation p.sources q.sources → IsSortedBy source_before q.sources
    → plan_in view pins classes sources ≡ Ok q
plan_found view pins classes sources p q all g few rp rs sp ss =
    planned view (choose_in view pins) (chosen_among view.records pins) classes sources p q g all
    (sorted_ascends rank_before rank_before-Weak p.records q.records g.apart rp rs)
    (up q.records p.records (IsPermutation-sym p.records q.records rp)) (up p.records q.records rp)
    (sorted_ascends source_before source_before-Weak p.sources q.sources g.sources_apart sp ss)
    (up q.sources p.sources (IsPermutation-sym p.sources q.sources sp)) (up p.sources q.sources sp)
    ∙ small q (length p.records) (length p.sources) (length_permutation p.records q.records rp) (length_permutation p.sources q.sources sp) few

-- and it is in order
pub plan_in_order : (view : Visible) (pins : List Pin) (classes sources : List (List ℕ)) (p q : Plan)
    → IsGathered view (choose_in view pins) classes sources classes sources p.records p
    → IsPermutation p.records q.records → IsSortedBy rank_before q.records → IsPermutation p.sources q.sources → IsSortedBy source_before q.sources
    → IsInOrder q
plan_in_order view pins classes sources p q g rp rs sp ss =
    let choice = choose_in view pins in
    let chosen : (r : Record) → In r q.records → choice r.class.path ≡ Some r =
    λ r h. g.chosen r (up q.records p.records (IsPermutation-sym p.records q.records rp) r h) in
    record {
      records = sorted_ascends rank_before rank_before-Weak p.records q.records g.apart rp rs;
      once = λ x y h k e. one_of_class choice x y (chosen x h) (chosen y k) e;
      sources = sorted_ascends source_before source_before-Weak p.sources q.sources g.sources_apart sp ss;
    }
