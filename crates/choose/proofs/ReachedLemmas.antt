-- What is needed, and that what is gathered is the plan.
use Rattle.std.proofs.Common.{◌≡◌, ℕ, ◌+◌, ◌<◌, true, false, inl, inr, refl, sym, ◌∙◌, ap, subst, arith, List, [], ◌∷◌, length, Option, Some, Err}
use Rattle.std.specs.Prelude.{nat_lt, is_none, bytes_eq, filter_map}
use Rattle.std.specs.List.{list_any}
use Rattle.std.proofs.lemmas.Bool.Decides.{nat_tests}
use Rattle.model.specs.declared.refusal.Refusal.TheVariants.{NotRealised, ClosureTooLarge}
use Rattle.model.specs.Limits.{most_entries}
use Rattle.model.specs.Worlds.{Source, Record}
use Rattle.model.specs.Orders.{set_of}
use Rattle.model.specs.Choices.{rank_before, source_before, is_of, is_of_any, names_class_of, all_chosen, classes_below, sources_below, needed_records, Plan, small_plan, source_among, needed_sources, plan_by}
use Rattle.model.proofs.BoolLemmas.{either, same_bytes, bytes_same}
use Rattle.laws.proofs.MemberLemmas.{In, any_true, from_any, in_left, in_right, in_append, from_filter_map, in_filter_map, in_flat_map, from_flat_map, from_set, in_set}
use Rattle.laws.proofs.ClosureLemmas.{some_same, IsOfClass, chosen_own, needed_chosen, chosen_for, sources_for}
use Rattle.laws.proofs.AllReachedLemmas.{reached_first, reached_next, reached_least}
use Rattle.choose.specs.Visible.{Visible}
use Rattle.choose.specs.Gathering.{IsChoiceAmong, IsGathered}
use Rattle.laws.proofs.SetLemmas.{Ascends, same_members, set_ascends}
use Rattle.records.proofs.SetLemmas.{no_more, apart_distinct}
use Rattle.laws.proofs.OrderLemmas.{same_source}
use Rattle.records.proofs.EntryOrderLemmas.{rank_before-Weak, same_class_path, source_before-Weak}

-- ---- what is needed

of_any : (classes : List (List ℕ)) (r : Record) → In r.class.path classes → is_of_any classes r ≡ true
of_any classes r h = any_true (λ c. is_of c r) classes r.class.path h (bytes_same r.class.path)

from_of_any : (classes : List (List ℕ)) (r : Record) → is_of_any classes r ≡ true → In r.class.path classes
from_of_any classes r t = let w = from_any (λ c. is_of c r) classes t in subst (λ c. In c classes) (sym (same_bytes r.class.path w.0 w.2)) w.1

module _ (records : List Record) (choice : List ℕ → Option Record) (own : IsChoiceAmong records choice) (classes : List (List ℕ)) where
  of_class : IsOfClass choice
  of_class c r e = (own c r e).1

  among_chosen : (c : List ℕ) (r : Record) → choice c ≡ Some r → In r (all_chosen choice records)
  among_chosen c r e =
      let w = own c r e in
      in_filter_map (λ (q : Record). choice q.class.path) r r records w.0 (subst (λ d. choice d ≡ Some r) (sym w.1) e)

  pub needed_first : (c : List ℕ) (r : Record) → In c classes → choice c ≡ Some r → In r (needed_records records choice classes)
  needed_first c r h e =
      reached_first (is_of_any classes) names_class_of (all_chosen choice records) r (among_chosen c r e)
      (of_any classes r (subst (λ d. In d classes) (sym (own c r e).1) h))

  -- so is what the labels of one that is needed name
  pub needed_next : (q r : Record) (c : List ℕ) → In q (needed_records records choice classes) → In c (classes_below q) → choice c ≡ Some r
      → In r (needed_records records choice classes)
  needed_next q r c h b e =
      reached_next (is_of_any classes) names_class_of (all_chosen choice records) q r h (among_chosen c r e)
      (of_any (classes_below q) r (subst (λ d. In d (classes_below q)) (sym (own c r e).1) b))

  -- a list with all that is chosen for classes, and for the classes below its members, has all that is needed
  pub needed_all : (rs : List Record) → ((c : List ℕ) (s : Record) → In c classes → choice c ≡ Some s → In s rs)
      → ((r s : Record) (c : List ℕ) → In r rs → In c (classes_below r) → choice c ≡ Some s → In s rs)
      → (r : Record) → In r (needed_records records choice classes) → In r rs
  needed_all rs asked below =
      let all = all_chosen choice records in
      reached_least (is_of_any classes) names_class_of all (λ r. In r rs)
      (λ r i t. asked r.class.path r (from_of_any classes r t) (chosen_own records choice of_class r i))
      (λ r s i j h on. below r s s.class.path h (from_of_any (classes_below r) s on) (chosen_own records choice of_class s j))

-- ---- plans

-- chosen records of one class are the same
pub one_of_class : (choice : List ℕ → Option Record) (x y : Record) → choice x.class.path ≡ Some x → choice y.class.path ≡ Some y
    → x.class.path ≡ y.class.path → x ≡ y
one_of_class choice x y a b e = some_same x y (sym a ∙ ap choice e ∙ b)

in_chosen : (records : List Record) (choice : List ℕ → Option Record) → IsOfClass choice → (classes : List (List ℕ)) (r : Record)
    → In r (needed_records records choice classes) → In r (chosen_for records choice classes)
in_chosen records choice own classes r h =
    let needed = needed_records records choice classes in
    let w = in_set rank_before r needed h in
    let is : r ≡ w.0 = one_of_class choice r w.0 (needed_chosen records choice own classes r h)
    (needed_chosen records choice own classes w.0 (from_set rank_before w.0 needed w.1)) (same_class_path r w.0 w.2) in
    subst (λ z. In z (chosen_for records choice classes)) (sym is) w.1

pub source_own : (sources : List Source) (q : List ℕ) (s : Source) → source_among sources q ≡ Some s → s.path ≡ q
source_own [] q s e = absurd (cc)
source_own (x ∷ ss) q s e = elim (either (bytes_eq x.path q)) [
  | inl t ↦ (let is : x ≡ s = some_same x s (rw t at e) in ap (λ (z : Source). z.path) (sym is) ∙ same_bytes x.path q t)
  | inr f ↦ source_own ss q s (rw f at e)
]

in_sources : (visible : List Source) (paths : List (List ℕ)) (s : Source) → source_among visible s.path ≡ Some s → In s.path paths
    → In s (set_of source_before (filter_map (source_among visible) paths))
in_sources visible paths s e h =
    let all = filter_map (source_among visible) paths in
    let w = in_set source_before s all (in_filter_map (source_among visible) s.path s paths h e) in
    let v = from_filter_map (source_among visible) w.0 paths (from_set source_before w.0 all w.1) in
    let there : source_among visible w.0.path ≡ Some w.0 = subst (λ q. source_among visible q ≡ Some w.0) (sym (source_own visible v.0 w.0 v.2)) v.2 in
    let is : s ≡ w.0 = some_same s w.0 (sym e ∙ ap (source_among visible) (same_source s w.0 w.2) ∙ there) in
    subst (λ z. In z (set_of source_before all)) (sym is) w.1

module _ (view : Visible) (choice : List ℕ → Option Record) (own : IsChoiceAmong view.records choice) (classes sources A P : List (List ℕ))
    (D : List Record) (p : Plan) (g : IsGathered view choice classes sources A P D p) where
  abbrev chosen : List Record
  chosen = chosen_for view.records choice classes

  abbrev labelled : List Source
  labelled = sources_for view.records view.sources choice classes sources

  -- all that was found belongs to the plan
  found_records : (r : Record) → In r p.records → In r chosen
  found_records r h = in_chosen view.records choice (of_class view.records choice own classes) classes r (g.reach r h)

  found_sources : (s : Source) → In s p.sources → In s labelled
  found_sources s h =
      in_sources view.sources (needed_sources sources chosen) s (g.found s h)
      (elim (g.needed s h) [
        | inl a ↦ in_left s.path sources _ a
        | inr w ↦ in_right s.path sources _ (in_flat_map sources_below w.0 s.path chosen (found_records w.0 w.1) w.2)
      ])

  -- so it is too large wherever more was found than a closure may have
  pub too_many : list_any (λ c. is_none (choice c)) classes ≡ false → most_entries < length p.records + length p.sources
      → plan_by view.records view.sources choice classes sources ≡ Err ClosureTooLarge
  unfolding plan_by
  too_many all many =
      let a = no_more p.records chosen (apart_distinct rank_before rank_before-Weak p.records g.apart) found_records in
      let b = no_more p.sources labelled (apart_distinct source_before source_before-Weak p.sources g.sources_apart) found_sources in
      let over : most_entries < length chosen + length labelled = omega (arith, many, a, b) in
      let large : nat_lt most_entries (length chosen + length labelled) ≡ true = grind (arith, nat_tests) in
      rw (all, large) refl

-- all has been found, and is in order
pub planned : (view : Visible) (choice : List ℕ → Option Record) → IsChoiceAmong view.records choice → (classes sources : List (List ℕ)) (p q : Plan)
    → IsGathered view choice classes sources classes sources p.records p
    → list_any (λ c. is_none (choice c)) classes ≡ false
    → Ascends rank_before q.records → ((r : Record) → In r q.records → In r p.records) → ((r : Record) → In r p.records → In r q.records)
    → Ascends source_before q.sources → ((s : Source) → In s q.sources → In s p.sources) → ((s : Source) → In s p.sources → In s q.sources)
    → plan_by view.records view.sources choice classes sources ≡ small_plan q
unfolding plan_by
planned view choice own classes sources p q g all ra rd ru sa sd su =
    let chosen = chosen_for view.records choice classes in
    let needed = needed_records view.records choice classes in
    let back : (r : Record) → In r chosen → In r p.records = λ r h.
    needed_all view.records choice own classes p.records g.asked g.below r (from_set rank_before r needed h) in
    let records : q.records ≡ chosen = same_members rank_before rank_before-Weak q.records chosen ra (set_ascends rank_before rank_before-Weak needed)
    (λ r h. found_records view choice own classes sources classes sources p.records p g r (rd r h)) (λ r h. ru r (back r h)) in
    let paths = needed_sources sources chosen in
    let labelled = filter_map (source_among view.sources) paths in
    let all_sources = sources_for view.records view.sources choice classes sources in
    let found : q.sources ≡ all_sources = same_members source_before source_before-Weak q.sources all_sources sa
    (set_ascends source_before source_before-Weak labelled)
    (λ s h. found_sources view choice own classes sources classes sources p.records p g s (sd s h))
    (λ s h.
    let w = from_filter_map (source_among view.sources) s paths (from_set source_before s labelled h) in
    su s (elim (in_append w.0 sources _ w.1) [
      | inl a ↦ g.sources_asked w.0 s a w.2
      | inr b ↦ let v = from_flat_map sources_below w.0 chosen b in g.sources_below v.0 w.0 s (back v.0 v.1) v.2 w.2
    ])) in
    let is : small_plan q ≡ small_plan (record { records = chosen; sources = all_sources }) =
    λ i. small_plan (record { records = records i; sources = found i }) in
    rw all (sym is)

-- a class asked for has no record
pub none_chosen : (records : List Record) (visible : List Source) (choice : List ℕ → Option Record) (classes sources : List (List ℕ))
    → list_any (λ c. is_none (choice c)) classes ≡ true → plan_by records visible choice classes sources ≡ Err NotRealised
unfolding plan_by
none_chosen records visible choice classes sources h = rw h refl
