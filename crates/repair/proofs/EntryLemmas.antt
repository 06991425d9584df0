-- The entries of what serves the classes of a plan, in order.
use Rattle.std.proofs.Common.{◌≡◌, ℕ, true, ◌⊎◌, inl, inr, refl, sym, ◌∙◌, ap, subst, List, [], ◌∷◌, ◌++◌, Option, Result, Ok, Err}
use Rattle.std.specs.Prelude.{map, MatchResult}
use Rattle.std.specs.Global.{Vec}
use Rattle.model.specs.declared.refusal.Refusal.{Refusal}
use Rattle.model.specs.declared.refusal.Refusal.TheVariants.{Memory}
use Rattle.model.specs.Archives.{bytes_before}
use Rattle.model.specs.Results.{then_do}
use Rattle.model.specs.Worlds.{Source, Record, Entry, OfSource, OfRecord}
use Rattle.model.specs.Choices.{rank_before, source_before, Plan}
use Rattle.model.specs.Repairs.{serve, chosen_in, serve_all}
use Rattle.model.specs.Closures.{entry_before, served_entries, served_plan}
use Rattle.laws.proofs.MemberLemmas.{In, in_append, from_map}
use Rattle.records.specs.Plans.{IsApart, AreApart, IsInOrder}
use Rattle.laws.proofs.SetLemmas.{Ascends, clash, irreflexive}
use Rattle.records.proofs.SetLemmas.{sorted_set}
use Rattle.records.proofs.EntryOrderLemmas.{rank_before-Weak, source_before-Weak, entry_before-Weak, entries_apart}
use Rattle.repair.specs.Served.{Served, values_of}
use Rattle.repair.specs.Serving.{AreServedBy, AreServed, members_with, AreEntries}
use Rattle.laws.proofs.ServedLemmas.{serve_class, chosen_in_class}
use Rattle.repair.proofs.ServingLemmas.{all_served}

-- each value serves one of the records
value_from : (choice : List ℕ → Option Record) (rs : List Record) (es : Served) (v : Record) → AreServedBy choice rs es → In v (values_of es)
    → (r : Record) × In r rs × (serve choice r.class.path ≡ Ok v)
value_from choice [] [] v a h = absurd h
value_from choice [] (x ∷ es) v a h = absurd a
value_from choice (q ∷ rs) [] v a h = absurd a
value_from choice (q ∷ rs) (x ∷ es) v a h = elim h [
  | inl same ↦ (q, inl refl, subst (λ z. serve choice q.class.path ≡ Ok z) same a.1)
  | inr behind ↦ let w = value_from choice rs es v a.2 behind in (w.0, inr w.1, w.2)
]

records_apart : (p : Plan) → IsInOrder p → (rs : List Record) (es : Served) → Ascends rank_before rs → ((x : Record) → In x rs → In x p.records)
    → AreServed p rs es → AreApart entry_before (map OfRecord (values_of es))
records_apart p o [] [] up sub a = tt
records_apart p o [] (x ∷ es) up sub a = absurd a
records_apart p o (r ∷ rs) [] up sub a = absurd a
records_apart p o (r ∷ rs) (x ∷ es) up sub a = (
  λ y h.
      let v = from_map OfRecord y (values_of es) h in
      let q = value_from (chosen_in p.records) rs es v.0 a.2 v.1 in
      let own = serve_class (chosen_in p.records) (chosen_in_class p.records) in
      subst (λ z. IsApart entry_before (OfRecord x.1) z) v.2
      (entries_apart (OfRecord x.1) (OfRecord v.0) (λ path (class : x.1.class.path ≡ v.0.class.path).
      (let same : r ≡ q.0 = o.once r q.0 (sub r (inl refl)) (sub q.0 (inr q.1)) (sym (own r.class.path x.1 a.1) ∙ class ∙ own q.0.class.path v.0 q.2) in
      clash (rank_before r r) (subst (λ z. rank_before r z ≡ true) (sym same) (up.0 q.0 q.1)) (irreflexive rank_before rank_before-Weak r)))),
  records_apart p o rs es up.1 (λ z i. sub z (inr i)) a.2,
)

sources_apart : (ss : List Source) → Ascends source_before ss → AreApart entry_before (map OfSource ss)
sources_apart [] up = tt
sources_apart (x ∷ ss) up = (
  λ y k.
      let v = from_map OfSource y ss k in
      subst (λ z. IsApart entry_before (OfSource x) z) v.2
      (entries_apart (OfSource x) (OfSource v.0) (λ path class.
      clash (source_before x x) (subst (λ q. bytes_before x.path q ≡ true) (sym path) (up.0 v.0 v.1)) (irreflexive source_before source_before-Weak x))),
  sources_apart ss up.1,
)

apart_append : (xs ys : List Entry) → AreApart entry_before xs → AreApart entry_before ys → ((x y : Entry) → In x xs → In y ys → IsApart entry_before x y)
    → AreApart entry_before (xs ++ ys)
apart_append [] ys a b h = b
apart_append (x ∷ xs) ys a b h = (
  λ y k. elim (in_append y xs ys k) [ inl i ↦ a.0 y i | inr i ↦ h x y (inl refl) i ],
  apart_append xs ys a.1 b (λ u v i j. h u v (inr i) j),
)

members_apart : (p : Plan) → IsInOrder p → (es : Served) → AreServed p p.records es → AreApart entry_before (members_with p.sources (values_of es))
members_apart p o es a =
    apart_append (map OfRecord (values_of es)) (map OfSource p.sources) (records_apart p o p.records es o.records (λ x h. h) a) (sources_apart p.sources o.sources)
    (λ x y i j.
    let v = from_map OfRecord x (values_of es) i in
    let w = from_map OfSource y p.sources j in
    subst (λ z. IsApart entry_before z y) v.2 (subst (λ z. IsApart entry_before (OfRecord v.0) z) w.2
    (entries_apart (OfRecord v.0) (OfSource w.0) (λ path class. class))))

-- a sort of the members gives the entries of a plan
entries_sorted : (p : Plan) → IsInOrder p → (es : Served) (entries : List Entry) → AreServed p p.records es
    → AreEntries p.sources es entries → served_plan p ≡ Ok entries
unfolding served_plan
entries_sorted p o es entries a sorted =
    let set = sorted_set entry_before entry_before-Weak (members_with p.sources (values_of es)) entries (members_apart p o es a) sorted.0 sorted.1 in
    ap (λ x. then_do x (served_entries p.sources)) (all_served p es a) ∙ ap Ok (sym set)

pub plan_served : (p : Plan) → IsInOrder p → (es : Served) (sources : List Source) (answer : Result (Vec Entry) Refusal) → AreServed p p.records es
    → sources ≡ p.sources
    → MatchResult answer (λ v. AreEntries sources es v.items) (λ e. e ≡ Memory)
    → MatchResult answer (λ v. served_plan p ≡ Ok v.items) (λ e. (e ≡ Memory) ⊎ (served_plan p ≡ Err e))
plan_served p o es sources (Ok v) a s h = entries_sorted p o es v.items a (subst (λ ss. AreEntries ss es v.items) s h)
plan_served p o es sources (Err why) a s h = inl h

pub plan_refused : (p : Plan) (why : Refusal) → (why ≡ Memory) ⊎ (serve_all p.records ≡ Err why) → (why ≡ Memory) ⊎ (served_plan p ≡ Err why)
unfolding served_plan
plan_refused p why h = elim h [ inl m ↦ inl m | inr e ↦ inr (ap (λ x. then_do x (served_entries p.sources)) e) ]
