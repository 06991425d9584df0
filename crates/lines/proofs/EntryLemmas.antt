-- A text to which pieces of items are added.
use Rattle.std.proofs.Common.{◌≡◌, ℕ, ◌+◌, ◌<◌, ◌≤◌, List, ◌++◌, length, drop, get_or, sym, ap, ◌∙◌, append_assoc}
use Rattle.std.specs.Prelude.{flat_map}
use Rattle.std.proofs.lemmas.List.{append-nil, drop_all}
use Rattle.records.proofs.LoopLemmas.{drop_next}

-- the piece of one item more
pub added_next : {A : Type 0} (f : A → List ℕ) (xs : List A) (i : ℕ) (x : A) (old new all : List ℕ) → i < length xs → x ≡ get_or xs i x → new ≡ old ++ f x
    → old ++ flat_map f (drop i xs) ≡ all → new ++ flat_map f (drop (i + 1) xs) ≡ all
added_next f xs i x old new all lt here made h =
    ap (λ t. t ++ flat_map f (drop (i + 1) xs)) made ∙ append_assoc old (f x) (flat_map f (drop (i + 1) xs))
    ∙ ap (λ ys. old ++ flat_map f ys) (sym (drop_next xs i x lt here)) ∙ h

-- no item is left
pub added_all : {A : Type 0} (f : A → List ℕ) (xs : List A) (i : ℕ) (old all : List ℕ) → length xs ≤ i → old ++ flat_map f (drop i xs) ≡ all → old ≡ all
added_all f xs i old all le h = sym (append-nil old) ∙ ap (λ ys. old ++ flat_map f ys) (sym (drop_all i xs le)) ∙ h
