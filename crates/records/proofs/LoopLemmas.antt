-- One turn of a loop.
use Rattle.std.proofs.Common.{◌≡◌, ℕ, ◌+◌, ◌<◌, Bool, true, false, ◌||◌, cond, List, [], ◌∷◌, ◌++◌, map, length, drop, get_or, refl, sym, ap, ◌∙◌, append_assoc, add-one, drop-cons, suc}
use Rattle.std.specs.List.{list_any}

-- the element of a turn, and those that are left
pub drop_next : {A : Type 0} (xs : List A) (i : ℕ) (x : A) → i < length xs → x ≡ get_or xs i x → drop i xs ≡ x ∷ drop (i + 1) xs
drop_next xs i x lt here = rw (add-one, drop-cons xs i x) (ap (λ y. y ∷ drop (suc i) xs) (sym here))

-- what was found so far, and what is left to find
pub found_next : {A : Type 0} (f : A → Bool) (old new all : Bool) (x : A) (left rest : List A) → left ≡ x ∷ rest → new ≡ cond (f x) true old
    → (old || list_any f left) ≡ all → (new || list_any f rest) ≡ all
found_next f old new all x left rest e n h = ap (λ b. b || list_any f rest) n ∙ moved (f x) old ∙ ap (λ xs. old || list_any f xs) (sym e) ∙ h
  where
    moved : (b c : Bool) → (cond b true c || list_any f rest) ≡ (c || (b || list_any f rest))
    moved true true = refl
    moved true false = refl
    moved false c = refl

-- what was pushed so far, and what is left to push
pub pushed_next : {A : Type 0} (f : A → Bool) (old : List Bool) (b : Bool) (x : A) (left rest : List A) (all : List Bool) → left ≡ x ∷ rest → b ≡ f x
    → old ++ map f left ≡ all → (old ++ b ∷ []) ++ map f rest ≡ all
pushed_next f old b x left rest all e n h =
    append_assoc old (b ∷ []) (map f rest) ∙ ap (λ y. old ++ y ∷ map f rest) n ∙ ap (λ xs. old ++ map f xs) (sym e) ∙ h
