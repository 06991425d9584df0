-- Reading items one after another: what one turn of the loop does.
use Rattle.std.proofs.Common.{◌≡◌, ℕ, zero, suc, ◌+◌, ◌-◌, ◌<◌, true, false, List, [], ◌∷◌, ◌++◌, length, drop, refl, ap, sym, ◌∙◌, append_assoc, append-nil, arith}
use Rattle.std.specs.Prelude.{Option, Some, None}
use Rattle.model.specs.Results.{◌>>=◌}
use Rattle.model.specs.DerivationTexts.{ItemReader, is_at, with_item_first, items_at}

-- what was read, behind items
abbrev pub onto : {X : Type 0} → List X → Option (List X × List ℕ) → Option (List X × List ℕ)
onto xs read = read >>= λ ys. Some (xs ++ ys.0, ys.1)

pub onto-none : {X : Type 0} (read : Option (List X × List ℕ)) → read ≡ onto [] read
onto-none None = refl
onto-none (Some x) = refl

pub onto-push : {X : Type 0} (xs : List X) (x : X) (read : Option (List X × List ℕ)) → onto (xs ++ x ∷ []) read ≡ onto xs (with_item_first x read)
onto-push xs x None = refl
onto-push xs x (Some ys) = ap (λ zs. Some (zs, ys.1)) (append_assoc xs (x ∷ []) ys.0)

-- the items end here
pub ends : {X : Type 0} (item : ItemReader X) (closing next : List ℕ) (n : ℕ) (separator rest : List ℕ) → 0 < n → is_at closing rest ≡ true
    → items_at item closing next n separator rest ≡ Some ([], drop (length closing) rest)
unfolding items_at
ends item closing next zero separator rest h e = absurd (omega (arith, h))
ends item closing next (suc n) separator rest h e = rw e refl

-- there is no item here
pub fails : {X : Type 0} (item : ItemReader X) (closing next : List ℕ) (n : ℕ) (separator rest : List ℕ) → is_at closing rest ≡ false
    → item separator rest ≡ None
    → items_at item closing next n separator rest ≡ None
unfolding items_at
fails item closing next zero separator rest e h = refl
fails item closing next (suc n) separator rest e h = rw (e, h) refl

-- one item, and then others
pub one_more : {X : Type 0} (item : ItemReader X) (closing next : List ℕ) (n : ℕ) (separator rest : List ℕ) (x : X) (after : List ℕ)
    → is_at closing rest ≡ false → item separator rest ≡ Some (x, after)
    → items_at item closing next (suc n) separator rest ≡ with_item_first x (items_at item closing next n next after)
unfolding items_at
one_more item closing next n separator rest x after e h = rw (e, h) refl

-- a loop over items, where what is read from the start is what is read from here, behind the items so far: the items end here
pub loop_ends : {X : Type 0} (item : ItemReader X) (closing next : List ℕ) (whole : Option (List X × List ℕ)) (xs : List X) (n : ℕ) (separator rest after : List ℕ)
    → whole ≡ onto xs (items_at item closing next n separator rest) → 0 < n → is_at closing rest ≡ true → drop (length closing) rest ≡ after
    → whole ≡ Some (xs, after)
loop_ends item closing next whole xs n separator rest after stands h e d =
    stands ∙ ap (onto xs) (ends item closing next n separator rest h e) ∙ ap (λ ys. Some (ys, drop (length closing) rest)) (append-nil xs) ∙ ap (λ r. Some (xs, r)) d

-- there is no item here
pub loop_fails : {X : Type 0} (item : ItemReader X) (closing next : List ℕ) (whole : Option (List X × List ℕ)) (xs : List X) (n : ℕ) (separator rest : List ℕ)
    → whole ≡ onto xs (items_at item closing next n separator rest) → is_at closing rest ≡ false → item separator rest ≡ None → whole ≡ None
loop_fails item closing next whole xs n separator rest stands e h = stands ∙ ap (onto xs) (fails item closing next n separator rest e h)

-- so many items were read
pub loop_spent : {X : Type 0} (item : ItemReader X) (closing next : List ℕ) (whole : Option (List X × List ℕ)) (xs : List X) (n : ℕ) (separator rest : List ℕ)
    → whole ≡ onto xs (items_at item closing next n separator rest) → n ≡ 0 → whole ≡ None
unfolding items_at
loop_spent item closing next whole xs zero separator rest stands h = stands
loop_spent item closing next whole xs (suc n) separator rest stands h = absurd (omega (arith, h))

-- an item is read
pub loop_goes_on : {X : Type 0} (item : ItemReader X) (closing next : List ℕ) (whole : Option (List X × List ℕ)) (xs ys : List X) (end i : ℕ) (separator later rest : List ℕ) (x : X) (after : List ℕ)
    → whole ≡ onto xs (items_at item closing next (end - i) separator rest) → i < end → is_at closing rest ≡ false
    → item separator rest ≡ Some (x, after) → xs ++ x ∷ [] ≡ ys → next ≡ later
    → whole ≡ onto ys (items_at item closing next (end - (i + 1)) later after)
loop_goes_on item closing next whole xs ys end i separator later rest x after stands lt e h pushed l =
    let less : end - i ≡ suc (end - (i + 1)) = omega arith in
    stands ∙ ap (λ m. onto xs (items_at item closing next m separator rest)) less ∙ ap (onto xs) (one_more item closing next (end - (i + 1)) separator rest x after e h)
    ∙ sym (onto-push xs x (items_at item closing next (end - (i + 1)) next after)) ∙ ap (λ zs. onto zs (items_at item closing next (end - (i + 1)) next after)) pushed
    ∙ ap (λ s. onto ys (items_at item closing next (end - (i + 1)) s after)) l
