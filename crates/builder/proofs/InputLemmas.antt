-- Writing inputs one after another.
use Rattle.std.proofs.Common.{◌≡◌, ℕ, Bool, true, false, List, [], ◌∷◌, ◌++◌, refl, sym, ap, ◌∙◌, append-nil, cond, ◌+◌, ◌<◌, length, drop, drop-cons, add-one, slice_index_or}
use Rattle.std.specs.Prelude.{bytes_eq}
use Rattle.model.specs.Worlds.{Entry, path_of_entry}
use Rattle.model.specs.Inputs.{input_of, input_text, inputs_behind, inputs_text}
use Rattle.model.proofs.BoolLemmas.{same_bytes}

-- the inputs of an entry and of those behind it
pub inputs_behind-cons : (last : List ℕ) (e : Entry) (es : List Entry)
    → inputs_text (inputs_behind last (e ∷ [])) ++ inputs_text (inputs_behind (path_of_entry e) es) ≡ inputs_text (inputs_behind last (e ∷ es))
inputs_behind-cons last e es = go (bytes_eq (path_of_entry e) last) refl
  where
    go : (b : Bool) → bytes_eq (path_of_entry e) last ≡ b
        → inputs_text (cond b [] (input_of e ∷ [])) ++ inputs_text (inputs_behind (path_of_entry e) es)
        ≡ inputs_text (cond b (inputs_behind last es) (input_of e ∷ inputs_behind (path_of_entry e) es))
    go true k = ap (λ p. inputs_text (inputs_behind p es)) (same_bytes (path_of_entry e) last k)
    go false k = ap (λ s. s ++ inputs_text (inputs_behind (path_of_entry e) es)) (append-nil (input_text (input_of e)))

-- the item of a place, in front of what follows
pub next_item : {X : Type 0} (xs : List X) (i : ℕ) (x : X) → i < length xs → x ≡ slice_index_or xs i x → drop i xs ≡ x ∷ drop (i + 1) xs
next_item xs i x below is =
    let next : drop i xs ≡ slice_index_or xs i x ∷ drop (i + 1) xs = rw add-one (drop-cons xs i x below) in
    next ∙ ap (λ y. y ∷ drop (i + 1) xs) (sym is)
