-- The passes of a new front.
use Rattle.std.proofs.Common.{◌≡◌, ℕ, suc, ◌+◌, List, [], ◌∷◌, ◌++◌, map, ap, sym, ◌∙◌, arith}
use Rattle.std.proofs.lemmas.List.{map-append}
use Rattle.history.specs.Callers.{below}
use Rattle.history.specs.Callers.{PassKnowledge, new_pass}

more : (n : ℕ) → suc n ≡ n + 1
more n = omega arith

-- one pass more
pub newcomers_next : (n : ℕ) (passes next : List PassKnowledge) (pass : PassKnowledge) → passes ≡ map new_pass (below n) → next ≡ passes ++ pass ∷ []
    → pass ≡ new_pass n
    → next ≡ map new_pass (below (n + 1))
newcomers_next n passes next pass all one new =
    one ∙ (ap (λ (made : List PassKnowledge). made ++ pass ∷ []) all
    ∙ (ap (λ (p : PassKnowledge). map new_pass (below n) ++ p ∷ []) new
    ∙ (sym (map-append new_pass (below n) (n ∷ [])) ∙ ap (λ m. map new_pass (below m)) (more n))))
