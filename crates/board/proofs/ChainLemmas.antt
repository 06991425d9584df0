-- Goals that a search has come to.
use Rattle.std.proofs.Common.{◌≡◌, ℕ, ◌<◌, ◌+◌, Bool, true, false, List, [], ◌∷◌, ◌++◌, ◌⊎◌, inl, inr, length, take}
use Rattle.std.proofs.Common.{get_or, arith, refl, sym, ◌∙◌, if◌then◌else◌}
use Rattle.std.proofs.lemmas.Grind.{common_steps}
use Rattle.std.proofs.lemmas.Bool.Decides.{nat_tests}
use Rattle.board.specs.declared.stage.Goal.{Goal}
use Rattle.board.specs.Stages.{goal_at, HangsOn, is_under_way}
use Rattle.board.specs.Rows.{is_in}
use Rattle.board.specs.Chains.{once_more, AreFrom, BeginsWith, IsFollowedWith, IsPassed}

-- what stands among one place more stands among the first, or is that
pub in_more : (p i : ℕ) (xs : List ℕ) → i < length xs → is_in p (take (i + 1) xs) ≡ true
    → (is_in p (take i xs) ≡ true) ⊎ (p ≡ get_or xs i 0)
in_more p i xs lt is = grind (arith, common_steps, nat_tests)

-- a place that was put is there
pub put_in : (p : ℕ) (xs : List ℕ) → is_in p (once_more p xs) ≡ true
put_in p xs = grind (arith, common_steps, nat_tests)

-- others stay
pub still_in : (p q : ℕ) (xs : List ℕ) → is_in q xs ≡ true → is_in q (once_more p xs) ≡ true
still_in p q xs is = grind (arith, common_steps, nat_tests)

-- nothing else came
pub only_in : (p q : ℕ) (xs : List ℕ) → is_in q (once_more p xs) ≡ true → (is_in q xs ≡ true) ⊎ (q ≡ p)
only_in p q xs is = grind (arith, common_steps, nat_tests)

begins_more : (b : Bool) (p : ℕ) (xs : List ℕ) → BeginsWith (if b then xs else xs ++ p ∷ []) xs
begins_more true p xs = ([], grind (arith, common_steps))
begins_more false p xs = (p ∷ [], refl)

pub begins_still : (p : ℕ) (xs ys : List ℕ) → BeginsWith ys xs → BeginsWith (once_more p ys) xs
begins_still p xs ys (more, is) =
    let next = begins_more (is_in p ys) p ys in
    (more ++ next.0, grind (arith, common_steps, next.1))

from_either : (goals : List Goal) (place p : ℕ) (old places : List ℕ) → HangsOn goals place p
    → AreFrom goals place old places → (next : ℕ) → (is_in next places ≡ true) ⊎ (next ≡ p) → (is_in next old ≡ true)
    ⊎ HangsOn goals place next
from_either goals place p old places hangs from next (inl is) = from next is
from_either goals place p old places hangs from next (inr e) = inr (rw e hangs)

in_at : (i p next : ℕ) (items : List ℕ) → p ≡ get_or items i 0 → (is_in next (take i items) ≡ true)
    ⊎ (next ≡ get_or items i 0) → (is_in next (take i items) ≡ true) ⊎ (next ≡ p)
in_at i p next items here (inl is) = inl is
in_at i p next items here (inr e) = inr (e ∙ sym here)

followed_either : (goals : List Goal) (waiting : List Bool) (places : List ℕ) (place p next : ℕ) {among : Type 0}
    → is_under_way waiting (goal_at goals p) ≡ false → (among → IsPassed goals waiting places next) → among
    ⊎ (next ≡ p) → IsPassed goals waiting (once_more p places) next
followed_either goals waiting places place p next rests before (inl is) = let b = before is in (still_in p next places b.0, b.1)
followed_either goals waiting places place p next rests before (inr e) = rw e (put_in p places, rests)

-- one more on which a goal hangs
pub from_step : (goals : List Goal) (place p : ℕ) (old places : List ℕ) → HangsOn goals place p
    → AreFrom goals place old places → AreFrom goals place old (once_more p places)
from_step goals place p old places hangs from next is = from_either goals place p old places hangs from next (only_in p next places is)

-- one more of those on which a goal may hang is in the chain, and is not under way
pub followed_step : (goals : List Goal) (waiting : List Bool) (items places : List ℕ) (place p i : ℕ)
    → i < length items → p ≡ get_or items i 0 → is_under_way waiting (goal_at goals p) ≡ false
    → IsFollowedWith goals waiting (take i items) places place
    → IsFollowedWith goals waiting (take (i + 1) items) (once_more p places) place
followed_step goals waiting items places place p i lt here rests before next hangs is =
    followed_either goals waiting places place p next rests (λ among. before next hangs among) (in_at i p next items here (in_more next i items lt is))
