use Rattle.std.specs.Prelude.{◌≡◌, false, length}
use Rattle.model.specs.declared.mode.Mode.TheVariants.{Run}
use Rattle.model.specs.Lines.{split}
use Rattle.model.specs.Talk.{fresh}
use Rattle.session.specs.InputHeads.{FirstNames}
use Rattle.session.proofs.input_head.begins_with_users.Given as goal

-- no line so far got a reply
abbrev pub invariant-loop-line : goal.invariant-loop-line
invariant-loop-line l =
    (l.session.begun ≡ false) × (FirstNames l.session (split 10 l.rest) → FirstNames (fresh Run) (split 10 l.fn.bytes))
    × (FirstNames (fresh Run) (split 10 l.fn.bytes) → FirstNames l.session (split 10 l.rest))

abbrev pub decreases-loop-line : goal.decreases-loop-line
decreases-loop-line l = length l.rest
