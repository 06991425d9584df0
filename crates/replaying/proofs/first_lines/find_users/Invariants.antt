use Rattle.std.proofs.Common.{◌≡◌, ℕ, false, List, Some, None}
use Rattle.model.specs.Lines.{lines_of}
use Rattle.replaying.specs.Recording.{Begins}
use Rattle.replaying.proofs.first_lines.find_users.Given as goal

-- the lines so far name nobody, and the rest is left
abbrev pub invariant-loop : goal.invariant-loop
invariant-loop g l = (l.session.begun ≡ false) × ((all : List ℕ) → g.R.Read.remaining l.fn.input ≡ Some all
    → (rest : List ℕ) × (g.R.Read.remaining l.input ≡ Some rest) × Begins (lines_of all) (lines_of rest) None l.session l.bad)
