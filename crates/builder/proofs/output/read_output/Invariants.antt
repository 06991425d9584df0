use Rattle.std.proofs.Common.{◌≡◌, ℕ, List, length, take}
use Rattle.builder.specs.Pieces.{Reads, joined}
use Rattle.builder.proofs.output.read_output.Given as goal

-- a piece was read in each turn, and the beginning of all is kept
abbrev pub invariant-loop : goal.invariant-loop
invariant-loop g l =
    (pieces : List (List ℕ))
    × Reads g.O.Outside.steps l.initial.outside l.initial.output pieces l.output l.outside
    × (l.kept.items ≡ take 67108865 (joined pieces))
    × (length pieces ≡ l.counter)
