use Rattle.std.specs.Prelude.{◌≡◌, Ok, take}
use Rattle.files.specs.Outputs.{first_end}
use Rattle.files.proofs.ended.first_fault.Given as goal

-- each end so far is that of all lines
abbrev pub invariant-loop-place : goal.invariant-loop-place
invariant-loop-place l = first_end (take l.place l.outputs) ≡ Ok tt
