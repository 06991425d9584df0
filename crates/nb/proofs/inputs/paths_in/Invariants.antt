use Rattle.std.proofs.Common.{length}
use Rattle.nb.proofs.InputLemmas.{ReadsInputs}
use Rattle.nb.proofs.inputs.paths_in.Given as goal

-- the paths so far are those of the inputs that were read
abbrev pub invariant-loop-rest : goal.invariant-loop-rest
invariant-loop-rest l = ReadsInputs l.bytes l.paths.items l.rest

abbrev pub decreases-loop-rest : goal.decreases-loop-rest
decreases-loop-rest l = length l.rest
