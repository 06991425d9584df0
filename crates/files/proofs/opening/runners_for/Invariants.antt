use Rattle.std.proofs.Common.{◌≡◌, length}
use Rattle.std.specs.Prelude.{All}
use Rattle.files.specs.Opening.{BuildsIn}
use Rattle.files.proofs.opening.runners_for.Given as goal

-- there is one for each worker so far
abbrev pub invariant-loop-worker : goal.invariant-loop-worker
invariant-loop-worker g l = All (BuildsIn l.fn.run) l.runners.items × (length l.runners.items ≡ l.worker)
