use Rattle.std.proofs.Common.{inl}
use Rattle.builder.proofs.processes.run_with_log.Goals as goal

pub returns-in-Ok-new : goal.returns-in-Ok-new
returns-in-Ok-new g c = rw c.in-Ok.is (inl (c.in-Ok-new.log, c.in-Ok-new.ensures, c.run_process.ensures))
