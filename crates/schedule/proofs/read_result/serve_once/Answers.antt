use Rattle.std.proofs.Common.{refl, Ok, Err}
use Rattle.schedule.proofs.read_result.serve_once.Goals as goal

pub returns-in-Ok : goal.returns-in-Ok
returns-in-Ok c = record { given = Ok c.in-Ok.reply; gives = c.in-Ok.ensures; is = refl }

pub returns-in-Err : goal.returns-in-Err
returns-in-Err c = record { given = Err c.in-Err.why; gives = c.in-Err.ensures; is = refl }
