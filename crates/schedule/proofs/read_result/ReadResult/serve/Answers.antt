use Rattle.std.proofs.Common.{refl, Ok}
use Rattle.schedule.proofs.read_result.ReadResult.serve.Goals as goal

pub returns-in-Told : goal.returns-in-Told
returns-in-Told c = rw c.in-Told.is (record { given = Ok c.in-Told.reply; gives = refl; is = refl })
