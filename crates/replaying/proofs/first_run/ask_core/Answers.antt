use Rattle.std.proofs.Common.{rules}
use Rattle.replaying.proofs.RecordingLemmas.{asked_new}
use Rattle.replaying.proofs.first_run.ask_core.Goals as goal

pub returns-clause-asked : goal.returns-clause-asked
returns-clause-asked g c =
    let out = rw (← c.recorder.view_is) at c.in_ok-ask_lines.ensures.out in
    asked_new g.J.FrontId.setup _ _ _ _ _ _ _ (search rules) (search rules) out
