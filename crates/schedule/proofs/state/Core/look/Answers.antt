use Rattle.events.specs.Terms.{event_of}
use Rattle.schedule.specs.Queries.{event_for}
use Rattle.schedule.proofs.ReadResultLemmas.{found_step, not_found_step}
use Rattle.schedule.proofs.state.Core.look.Goals as goal

pub returns-in-Ok : goal.returns-in-Ok
returns-in-Ok c reply from =
    found_step c.one_tree_at_a_path.ensures c.never_fails.ensures c.args.self.now (event_of (event_for c.args.query.now)) c.in-Ok.read_result
    c.sound.ensures c.in-Ok.ensures reply from

pub returns-in-Err : goal.returns-in-Err
returns-in-Err c reply from =
    not_found_step c.one_tree_at_a_path.ensures c.never_fails.ensures c.args.self.now (event_of (event_for c.args.query.now)) c.in-Err.refusal
    c.sound.ensures c.in-Err.ensures reply from
