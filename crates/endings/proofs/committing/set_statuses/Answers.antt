use Rattle.std.proofs.Common.{◌∙◌}
use Rattle.std.specs.Prelude.{map}
use Rattle.events.specs.Statuses.{status_of}
use Rattle.handlers.specs.Supported.{goals_of}
use Rattle.endings.specs.DeskDeltas.{status_at}
use Rattle.endings.proofs.StatusLemmas.{statuses_before, last_there, popped}
use Rattle.endings.proofs.committing.set_statuses.Goals as goal

pub set_status-requires-clause-there : goal.set_status-requires-clause-there
set_status-requires-clause-there c =
    (last_there (goals_of c.loop-number.jobs.goals c.args.place) (map status_at c.loop-number.statuses.items) (map status_at c.pop.new.self.items)
    (c.in-Some.number, status_of c.in-Some.status) (popped c.loop-number.statuses.items c.pop.new.self.items c.in-Some.number c.in-Some.status
    c.in-Some.ensures.items) c.loop-number.invariant.settable).0

pub set_status-requires-clause-status : goal.set_status-requires-clause-status
set_status-requires-clause-status c =
    (last_there (goals_of c.loop-number.jobs.goals c.args.place) (map status_at c.loop-number.statuses.items) (map status_at c.pop.new.self.items)
    (c.in-Some.number, status_of c.in-Some.status) (popped c.loop-number.statuses.items c.pop.new.self.items c.in-Some.number c.in-Some.status
    c.in-Some.ensures.items) c.loop-number.invariant.settable).1

pub loop-number-preserved : goal.loop-number-preserved
loop-number-preserved c =
    let next = statuses_before c.args.jobs.now c.loop-number.jobs c.set_status.new.self c.args.place (c.in-Some.number, status_of c.in-Some.status)
    (map status_at c.pop.new.self.items) (map status_at c.loop-number.statuses.items) (popped c.loop-number.statuses.items c.pop.new.self.items
    c.in-Some.number c.in-Some.status c.in-Some.ensures.items) c.requires.of_run c.loop-number.invariant.others
    c.loop-number.invariant.settable c.set_status.ensures in
    record {
      left = next.0 ∙ c.loop-number.invariant.left;
      settable = next.1;
      others = next.2;
    }
