use Rattle.std.proofs.Common.{◌≡◌, length}
use Rattle.std.specs.Prelude.{map}
use Rattle.jobs.specs.Owned.{with_goals_at}
use Rattle.handlers.specs.Supported.{goals_of}
use Rattle.endings.specs.DeskDeltas.{with_statuses, status_at}
use Rattle.endings.specs.Committing.{AreSettable}
use Rattle.endings.proofs.committing.set_statuses.Given as goal

abbrev pub invariant-loop-number : goal.invariant-loop-number
invariant-loop-number l = record {
  left : with_statuses (map status_at l.statuses.items) (goals_of l.jobs.goals l.place)
      ≡ with_statuses (map status_at l.fn.statuses.items) (goals_of l.initial.jobs.goals l.place);
  settable : AreSettable (goals_of l.jobs.goals l.place) (map status_at l.statuses.items);
  others : l.jobs ≡ with_goals_at l.place (goals_of l.jobs.goals l.place) l.initial.jobs;
}

abbrev pub decreases-loop-number : goal.decreases-loop-number
decreases-loop-number l = length l.statuses.items
