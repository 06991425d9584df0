use Rattle.std.proofs.Common.{◌≡◌, drop, map}
use Rattle.events.specs.Statuses.{status_of}
use Rattle.endings.specs.DeskDeltas.{last_status, status_at}
use Rattle.endings.proofs.finishing.status_then.Given as goal

abbrev pub invariant-loop-other : goal.invariant-loop-other
invariant-loop-other l =
    last_status l.number (status_of l.last) (map status_at (drop l.other-index l.statuses)) ≡ last_status l.number (status_of l.status) (map status_at l.statuses)
