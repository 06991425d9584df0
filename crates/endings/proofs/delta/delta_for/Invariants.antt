use Rattle.std.proofs.Common.{◌≡◌, ◌++◌, ◌+◌, ◌≤◌, length}
use Rattle.std.specs.Prelude.{map}
use Rattle.std.specs.Vec.Iter.{into_iter_items, into_iter_len}
use Rattle.endings.specs.DeskDeltas.{delta_in, nothing, all_delta, all_statuses, status_at}
use Rattle.endings.proofs.delta.delta_for.Given as goal

abbrev pub invariant-loop-number : goal.invariant-loop-number
invariant-loop-number l = record {
  delta : all_delta l.limits.charge l.desk (into_iter_items l.number-iterator) (delta_in l.delta) ≡ all_delta l.limits.charge l.desk l.fn.built.items nothing;
  statuses : map status_at l.statuses.items ++ all_statuses l.limits.charge l.desk (into_iter_items l.number-iterator) (delta_in l.delta)
      ≡ all_statuses l.limits.charge l.desk l.fn.built.items nothing;
  left : into_iter_len l.number-iterator ≡ length (into_iter_items l.number-iterator);
  charge : l.desk.charge + l.delta.more ≤ l.limits.charge;
}
