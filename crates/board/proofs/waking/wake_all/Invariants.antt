use Rattle.std.proofs.Common.{◌≡◌, take}
use Rattle.board.specs.Waking.{AreWoken, woken_among}
use Rattle.board.proofs.waking.wake_all.Given as goal

abbrev pub invariant-loop-place : goal.invariant-loop-place
invariant-loop-place l = record {
  sessions : l.table.waiting ≡ l.fn.table.waiting;
  woken : AreWoken (woken_among l.topic (take l.place-index l.places)) l.fn.table.goals l.table.goals;
}
