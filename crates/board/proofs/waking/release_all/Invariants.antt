use Rattle.std.proofs.Common.{◌≡◌, nat_lt, if◌then◌else◌}
use Rattle.board.specs.Waking.{AreWoken, released}
use Rattle.board.proofs.waking.release_all.Given as goal

abbrev pub invariant-loop-place : goal.invariant-loop-place
invariant-loop-place l = record {
  sessions : l.table.waiting ≡ l.fn.table.waiting;
  woken : AreWoken (λ place goal. if nat_lt place l.place then released l.seat goal else goal) l.fn.table.goals l.table.goals;
}
