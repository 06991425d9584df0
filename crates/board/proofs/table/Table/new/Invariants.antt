use Rattle.std.proofs.Common.{◌≡◌, length}
use Rattle.board.proofs.table.Table.new.Given as goal

abbrev pub invariant-loop : goal.invariant-loop
invariant-loop l = length l.seats.items ≡ l.counter
