use Rattle.std.proofs.Common.{◌≡◌, vec_len}
use Rattle.std.specs.Prelude.{All}
use Rattle.handlers.specs.Sound.{IsEmpty}
use Rattle.handlers.proofs.empty.empty_desks.Given as goal

abbrev pub invariant-loop-desk : goal.invariant-loop-desk
invariant-loop-desk l = record {
  empty : All IsEmpty l.desks.items;
  count : vec_len l.desks ≡ l._desk;
}
