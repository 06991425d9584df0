use Rattle.std.specs.Prelude.{map, take, string_bytes}
use Rattle.files.specs.Opening.{AreOpened}
use Rattle.files.proofs.opening.open_all.Given as goal

-- the files of the names so far are open
abbrev pub invariant-loop-name : goal.invariant-loop-name
invariant-loop-name g l = AreOpened g.P.Provides.opened g.P.Provides.made l.fn.run (map string_bytes (take l.name-index l.name-items)) l.files.items
