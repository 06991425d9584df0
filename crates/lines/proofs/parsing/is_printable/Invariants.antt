use Rattle.std.proofs.Common.{◌≡◌, ◌&&◌, drop}
use Rattle.std.specs.List.{list_all}
use Rattle.model.specs.ParsedLines.{is_printable}
use Rattle.lines.proofs.parsing.is_printable.Given as goal

abbrev pub invariant-loop-b : goal.invariant-loop-b
invariant-loop-b l = (l.is_printable && list_all is_printable (drop l.b-index l.line)) ≡ list_all is_printable l.line
