-- What a front leaves.
use Rattle.std.specs.Prelude.{List, map}
use Rattle.std.specs.Arc.{arc_value}
use Rattle.history.specs.declared.row.Row.{Row}
use Rattle.book.specs.declared.closed_history.History.{History}

-- the rows of a closed history
abbrev pub rows_in : History → List Row
rows_in history = map arc_value history.rows.items
