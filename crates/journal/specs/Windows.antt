-- A window on a file.
use Rattle.std.specs.Prelude.{ℕ, List, drop}
use Rattle.journal.specs.declared.window.Window.{Window}

-- the bytes at hand, which are not taken yet
abbrev pub at_hand : Window → List ℕ
at_hand window = drop window.start window.bytes.items
