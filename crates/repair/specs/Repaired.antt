-- One record repaired, by what that depends on.
use Rattle.std.specs.Prelude.{ℕ, List, [], length, Result, Ok, Err}
use Rattle.model.specs.declared.refusal.Refusal.{Refusal}
use Rattle.model.specs.Archives.{Tree, nar}
use Rattle.model.specs.Classes.{Class}
use Rattle.model.specs.Worlds.{Record}
use Rattle.model.specs.Repairs.{Replacement, repaired}

-- what comes of a record of a class at a path with a tree, whose labels are replaced so: its labels make no other difference
abbrev pub repaired_of : Class → List ℕ → Tree → List Replacement → Result Record Refusal
repaired_of class path tree replacements = repaired (record { class = class; path = path; tree = tree; labels = [] }) replacements

-- the bytes of the archive of what came of a record: none where it was refused
abbrev pub made_len : Result Record Refusal → ℕ
made_len (Ok made) = length (nar made.tree)
made_len (Err why) = 0
