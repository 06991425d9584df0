-- What builders wrote, as it is kept.
use Rattle.std.specs.Prelude.{◌≡◌, ℕ, List, None}
use Rattle.model.specs.Archives.{nar, AreBytes, IsTree}
use Rattle.model.specs.ArchiveReading.{tree_of_archive}
use Rattle.events.specs.declared.output.Written.{Written}
use Rattle.events.specs.declared.output.Written.TheVariants.{Archive, Other}

abbrev pub bytes_written : Written → List ℕ
bytes_written (Archive tree) = nar tree
bytes_written (Other bytes) = bytes

-- a tree is kept of each archive, and of nothing else
abbrev pub IsKept : Written → Type 0
IsKept (Archive tree) = IsTree tree
IsKept (Other bytes) = AreBytes bytes × (tree_of_archive bytes ≡ None)
