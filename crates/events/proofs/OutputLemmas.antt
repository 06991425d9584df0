-- What is kept of what builders wrote.
use Rattle.std.proofs.Common.{◌≡◌, Some, ap, sym, ◌∙◌, subst}
use Rattle.model.specs.Archives.{Tree, AreBytes}
use Rattle.model.specs.ArchiveReading.{tree_of_archive}
use Rattle.nar.proofs.ArchiveBytes.{archive_bytes}
use Rattle.nar.proofs.ArchiveSoundness.{tree_of_archive-nar}
use Rattle.events.specs.declared.output.Written.{Written}
use Rattle.events.specs.declared.output.Written.TheVariants.{Archive, Other}
use Rattle.events.specs.Outputs.{bytes_written, IsKept}

pub are_bytes : (written : Written) → IsKept written → AreBytes (bytes_written written)
are_bytes (Archive tree) kept = archive_bytes tree kept
are_bytes (Other bytes) kept = kept.0

-- the tree that is kept is that of the bytes
pub tree_kept : (written : Written) (tree : Tree) → written ≡ Archive tree → IsKept written → Some tree ≡ tree_of_archive (bytes_written written)
tree_kept written tree is kept = sym (ap (λ w. tree_of_archive (bytes_written w)) is ∙ tree_of_archive-nar tree (subst IsKept is kept))
