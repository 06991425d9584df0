use Rattle.nar.proofs.ArchiveCompleteness.{string_at-front}
use Rattle.nar.proofs.ArchiveSoundness.{string_whole_again}
use Rattle.nar.proofs.law.strings_are_read.Goals as goal

pub returns : goal.returns
returns c = record { written = string_at-front; read = string_whole_again }
