use Rattle.std.proofs.Common.{rules}
use Rattle.nar.proofs.ArchiveSoundness.{string_whole_again}
use Rattle.nar.proofs.strings.read_str.Goals as goal

pub returns-in-Ok-clause-begins : goal.returns-in-Ok-clause-begins
returns-in-Ok-clause-begins c =
    string_whole_again c.args.bytes.now c.in-Ok.read.0.now c.in-Ok.read.1.now (λ i. search rules) c.in-Ok.ensures.read
