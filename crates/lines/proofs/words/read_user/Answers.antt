use Rattle.std.proofs.Common.{inr, refl}
use Rattle.lines.proofs.WordLemmas.{long-user}
use Rattle.lines.proofs.words.read_user.Goals as goal

pub returns-then-word-gt-LONGEST_USER_NAME-clause-refused : goal.returns-then-word-gt-LONGEST_USER_NAME-clause-refused
returns-then-word-gt-LONGEST_USER_NAME-clause-refused c = inr (long-user c.args.word.now c.if-word-gt-LONGEST_USER_NAME.true, refl)
