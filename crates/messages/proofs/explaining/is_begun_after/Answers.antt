use Rattle.std.proofs.Common.{sym}
use Rattle.messages.proofs.CommentLemmas.{begun_by_last}
use Rattle.messages.proofs.explaining.is_begun_after.Goals as goal

pub returns-in-Some : goal.returns-in-Some
returns-in-Some c = begun_by_last c.args.is_begun c.args.bytes.now c.in-Some.last.now (sym c.in-Some.ensures.value)
