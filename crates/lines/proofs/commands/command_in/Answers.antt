use Rattle.lines.proofs.WordLemmas.{words_by-length}
use Rattle.lines.proofs.commands.command_in.Goals as goal

pub invariant_of-result : goal.invariant_of-result
invariant_of-result c =
    words_by-length c.kinds.result.now _ c.in-Some.rest.now c.in_ok-words.field-0 c.in-Some-2.words c.in_ok-words.ensures c.in-Some-2.is c.kinds.ensures
