use Rattle.history.proofs.TokenLemmas.{begins}
use Rattle.history.proofs.log.LogTable.new.Goals as goal

pub of_words-requires : goal.of_words-requires
of_words-requires c = begins
