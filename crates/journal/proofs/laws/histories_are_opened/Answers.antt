use Rattle.journal.proofs.HistoryLemmas.{unbroken}
use Rattle.journal.proofs.laws.histories_are_opened.Goals as goal

pub returns-clause-begun : goal.returns-clause-begun
returns-clause-begun c = λ settings rows history fault. fault history.settings history.entries history.header

pub returns-clause-unbroken : goal.returns-clause-unbroken
returns-clause-unbroken c = unbroken
