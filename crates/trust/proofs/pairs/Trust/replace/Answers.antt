use Rattle.trust.proofs.pairs.Trust.replace.Goals as goal

pub returns-then-trusted-clause-now : goal.returns-then-trusted-clause-now
returns-then-trusted-clause-now c = rw c.if-trusted.true c.add.ensures

pub returns-else-trusted-clause-now : goal.returns-else-trusted-clause-now
returns-else-trusted-clause-now c = rw c.if-trusted.false c.remove.ensures
