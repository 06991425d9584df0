use Rattle.schedule.specs.Sweeping.{is_held}
use Rattle.schedule.proofs.StepLemmas.{keeps_stored}
use Rattle.schedule.proofs.SweepingLemmas.{holds_stored, hashed_swept}
use Rattle.schedule.proofs.state.Core.sweep.Goals as goal

pub returns-in_err-held-clause-holds : goal.returns-in_err-held-clause-holds
returns-in_err-held-clause-holds c = holds_stored c.args.self.now

pub returns-in_err-held-clause-keeps : goal.returns-in_err-held-clause-keeps
returns-in_err-held-clause-keeps c = keeps_stored c.args.self.now

pub returns-clause-hashed : goal.returns-clause-hashed
returns-clause-hashed c texts hashed =
    hashed_swept texts c.args.self.now c.keep_held.new.self (is_held c.args.self.now) c.keep_held.ensures.stored hashed

pub returns-clause-holds : goal.returns-clause-holds
returns-clause-holds c = holds_stored c.keep_held.new.self

pub returns-clause-keeps : goal.returns-clause-keeps
returns-clause-keeps c = keeps_stored c.keep_held.new.self
