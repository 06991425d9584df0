use Rattle.std.proofs.Common.{take}
use Rattle.trust.specs.Trusting.{trusts}
use Rattle.events.specs.Ever.{IsGiven}
use Rattle.events.proofs.striking.trust_ever.Given as goal

abbrev pub invariant-loop-event : goal.invariant-loop-event
invariant-loop-event l = IsGiven l.users (take l.event-index l.events) (trusts l.trust)
