use Rattle.std.specs.Prelude.{map}
use Rattle.trust.specs.Trusting.{trusts}
use Rattle.events.specs.Terms.{event_of}
use Rattle.events.proofs.KeepingLemmas.{IsTurning}
use Rattle.events.proofs.striking.exchange_all.Given as goal

abbrev pub invariant-loop-turn : goal.invariant-loop-turn
invariant-loop-turn l = IsTurning l.users (trusts l.fn.trust) (map event_of l.fn.events.items) (map event_of l.events.items) (trusts l.trust) l._turn
