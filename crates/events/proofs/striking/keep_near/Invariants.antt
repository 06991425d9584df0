use Rattle.std.proofs.Common.{ℕ, List}
use Rattle.std.specs.Prelude.{map}
use Rattle.model.specs.Events.{Event}
use Rattle.trust.specs.Trusting.{trusts}
use Rattle.events.specs.Terms.{event_of}
use Rattle.events.specs.Undoing.{nobody, AreUndone}
use Rattle.events.proofs.KeepingLemmas.{IsKeeping}
use Rattle.events.proofs.striking.keep_near.Given as goal

abbrev pub invariant-loop-turn : goal.invariant-loop-turn
invariant-loop-turn l = (all : List Event) (charge : ℕ) → AreUndone l.users nobody all (map event_of l.fn.events.items) (trusts l.fn.trust)
    → IsKeeping l.users charge l.place all (map event_of l.events.items) (trusts l.trust) l.near l._turn
