-- What one call through a pass is told.
use Rattle.std.proofs.Common.{◌≡◌, ◌⊎◌, Bool, true, false, refl, sym, ◌∙◌, ap}
use Rattle.std.specs.Prelude.{◌&&◌, not, ◌≢◌}
use Rattle.std.proofs.lemmas.Bool.{false≢true}
use mathlib.Core.List.{IsPrefix}
use Rattle.model.specs.declared.refusal.Refusal.TheVariants.{Memory, Stopped}
use Rattle.model.specs.Worlds.{Setup}
use Rattle.events.specs.declared.event.Event.{Event}
use Rattle.events.specs.declared.reply.Reply.{Reply}
use Rattle.events.specs.declared.reply.Reply.TheVariants.{Refused}
use Rattle.schedule.specs.declared.query.Query.{Query}
use Rattle.schedule.specs.Queries.{event_for}
use Rattle.schedule.proofs.QueryLemmas.{asks}
use Rattle.history.specs.Callers.{PassKnowledge, seeing, told_stopped}
use Rattle.history.specs.Histories.{unrecorded, IsAnswered, IsReadAfter}
use Rattle.running.specs.Calling.{is_read, IsCounted, IsTold}

-- neither of two
neither : (a b : Bool) → (not a && not b) ≡ true → (a ≡ false) × (b ≡ false)
neither false false is = (refl, refl)
neither false true is = absurd (false≢true is)
neither true b is = absurd (false≢true is)

-- a query was read
pub told_read : (setup : Setup) (old new : PassKnowledge) (q : Query) (reply : Reply)
    → (unrecorded reply ≡ false → IsReadAfter setup old.caller.number new.seen (event_for q) reply)
    → IsPrefix old.seen new.seen → new ≡ seeing old new.seen → reply ≢ Refused Stopped → IsCounted old → IsCounted new
    → IsTold setup old (event_for q) reply new
told_read setup old new q reply read longer same going before after = record {
  answered = λ some. absurd (false≢true (sym (neither (unrecorded reply) (is_read (event_for q)) some).1 ∙ asks q));
  read = λ asks some. read some;
  only_read = λ asks. (same, going);
  memory = λ none. ap (λ (k : PassKnowledge). k.caller) same;
  stopped = λ is. absurd (going is);
  remains = λ other was. absurd (false≢true (sym other ∙ asks q));
  no_stop = λ _. ap (λ (k : PassKnowledge). k.stops) same;
  seen = longer;
  before = before;
  after = after;
}

-- any other event was handed to the front
pub told_called : (setup : Setup) (old new : PassKnowledge) (e : Event) (reply : Reply) → is_read e ≡ false
    → (unrecorded reply ≡ false → IsAnswered setup old e reply new) → (reply ≡ Refused Memory → new.caller ≡ old.caller)
    → (reply ≡ Refused Stopped → new.caller ≡ told_stopped old.caller)
    → (old.caller.stopped ≡ true → (reply ≡ Refused Stopped) ⊎ (reply ≡ Refused Memory))
    → (reply ≢ Refused Memory → new.stops ≡ old.stops) → IsPrefix old.seen new.seen → IsCounted old → IsCounted new → IsTold setup old e reply new
told_called setup old new e reply other answered memory stopped remains no_stop longer before after = record {
  answered = λ some. answered (neither (unrecorded reply) (is_read e) some).0;
  read = λ asks some. absurd (false≢true (sym other ∙ asks));
  only_read = λ asks. absurd (false≢true (sym other ∙ asks));
  memory = memory;
  stopped = stopped;
  remains = λ _ was. remains was;
  no_stop = no_stop;
  seen = longer;
  before = before;
  after = after;
}
