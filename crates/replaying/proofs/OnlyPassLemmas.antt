-- What the one pass of a store is told, from what its front promises and what it reads.
use Rattle.std.proofs.Common.{◌≡◌, Bool, true, false, inl, inr, ◌∷◌, ◌++◌, [], refl, sym, ap, ◌∙◌, subst}
use Rattle.std.specs.Prelude.{◌≢◌, ◌⊎◌, ◌&&◌, ◌||◌, not}
use Rattle.std.proofs.lemmas.Bool.{true≢false}
use Rattle.model.specs.declared.refusal.Refusal.TheVariants.{Memory, Stopped}
use Rattle.model.specs.Worlds.{Setup}
use Rattle.model.specs.Events.{is_query}
use Rattle.model.specs.Replies.{is_memory}
use Rattle.model.proofs.BoolLemmas.{either}
use Rattle.events.specs.declared.event.Event.{Event}
use Rattle.events.specs.declared.reply.Reply.{Reply}
use Rattle.events.specs.declared.reply.Reply.TheVariants.{Refused}
use Rattle.events.specs.Terms.{event_of, request_of, reply_of}
use Rattle.schedule.specs.declared.query.Query.{Query}
use Rattle.schedule.specs.Queries.{event_for}
use Rattle.schedule.proofs.QueryLemmas.{asks}
use Rattle.history.specs.Callers.{Caller, PassKnowledge, told_stopped, seeing}
use Rattle.history.specs.Histories.{row, unrecorded, IsAnswered, IsReadAfter, IsLegal}
use Rattle.history.proofs.HistoryLemmas.{some_memory}
use Rattle.replaying.specs.OnlyPass.{known_by, says_stopped, IsOnlyAnswer}

stopped_so : (reply : Reply) → says_stopped (reply_of reply) ≡ true → reply ≡ Refused Stopped
stopped_so (Refused Stopped) says = refl
stopped_so (Refused why) says = cc
stopped_so reply says = cc

-- ---- queries

or_not : (a : Bool) → (a || false) ≡ a
or_not true = refl
or_not false = refl

module _ (setup : Setup) (old new : PassKnowledge) (lacked : Bool) (query : Query) (same : new ≡ seeing old new.seen) where
  abbrev event : Event
  event = event_for query

  is_asked : is_query (request_of event.request) ≡ true
  is_asked = asks query

  same_caller : new.caller ≡ old.caller
  same_caller = ap (λ (p : PassKnowledge). p.caller) same

  same_sure : new.caller.sure ≡ old.caller.sure
  same_sure = ap (λ (c : Caller). c.sure) same_caller

  still_stopped : old.caller.stopped ≡ true → (new.caller.stopped ≡ true) × (is_query (request_of event.request) ≡ false → ⊥)
  still_stopped was = (ap (λ (c : Caller). c.stopped) same_caller ∙ was, λ other. true≢false (sym is_asked ∙ other))

  -- what a pass reads that is sure of all that it has seen
  pub only_read : (reply : Reply) → (unrecorded reply ≡ false → IsReadAfter setup old.caller.number new.seen event reply) → reply ≢ Refused Stopped
      → new.seen ≡ new.caller.sure → IsOnlyAnswer setup (known_by old lacked) (event_of event) (reply_of reply) (known_by new lacked)
  only_read reply read going all = record {
    row = λ some. (
      row old.caller.number event reply,
      refl,
      refl,
      subst (λ rows. IsLegal setup (rows ++ row old.caller.number event reply ∷ [])) (all ∙ same_sure) (read some),
      rw is_asked same_sure,
    );
    kept = λ none. same_sure;
    lacked = rw is_asked (sym (or_not lacked));
    stopped = λ says. absurd (going (stopped_so reply says));
    remains = λ was. let still = still_stopped was in (still.0, λ other. absurd (still.1 other));
  }

  -- where it is not, the query is refused memory
  pub only_unread : IsOnlyAnswer setup (known_by old lacked) (event_of event) (reply_of (Refused Memory)) (known_by new lacked)
  only_unread = record {
    row = λ some. cc;
    kept = λ none. same_sure;
    lacked = rw is_asked (sym (or_not lacked));
    stopped = λ says. cc;
    remains = λ was. let still = still_stopped was in (still.0, λ other. absurd (still.1 other));
  }

-- ---- other events

-- what a call of the only pass of a front promises
pub record IsCalled (setup : Setup) (old new : PassKnowledge) (event : Event) (reply : Reply) : Type 0 where
  pub answered : unrecorded reply ≡ false → IsAnswered setup old event reply new
  pub alone : unrecorded reply ≡ false → new.caller.sure ≡ old.caller.sure ++ row old.caller.number event reply ∷ []
  pub memory : reply ≡ Refused Memory → new.caller ≡ old.caller
  pub stopped : reply ≡ Refused Stopped → new.caller ≡ told_stopped old.caller
  pub remains : old.caller.stopped ≡ true → (reply ≡ Refused Stopped) ⊎ (reply ≡ Refused Memory)

kept : (old new : Caller) (reply : Reply) → unrecorded reply ≡ true → (reply ≡ Refused Memory → new ≡ old) → (reply ≡ Refused Stopped → new ≡ told_stopped old)
    → new.sure ≡ old.sure
kept old new (Refused Memory) none memory stopped = ap (λ (c : Caller). c.sure) (memory refl)
kept old new (Refused Stopped) none memory stopped = ap (λ (c : Caller). c.sure) (stopped refl)
kept old new (Refused why) none memory stopped = cc
kept old new reply none memory stopped = cc

and_not : (a : Bool) → (a && false) ≡ false
and_not true = refl
and_not false = refl

still_lacked : (lacked other memory : Bool) → (lacked ≡ false → memory ≡ false) → lacked ≡ (lacked || (other && memory))
still_lacked true other memory none = refl
still_lacked false other memory none = rw (none refl) (sym (and_not other))

module _ (setup : Setup) (old new : PassKnowledge) (lacked : Bool) (event : Event) (reply : Reply) (called : IsCalled setup old new event reply)
    (before : old.caller.stopped ≡ true → lacked ≡ true) where
  -- a reply that is no first want of memory is told as it is
  pub only_answer : is_query (request_of event.request) ≡ false → (unrecorded reply ≡ true → lacked ≡ true)
      → IsOnlyAnswer setup (known_by old lacked) (event_of event) (reply_of reply) (known_by new lacked)
  only_answer other was_told = record {
    row = λ some.
        let a = called.answered some in
        let rows : a.before ++ row old.caller.number event reply ∷ [] ≡ old.caller.sure ++ row old.caller.number event reply ∷ [] =
        sym (ap (λ (c : Caller). c.sure) a.sure) ∙ called.alone some in
        (row old.caller.number event reply, refl, refl, subst (IsLegal setup) rows a.legal, rw other (called.alone some));
    kept = λ none. kept old.caller new.caller reply none called.memory called.stopped;
    lacked = still_lacked lacked (not (is_query (request_of event.request))) (is_memory (reply_of reply)) (λ none. some_memory reply (not_gave none));
    stopped = λ says.
        let is : reply ≡ Refused Stopped = stopped_so reply says in
        (other, was_told (ap unrecorded is), ap (λ (c : Caller). c.stopped) (called.stopped is));
    remains = λ was. elim (called.remains was) [
      | inl is ↦ (ap (λ (c : Caller). c.stopped) (called.stopped is), λ _. ap unrecorded is)
      | inr is ↦ (ap (λ (c : Caller). c.stopped) (called.memory is) ∙ was, λ _. ap unrecorded is)
    ];
  }
    where
      not_gave : lacked ≡ false → unrecorded reply ≡ false
      not_gave none = elim (either (unrecorded reply)) [
        | inl gave ↦ let bad : false ≡ true = sym none ∙ was_told gave in cc
        | inr some ↦ some
      ]
