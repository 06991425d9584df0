-- Passes of one front that meet.
use Rattle.std.specs.Prelude.{◌≡◌, ◌≢◌, ◌⊎◌, ◌||◌, Bool, true, false, ℕ, List, Result, Ok, Err}
use Rattle.std.proofs.Common.{inl, inr, refl, sym, ◌∙◌, ap, true≢false}
use mathlib.Core.List.{IsPrefix}
use Rattle.model.specs.declared.refusal.Refusal.{Refusal}
use Rattle.model.specs.declared.refusal.Refusal.TheVariants.{Memory, Stopped}
use Rattle.model.specs.Worlds.{Setup}
use Rattle.model.specs.Goals.{Running}
use Rattle.model.specs.Replies.{is_memory_refusal, is_stopped_refusal}
use Rattle.model.proofs.BoolLemmas.{either}
use Rattle.events.specs.declared.event.Event.{Event}
use Rattle.events.specs.declared.reply.Reply.{Reply}
use Rattle.events.specs.declared.reply.Reply.TheVariants.{Refused}
use Rattle.history.specs.Callers.{Caller, PassKnowledge, knowing, seeing, told_stopped, new_pass}
use Rattle.history.specs.Histories.{unrecorded}
use Rattle.history.proofs.Prefixes.{prefix_self, prefix_trans}
use Rattle.book.specs.Asking.{IsAskedBy}
use Rattle.running.specs.Calling.{is_read, IsTold}

-- a pass met others, or none: of its own calls it knows what it knew, but that the front may be stopped, and it has seen what it had seen
pub record HasMet (old new : PassKnowledge) : Type 0 where
  pub caller : new.caller ≡ knowing new.caller.stopped old.caller
  pub remains : old.caller.stopped ≡ true → new.caller.stopped ≡ true
  pub seen : IsPrefix old.seen new.seen
  pub stops : new.stops ≡ old.stops

-- a pass that has made no call, and seen nothing
abbrev pub IsNew : PassKnowledge → Type 0
IsNew p = p ≡ new_pass p.caller.number

-- ---- what follows

pub met_none : (p : PassKnowledge) → HasMet p p
met_none p = record { caller = refl; remains = λ is. is; seen = prefix_self p.seen; stops = refl }

pub met_more : (p q r : PassKnowledge) → HasMet p q → HasMet q r → HasMet p r
met_more p q r first next = record {
  caller = next.caller ∙ ap (λ (c : Caller). knowing r.caller.stopped c) first.caller;
  remains = λ is. next.remains (first.remains is);
  seen = prefix_trans p.seen q.seen r.seen first.seen next.seen;
  stops = next.stops ∙ first.stops;
}

-- who looks at what is published adds no row, as who meets others
pub met_seeing : (p q : PassKnowledge) → q ≡ seeing p q.seen → IsPrefix p.seen q.seen → HasMet p q
met_seeing p q same seen =
    let caller : q.caller ≡ p.caller = ap (λ (k : PassKnowledge). k.caller) same in
    record {
      caller = caller ∙ ap (λ b. knowing b p.caller) (sym (ap (λ (c : Caller). c.stopped) caller));
      remains = λ is. ap (λ (c : Caller). c.stopped) caller ∙ is;
      seen = seen;
      stops = ap (λ (k : PassKnowledge). k.stops) same;
    }

-- who asks for a job adds no row, as who meets others
pub met_asking : (setup : Setup) (p q : PassKnowledge) (user : List ℕ) (number : ℕ) (told : Result Running Refusal)
    → IsAskedBy setup p user number told q → HasMet p q
met_asking setup p q user number told asked = elim (either (is_told_stopped told)) [
  | inl stops ↦
      let same = asked.stopped (stopped_if told stops) in
      let caller : q.caller ≡ told_stopped p.caller = ap (λ (k : PassKnowledge). k.caller) same in
      let knows : q.caller.stopped ≡ true = ap (λ (c : Caller). c.stopped) caller in
      record {
        caller = caller ∙ ap (λ b. knowing b p.caller) (sym knows);
        remains = λ _. knows;
        seen = asked.seen;
        stops = ap (λ (k : PassKnowledge). k.stops) same;
      }
  | inr goes ↦
      let same = asked.going (λ is. true≢false (sym (ap is_told_stopped is) ∙ goes)) in
      let caller : q.caller ≡ p.caller = ap (λ (k : PassKnowledge). k.caller) same in
      record {
        caller = caller ∙ ap (λ b. knowing b p.caller) (sym (ap (λ (c : Caller). c.stopped) caller));
        remains = λ is. ap (λ (c : Caller). c.stopped) caller ∙ is;
        seen = asked.seen;
        stops = ap (λ (k : PassKnowledge). k.stops) same;
      }
]
  where
    -- whether it was told 92
    is_told_stopped : Result Running Refusal → Bool
    is_told_stopped (Ok job) = false
    is_told_stopped (Err why) = is_stopped_refusal why

    stopped_if : (told : Result Running Refusal) → is_told_stopped told ≡ true → told ≡ Err Stopped
    stopped_if (Ok job) is = absurd (cc)
    stopped_if (Err Stopped) is = refl
    stopped_if (Err why) is = absurd (cc)

-- ---- where the front was stopped

-- a reply that has no row is 90 or 92
pub unrecorded_cases : (reply : Reply) → unrecorded reply ≡ true → (reply ≡ Refused Memory) ⊎ (reply ≡ Refused Stopped)
unrecorded_cases (Refused why) gave = refusal_cases why gave
  where
    refusal_cases : (why : Refusal) → (is_memory_refusal why || is_stopped_refusal why) ≡ true
        → (Refused why ≡ Refused Memory) ⊎ (Refused why ≡ Refused Stopped)
    refusal_cases Memory gave = inl refl
    refusal_cases Stopped gave = inr refl
    refusal_cases why gave = absurd (cc)
unrecorded_cases reply gave = absurd (cc)

-- whether a pass was told that the front is stopped
abbrev pub is_stopped : PassKnowledge → Bool
is_stopped p = p.caller.stopped

pub stopped_met : (p q : PassKnowledge) → HasMet p q → is_stopped p ≡ true → is_stopped q ≡ true
stopped_met p q met is = met.remains is

pub stopped_told : (setup : Setup) (p q : PassKnowledge) (event : Event) → IsTold setup p event (Refused Stopped) q → is_stopped q ≡ true
stopped_told setup p q event told = ap (λ (c : Caller). c.stopped) (told.stopped refl)

pub stopped_called : (setup : Setup) (p q : PassKnowledge) (event : Event) (reply : Reply) → IsTold setup p event reply q → is_stopped p ≡ true
    → is_stopped q ≡ true
stopped_called setup p q event reply told is = elim (either (unrecorded reply)) [
  | inl gave ↦ elim (unrecorded_cases reply gave) [
    | inl memory ↦ ap (λ (c : Caller). c.stopped) (told.memory memory) ∙ is
    | inr stopped ↦ ap (λ (c : Caller). c.stopped) (told.stopped stopped)
  ]
  | inr some ↦ elim (either (is_read event)) [
    | inl read ↦ ap (λ (k : PassKnowledge). k.caller.stopped) (told.only_read read).0 ∙ is
    | inr called ↦ ap (λ (c : Caller). c.stopped) (told.answered (rw (some, called) refl)).sure ∙ is
  ]
]

-- ---- which calls stopped the front

-- how many calls of a pass did
abbrev pub stops_by : PassKnowledge → ℕ
stops_by p = p.stops

pub stops_met : (p q : PassKnowledge) → HasMet p q → stops_by q ≡ stops_by p
stops_met p q met = met.stops

pub stops_called : (setup : Setup) (p q : PassKnowledge) (event : Event) (reply : Reply) → IsTold setup p event reply q → reply ≢ Refused Memory
    → stops_by q ≡ stops_by p
stops_called setup p q event reply told other = told.no_stop other

pub stops_new : (p : PassKnowledge) → IsNew p → stops_by p ≡ 0
stops_new p new = ap (λ (k : PassKnowledge). k.stops) new
