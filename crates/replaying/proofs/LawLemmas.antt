-- What is printed for a user where only the events are run that can reach him, beside what is printed where all are.
use Rattle.std.proofs.Common.{◌≡◌, ℕ, Bool, true, false, inl, inr, List, [], ◌∷◌, ◌++◌, map, refl, sym, ap, ◌∙◌, subst}
use Rattle.std.proofs.Common.{append_assoc}
use Rattle.std.specs.Prelude.{◌&&◌, ◌||◌, not, filter, Contains, Result, Ok, Err, IfOk}
use Rattle.std.specs.Global.{Vec}
use Rattle.std.specs.List.{list_any}
use Rattle.std.proofs.lemmas.List.Elements.{All-contains}
use Rattle.model.specs.declared.refusal.Refusal.{Refusal}
use Rattle.model.specs.Paths.{NoClash}
use Rattle.model.specs.Worlds.{Setup, nothing}
use Rattle.model.specs.Events.{is_query, Event}
use Rattle.model.specs.Replies.{Reply, Refused, is_memory, is_unrecorded}
use Rattle.model.specs.Steps.{answers, replies_to, replies}
use Rattle.model.specs.Private.{ArePrivate}
use Rattle.model.specs.HashedTexts.{hashed}
use Rattle.model.specs.Striking.{strike}
use Rattle.model.specs.Talk as talk
use Rattle.model.specs.Talk.{asked_in}
use Rattle.model.proofs.BoolLemmas.{either}
use Rattle.laws.proofs.HashLemmas.{hashes_no_more}
use Rattle.trust.specs.declared.user.User.{User}
use Rattle.events.specs.declared.event.Event.{Event as AskedEvent}
use Rattle.events.specs.declared.reply.Reply.{Reply as GivenReply}
use Rattle.events.specs.Terms.{event_of, answer_of}
use Rattle.schedule.specs.Running.{HadMemory, IsRun}
use Rattle.history.specs.declared.row.Row.{Row}
use Rattle.history.specs.Histories.{event_in, answer_in, events_of, answers_of, IsLegal}
use Rattle.replaying.specs.declared.numbers.FirstRun.{FirstRun}
use Rattle.replaying.specs.OnlyPass.{lacks_memory, says_stopped}
use Rattle.replaying.specs.Replaying.{pair_of, StopsByMemory, AreOfOneStore}
use Rattle.replaying.specs.Striking.{events_in, struck, numbers_of, text_for, lines_under, HadMemoryFor, HaveOneText, Rerun, IsStruck}
use Rattle.replaying.specs.Recording.{IsFirstRun}
use Rattle.replaying.proofs.StrikingLemmas.{answer_to, text-lines}

-- ---- the first run

or_front : (a b : Bool) → (a || b) ≡ false → a ≡ false
or_front true b h = cc
or_front false b h = refl

or_back : (a b : Bool) → (a || b) ≡ false → b ≡ false
or_back true b h = cc
or_back false b h = h

is_recorded : (reply : Reply) → is_memory reply ≡ false → says_stopped reply ≡ false → is_unrecorded reply ≡ false
is_recorded (Refused why) m s = rw (m, s) refl
is_recorded reply m s = refl

lacks_none : (other memory : Bool) → memory ≡ false → (not other && memory) ≡ false
lacks_none true memory none = refl
lacks_none false memory none = none

-- memory was refused to none of some events
abbrev HadMemoryIn : List (Event × Reply) → Type 0
HadMemoryIn pairs = list_any (λ p. is_memory p.1) pairs ≡ false

none_lacked : (pairs : List (Event × Reply)) → HadMemoryIn pairs → list_any (λ p. lacks_memory p.0 p.1) pairs ≡ false
none_lacked [] m = refl
none_lacked (p ∷ pairs) m =
    rw (lacks_none (is_query p.0.request) (is_memory p.1) (or_front (is_memory p.1) (list_any (λ q. is_memory q.1) pairs) m))
    (none_lacked pairs (or_back (is_memory p.1) (list_any (λ q. is_memory q.1) pairs) m))

had_front : (before pairs : List (Event × Reply)) → HadMemoryIn (before ++ pairs) → HadMemoryIn before
had_front [] pairs m = refl
had_front (p ∷ before) pairs m =
    rw (or_front (is_memory p.1) (list_any (λ q. is_memory q.1) (before ++ pairs)) m)
    (had_front before pairs (or_back (is_memory p.1) (list_any (λ q. is_memory q.1) (before ++ pairs)) m))

-- so none was told that the store is stopped
none_stopped : (pairs before later : List (Event × Reply)) (event : Event) (reply : Reply) → StopsByMemory pairs → HadMemoryIn pairs
    → pairs ≡ before ++ (event, reply) ∷ later → says_stopped reply ≡ false
none_stopped pairs before later event reply stops memory cut = elim (either (says_stopped reply)) [
  | inl says ↦
      let lacked = (stops before later event reply cut says).cause in
      let none = none_lacked before (had_front before ((event, reply) ∷ later) (subst HadMemoryIn cut memory)) in
      let bad : true ≡ false = sym lacked ∙ none in
      cc
  | inr not_so ↦ not_so
]

-- and all are recorded, those behind some events too
all_recorded_behind : (pairs before rest : List (Event × Reply)) → StopsByMemory pairs → HadMemoryIn pairs → HadMemoryIn rest → pairs ≡ before ++ rest
    → filter (λ p. not (is_unrecorded p.1)) rest ≡ rest
all_recorded_behind pairs before [] stops memory none cut = refl
all_recorded_behind pairs before (p ∷ rest) stops memory none cut =
    let going : says_stopped p.1 ≡ false = none_stopped pairs before rest p.0 p.1 stops memory cut in
    let kept : not (is_unrecorded p.1) ≡ true = ap not (is_recorded p.1 (or_front (is_memory p.1) (list_any (λ q. is_memory q.1) rest) none) going) in
    rw kept
    (ap (λ t. p ∷ t)
    (all_recorded_behind pairs (before ++ p ∷ []) rest stops memory (or_back (is_memory p.1) (list_any (λ q. is_memory q.1) rest) none)
    (cut ∙ sym (append_assoc before (p ∷ []) rest))))

all_recorded : (pairs : List (Event × Reply)) → StopsByMemory pairs → HadMemoryIn pairs → filter (λ p. not (is_unrecorded p.1)) pairs ≡ pairs
all_recorded pairs stops memory = all_recorded_behind pairs [] pairs stops memory memory refl

history_events : (history : List Row) → map (λ (p : Event × Reply). p.0) (map pair_of history) ≡ events_of history
history_events [] = refl
history_events (r ∷ history) = ap (λ t. event_in r ∷ t) (history_events history)

history_answers : (history : List Row) → map answer_to (map pair_of history) ≡ answers_of history
history_answers [] = refl
history_answers (r ∷ history) = ap (λ t. answer_in r ∷ t) (history_answers history)

module _ (setup : Setup) (user : List ℕ) (rows : List talk.LineRow) where
  -- his replies in a legal history
  legal_replies : (timed : Bool) (history : List Row) → IsLegal setup history → NoClash (hashed setup nothing (events_of history))
      → replies_to user (answers_of history) ≡ replies setup user (struck timed setup user (events_of history))
  legal_replies true history legal clean = (legal.private clean).timed user
  legal_replies false history legal clean = (legal.private clean).isolated user

  -- his replies where all events are run are those to the events that can reach him
  first_replies : (timed : Bool) → AreOfOneStore setup rows → NoClash (hashed setup nothing (events_in rows)) → HadMemoryFor rows
      → replies_to user (map answer_to (asked_in rows)) ≡ replies setup user (struck timed setup user (events_in rows))
  first_replies timed one clean memory =
      let history = one.recorded.history in
      let pairs : map pair_of history ≡ asked_in rows =
      one.recorded.is ∙ all_recorded (asked_in rows) one.stopped memory in
      let events : events_of history ≡ events_in rows =
      sym (history_events history) ∙ ap (λ (t : List (Event × Reply)). map (λ p. p.0) t) pairs in
      let told : answers_of history ≡ map answer_to (asked_in rows) =
      sym (history_answers history) ∙ ap (λ (t : List (Event × Reply)). map answer_to t) pairs in
      ap (replies_to user) (sym told)
      ∙ legal_replies timed history one.recorded.legal (subst (λ es. NoClash (hashed setup nothing es)) (sym events) clean)
      ∙ ap (λ es. replies setup user (struck timed setup user es)) events

  -- the texts that are hashed where only those are run have one folded digest each, where those of all have
  one_text_struck : (timed : Bool) → HaveOneText setup timed user rows → NoClash (hashed setup nothing (struck timed setup user (events_in rows)))
  one_text_struck true one = one.1 refl
  one_text_struck false one =
      let events : List Event = events_in rows in
      let all : List (List ℕ) = hashed setup nothing events in
      let some : List (List ℕ) = hashed setup nothing (strike setup user events) in
      let within = hashes_no_more setup events user in
      λ x y h k. one.0 x y (All-contains (Contains all) some x within h) (All-contains (Contains all) some y within k)

  -- so his lines are the same
  same_text : (timed : Bool) (given : List (User × GivenReply)) → AreOfOneStore setup rows → Rerun setup user timed (events_in rows) given
      → HaveOneText setup timed user rows → HadMemoryFor rows → HadMemory given
      → lines_under user (numbers_of user 1 rows) (replies_to user (map answer_of given)) ≡ text_for user 1 rows
  same_text timed given one second clean memory memory' =
      ap (λ rs. lines_under user (numbers_of user 1 rows) rs)
      (ap (replies_to user) (second.private (one_text_struck timed clean) memory') ∙ sym (first_replies timed one clean.0 memory))
      ∙ sym (text-lines user 1 rows)

-- ---- the second run

pub run_again : (setup : Setup) (user : List ℕ) (timed : Bool) (events : List Event) (kept : List AskedEvent) (r : Result (Vec (User × GivenReply)) Refusal)
    → map event_of kept ≡ struck timed setup user events → IfOk r (λ given. IsRun setup kept given.items)
    → (NoClash (hashed setup nothing (map event_of kept))
    → IfOk r (λ given. HadMemory given.items → ArePrivate setup (map event_of kept) (map answer_of given.items)))
    → IfOk r (λ given. Rerun setup user timed events given.items)
run_again setup user timed events kept (Ok given) is steps private = record {
  kept = kept;
  struck_out = is;
  run = steps;
  private = λ clean memory.
      subst (λ es. map answer_of given.items ≡ answers setup nothing es) is (private (subst (λ es. NoClash (hashed setup nothing es)) (sym is) clean) memory).same;
}
run_again setup user timed events kept (Err why) is steps private = tt

-- ---- both runs

pub both_runs : (charge : ℕ) (user : List ℕ) (timed : Bool) (lines : List (List ℕ)) (run : FirstRun) (given : List (User × GivenReply))
    → (first : IsFirstRun charge user lines run)
    → Rerun (record { users = run.users.items; charge = charge }) run.user timed (map event_of run.events.items) given
    → (struck : IsStruck charge user timed lines (lines_under run.user run.numbers.his.items (replies_to run.user (map answer_of given))))
    × (struck.rows ≡ first.rows)
both_runs charge user timed lines run given first second =
    let setup : Setup = record { users = run.users.items; charge = charge } in
    let again : Rerun setup user timed (events_in first.rows) given =
    subst (λ u. Rerun setup u timed (events_in first.rows) given) first.user_is
    (subst (λ es. Rerun setup run.user timed es given) first.events_are second) in
    let text_is =
    ap (λ u. lines_under u run.numbers.his.items (replies_to u (map answer_of given))) first.user_is
    ∙ ap (λ ns. lines_under user ns (replies_to user (map answer_of given))) first.numbers_are.his in (
      record {
        users = run.users.items;
        rows = first.rows;
        first = first.first;
        given = given;
        second = again;
        text_is = text_is;
        same = λ clean memory memory'. text_is ∙ same_text setup user first.rows timed given first.first.answered again clean memory memory';
      },
      refl,
    )
