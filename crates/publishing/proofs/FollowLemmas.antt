-- A core follows the rows of a history.
use Rattle.std.proofs.Common.{◌≡◌, ℕ, Bool, true, false, List, [], ◌∷◌, ◌++◌, refl, sym, ap, ◌∙◌, subst, inl, inr, Option, None, Some, Result, Ok, Err}
use Rattle.std.specs.Prelude.{All, Contains, IfOk, IfErr, if◌then◌else◌}
use Rattle.model.specs.declared.refusal.Refusal.{Refusal}
use Rattle.model.specs.declared.refusal.Refusal.TheVariants.{UnknownUser, UnknownGoal}
use Rattle.std.proofs.lemmas.List.Elements.{All-push, All-contains_itself}
use Rattle.model.specs.Paths.{NoClash}
use Rattle.model.specs.Worlds.{Setup, is_user, World, Goal, nothing}
use Rattle.model.specs.Results.{then_do, ok_or}
use Rattle.model.specs.Goals.{goal_at}
use Rattle.model.specs.Outlooks as model
use Rattle.model.specs.Events as events
use Rattle.model.specs.Replies as replies
use Rattle.model.specs.Outcomes.{Observation, observation_of}
use Rattle.model.specs.Steps.{world_after, after, reply_to}
use Rattle.model.specs.Replies.{is_memory}
use Rattle.model.specs.HashedTexts.{hashed, texts_of_event}
use Rattle.model.specs.GivenClosures.{GivesGoodClosure, KeepsGoodClosure, GiveGoodClosures}
use Rattle.model.specs.WellFormed.{IsWellFormed}
use Rattle.closure_laws.specs.GoodClosures.{ClosuresAreGood}
use Rattle.events.specs.declared.event.Event.{Event}
use Rattle.events.specs.declared.reply.Reply.{Reply}
use Rattle.events.specs.Terms.{event_of, reply_of}
use Rattle.schedule.specs.declared.state.Core.{Core}
use Rattle.schedule.specs.Standing.{world_of, setup_of, HasHashed}
use Rattle.schedule.specs.Stepping.{IsCoreStep}
use Rattle.schedule.proofs.RunLemmas.{all_back}
use Rattle.history.specs.declared.row.Row.{Row}
use Rattle.history.specs.Histories.{events_of}
use Rattle.history.proofs.HistoryLemmas.{all_front, hashed_push, some_memory}
use Rattle.schedule.specs.declared.work.Ready.{Ready}
use Rattle.schedule.specs.declared.preparing.PrepareInput.{PrepareInput}
use Rattle.schedule.specs.Preparing.{HasAdmissionFor, HasOutcome, HasRepairedAll, IsPrepared, IsMade}
use Rattle.schedule.specs.declared.read_result.ReadResult.{ReadResult}
use Rattle.schedule.specs.ReadResults.{IsServedFrom}
use Rattle.jobs.specs.declared.outlook.Outlook.{Outlook}
use Rattle.jobs.specs.Outlooks.{TellsOutlook}
use Rattle.publishing.specs.Following.{HasReached, Follows, IsModelRead, FindsRead, IsPreparedAfter, IsNeedAfter, IsNoOutlook, IsOutlookAfter}

-- the step, where no two texts clash
record Goes (setup : Setup) (rows : List Row) (e : events.Event) (given : replies.Reply) (new : Core) (texts : List (List ℕ)) : Type 0 where
  reply : given ≡ reply_to setup (world_after setup nothing (events_of rows)) e
  world : world_of new ≡ after setup (world_after setup nothing (events_of rows)) e
  hashes : HasHashed texts new

goes : (old new : Core) (rows : List Row) (e : events.Event) (reply : replies.Reply) → Follows (setup_of old) old rows → is_memory reply ≡ false
    → IsCoreStep old e reply new
    → (texts : List (List ℕ)) → NoClash texts → All (Contains texts) (hashed (setup_of old) nothing (events_of rows ++ e ∷ []))
    → Goes (setup_of old) rows e reply new texts
goes old new rows e reply f some steps texts clean inside =
    let setup : Setup = setup_of old in
    let es : List events.Event = events_of rows in
    let own : List (List ℕ) = texts_of_event setup (world_after setup nothing es) e in
    let all : All (Contains texts) (hashed setup nothing es ++ own) = subst (All (Contains texts)) (hashed_push setup nothing es e) inside in
    let before : HasReached setup old texts rows = f.reached texts clean (all_front (Contains texts) (hashed setup nothing es) own all) in
    let here : All (Contains texts) (texts_of_event setup (world_of old) e) = rw before.world (all_back (Contains texts) (hashed setup nothing es) own all) in
    let stepped = steps.step some (steps.no_clash texts clean before.hashes here) in
    record {
      reply = stepped.told ∙ ap (λ (w : World). reply_to setup w e) before.world;
      world = stepped.world ∙ ap (λ (w : World). after setup w e) before.world;
      hashes = steps.hashed texts before.hashes here;
    }

-- the closure that the last of some events is given, or that it keeps, is good
pub good_last : (setup : Setup) (w : World) (es : List events.Event) (e : events.Event) → GiveGoodClosures setup w (es ++ e ∷ [])
    → GivesGoodClosure setup (world_after setup w es) e × KeepsGoodClosure setup (world_after setup w es) e
unfolding world_after GiveGoodClosures
good_last setup w [] e good = (good.0, good.1)
good_last setup w (x ∷ es) e good = good_last setup (after setup w x) es e good.2

-- what it answers to what is only read
reads : ClosuresAreGood → (core : Core) (rows : List Row) (e : Event) (reply : Reply) → Follows (setup_of core) core rows
    → IsCoreStep core (event_of e) (reply_of reply) core
    → IsModelRead (setup_of core) rows e reply
reads law core rows e reply f steps = record {
  well_formed = steps.well_formed;
  told = λ some.
      let texts : List (List ℕ) = hashed (setup_of core) nothing (events_of rows ++ event_of e ∷ []) in
      let now : NoClash texts → Goes (setup_of core) rows (event_of e) (reply_of reply) core texts =
      λ clean. goes core core rows (event_of e) (reply_of reply) f (some_memory reply some) steps texts clean (All-contains_itself texts) in
      record {
        same = λ clean. (now clean).reply;
        good = λ clean.
            good_last (setup_of core) nothing (events_of rows) (event_of e)
            (law (setup_of core) (events_of rows ++ event_of e ∷ [])
            (All-push (λ (x : events.Event). IsWellFormed x.request) (events_of rows) (event_of e) f.well_formed steps.well_formed) clean);
      };
  going = λ stopped. steps.going refl (ap reply_of stopped);
}

-- so does what is served of what it finds
pub finds : ClosuresAreGood → (core : Core) (rows : List Row) (e : Event) (found : ReadResult) → Follows (setup_of core) core rows
    → ((reply : Reply) → IsServedFrom found reply → IsCoreStep core (event_of e) (reply_of reply) core) → FindsRead (setup_of core) rows e found
finds law core rows e found f steps = λ reply from. reads law core rows e reply f (steps reply from)

-- the values that it makes are those that are needed after the rows
prepares : (core : Core) (rows : List Row) (e : events.Event) (ready : Ready) → Follows (setup_of core) core rows → IsPrepared core e ready
    → IsPreparedAfter (setup_of core) rows e ready
prepares core rows e ready f prepared = record {
  path = prepared.path;
  admission = λ clean known.
      let texts : List (List ℕ) = hashed (setup_of core) nothing (events_of rows) in
      subst (λ (w : World). HasAdmissionFor (w e.actor) e.request ready.work.admissions) (f.reached texts clean (All-contains_itself texts)).world
      (prepared.admission known);
  outcome = λ clean known.
      let texts : List (List ℕ) = hashed (setup_of core) nothing (events_of rows) in
      subst (λ (w : World). HasOutcome (w e.actor) e.actor e.request ready.work.settlements) (f.reached texts clean (All-contains_itself texts)).world
      (prepared.outcome known);
  repaired = λ clean known.
      let texts : List (List ℕ) = hashed (setup_of core) nothing (events_of rows) in
      subst (λ (w : World). HasRepairedAll (observation_of (setup_of core) w e.actor) e.request ready.work.cache)
      (f.reached texts clean (All-contains_itself texts)).world (prepared.repaired known);
}

pub needs : (core : Core) (rows : List Row) (e : events.Event) (result : Result PrepareInput Refusal) → Follows (setup_of core) core rows
    → IfOk result (λ need. (ready : Ready) → IsMade need e.request ready → IsPrepared core e ready) → IfOk result (IsNeedAfter (setup_of core) rows e)
needs core rows e (Ok need) f made = λ ready is. prepares core rows e ready f (made ready is)
needs core rows e (Err why) f made = tt

-- ---- how goals may go on

no_goal : (s : Observation) (found : Option Goal) (why : Refusal) → then_do (ok_or UnknownGoal found) (λ g. Ok (model.outlook_of s g)) ≡ Err why → why ≡ UnknownGoal
no_goal s None why e = cc
no_goal s (Some g) why e = cc

no_user : (s : Observation) (n : ℕ) (b : Bool) (why : Refusal) → (if b then model.outlook s n else Err UnknownUser) ≡ Err why → IsNoOutlook why
no_user s n true why e = inr (inl (no_goal s (goal_at n s.desk.goals) why e))
no_user s n false why e = inl (let same : UnknownUser ≡ why = cc in sym same)

refused_for : (setup : Setup) (w : World) (u : List ℕ) (n : ℕ) (told : Result Outlook Refusal) → TellsOutlook setup.users (model.outlook_for setup w u n) told
    → IfErr told IsNoOutlook
refused_for setup w u n (Ok o) is = tt
refused_for setup w u n (Err why) is = elim is.value [
  | inl memory ↦ inr (inr memory)
  | inr refused ↦ no_user (observation_of setup w u) n (is_user setup u) why refused
]

-- what it tells is so after the rows
pub outlook_told : (core : Core) (rows : List Row) (user : List ℕ) (number : ℕ) (told : Result Outlook Refusal) → Follows (setup_of core) core rows
    → TellsOutlook (setup_of core).users (model.outlook_for (setup_of core) (world_of core) user number) told
    → IsOutlookAfter (setup_of core) rows user number told
outlook_told core rows user number told f is = record {
  same = λ clean.
      let texts : List (List ℕ) = hashed (setup_of core) nothing (events_of rows) in
      subst (λ (w : World). TellsOutlook (setup_of core).users (model.outlook_for (setup_of core) w user number) told)
      (f.reached texts clean (All-contains_itself texts)).world is;
  errors = refused_for (setup_of core) (world_of core) user number told is;
}
