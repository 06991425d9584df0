-- A core that has taken the events of rows.
use Rattle.std.specs.Prelude.{◌≡◌, ◌≢◌, ◌⊎◌, ℕ, true, false, List, All, Contains, Result, IfErr}
use Rattle.model.specs.declared.refusal.Refusal.{Refusal}
use Rattle.model.specs.declared.refusal.Refusal.TheVariants.{UnknownUser, UnknownGoal, Memory, Stopped}
use Rattle.model.specs.Events as events
use Rattle.model.specs.Paths.{NoClash}
use Rattle.model.specs.Reach.{is_among}
use Rattle.model.specs.Worlds.{Setup, nothing}
use Rattle.model.specs.Outcomes.{observation_of}
use Rattle.model.specs.Steps.{world_after}
use Rattle.model.specs.HashedTexts.{hashed}
use Rattle.model.specs.Outlooks.{outlook_for}
use Rattle.jobs.specs.declared.outlook.Outlook.{Outlook}
use Rattle.jobs.specs.Outlooks.{TellsOutlook}
use Rattle.model.specs.WellFormed.{IsWellFormed, AreWellFormed}
use Rattle.schedule.specs.declared.state.Core.{Core}
use Rattle.schedule.specs.Standing.{world_of, HasHashed}
use Rattle.schedule.specs.declared.work.Ready.{Ready}
use Rattle.schedule.specs.declared.preparing.PrepareInput.{PrepareInput}
use Rattle.schedule.specs.Preparing.{HasPath, HasAdmissionFor, HasOutcome, HasRepairedAll, IsMade}
use Rattle.schedule.specs.declared.read_result.ReadResult.{ReadResult}
use Rattle.schedule.specs.ReadResults.{IsServedFrom}
use Rattle.events.specs.declared.event.Event.{Event}
use Rattle.events.specs.declared.reply.Reply.{Reply}
use Rattle.events.specs.declared.reply.Reply.TheVariants.{Refused}
use Rattle.events.specs.Terms.{event_of, reply_of}
use Rattle.history.specs.declared.row.Row.{Row}
use Rattle.history.specs.Histories.{events_of, unrecorded, IsToldAfter}

-- the core is that of the world which the events reach, and its trees were made by texts that were hashed
pub record HasReached (setup : Setup) (core : Core) (texts : List (List ℕ)) (rows : List Row) : Type 0 where
  pub world : world_of core ≡ world_after setup nothing (events_of rows)
  pub hashes : HasHashed texts core

-- so it is wherever texts have no clash and all that the events hash is among them; and the events are well formed
pub record Follows (setup : Setup) (core : Core) (rows : List Row) : Type 0 where
  pub well_formed : AreWellFormed (events_of rows)
  pub reached : (texts : List (List ℕ)) → NoClash texts → All (Contains texts) (hashed setup nothing (events_of rows)) → HasReached setup core texts rows

-- a reply to a well-formed event that is read after these rows: it is the model's, or that memory was refused
pub record IsModelRead (setup : Setup) (rows : List Row) (event : Event) (reply : Reply) : Type 0 where
  pub well_formed : IsWellFormed (event_of event).request
  pub told : unrecorded reply ≡ false → IsToldAfter setup rows (event_of event) (reply_of reply)
  pub going : reply ≢ Refused Stopped

-- whatever reply is served of what was found for a read is one to an event that is read after these rows
abbrev pub FindsRead : Setup → List Row → Event → ReadResult → Type 0
FindsRead setup rows event found = (reply : Reply) → IsServedFrom found reply → IsModelRead setup rows event reply

-- the values that an event needs after these rows are there: the path of a source; and, where no two texts that the rows' events hash have
-- one folded digest, a derivation that is admitted, what comes of an offer, and of the output of a job for the goal that leads it, and the records
-- that are repaired for a closure that is taken, or that a goal is built from
pub record IsPreparedAfter (setup : Setup) (rows : List Row) (e : events.Event) (ready : Ready) : Type 0 where
  pub path : HasPath e.request ready.work.sources
  pub admission : NoClash (hashed setup nothing (events_of rows)) → is_among e.actor setup.users ≡ true
      → HasAdmissionFor (world_after setup nothing (events_of rows) e.actor) e.request ready.work.admissions
  pub outcome : NoClash (hashed setup nothing (events_of rows)) → is_among e.actor setup.users ≡ true
      → HasOutcome (world_after setup nothing (events_of rows) e.actor) e.actor e.request ready.work.settlements
  pub repaired : NoClash (hashed setup nothing (events_of rows)) → is_among e.actor setup.users ≡ true
      → HasRepairedAll (observation_of setup (world_after setup nothing (events_of rows)) e.actor) e.request ready.work.cache

-- whatever is made of what an event is prepared from are the values that an event needs after these rows
abbrev pub IsNeedAfter : Setup → List Row → events.Event → PrepareInput → Type 0
IsNeedAfter setup rows e need = (ready : Ready) → IsMade need e.request ready → IsPreparedAfter setup rows e ready

-- why it is not told how a goal may go on: its user is not of the run, he has no such goal, or memory was refused
abbrev pub IsNoOutlook : Refusal → Type 0
IsNoOutlook why = (why ≡ UnknownUser) ⊎ ((why ≡ UnknownGoal) ⊎ (why ≡ Memory))

-- it is told how a user's goal of a number may go on after these rows: where no two texts that their events hash have one folded digest, as he
-- sees it in the world that they reach
pub record IsOutlookAfter (setup : Setup) (rows : List Row) (user : List ℕ) (number : ℕ) (told : Result Outlook Refusal) : Type 0 where
  pub same : NoClash (hashed setup nothing (events_of rows))
      → TellsOutlook setup.users (outlook_for setup (world_after setup nothing (events_of rows)) user number) told
  pub errors : IfErr told IsNoOutlook
