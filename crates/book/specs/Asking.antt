-- What a pass is told of the job that a goal leads.
use Rattle.std.specs.Prelude.{◌≡◌, ◌≢◌, ℕ, true, List, Result, Ok, Err}
use mathlib.Core.List.{IsPrefix}
use Rattle.model.specs.declared.refusal.Refusal.{Refusal}
use Rattle.model.specs.declared.refusal.Refusal.TheVariants.{Stopped}
use Rattle.model.specs.Paths.{NoClash}
use Rattle.model.specs.Worlds.{Setup, nothing}
use Rattle.model.specs.Goals.{Running}
use Rattle.model.specs.RunningJobs.{job_led_by}
use Rattle.model.specs.KeptClosures.{IsWellKept}
use Rattle.model.specs.Steps.{world_after}
use Rattle.model.specs.HashedTexts.{hashed}
use Rattle.jobs.specs.Asking.{IsAnswerTo}
use Rattle.history.specs.declared.row.Row.{Row}
use Rattle.history.specs.Callers.{PassKnowledge, told_stopped, seeing, with_caller}
use Rattle.history.specs.Histories.{events_of, IsLegal}

-- what is told is so after these rows, which are a legal history: where no two texts that their events hash have one folded digest, it is
-- the job that the goal leads in the world that they reach, or why it leads none, and what the goal keeps was found when it was planned,
-- and is good
pub record IsAskedAfter (setup : Setup) (rows : List Row) (user : List ℕ) (number : ℕ) (told : Result Running Refusal) : Type 0 where
  pub legal : IsLegal setup rows
  pub same : NoClash (hashed setup nothing (events_of rows)) → IsAnswerTo (job_led_by setup (world_after setup nothing (events_of rows)) user number) told
  pub kept : NoClash (hashed setup nothing (events_of rows)) → (job : Running) → told ≡ Ok job → IsWellKept setup (events_of rows) user number job.resolved

-- the front was asked through a pass for the job that a user's goal leads: what is told is so after the rows that the pass has seen then
pub record IsAskedBy (setup : Setup) (old : PassKnowledge) (user : List ℕ) (number : ℕ) (told : Result Running Refusal) (new : PassKnowledge) : Type 0 where
  pub asked : told ≢ Err Stopped → IsAskedAfter setup new.seen user number told
  pub seen : IsPrefix old.seen new.seen
  pub going : told ≢ Err Stopped → new ≡ seeing old new.seen
  pub stopped : told ≡ Err Stopped → new ≡ seeing (with_caller old (told_stopped old.caller)) new.seen
  pub remains : old.caller.stopped ≡ true → told ≡ Err Stopped

-- the front was asked so through one of so many passes: the only pass is told what is so after the rows that it is sure of
pub record HasAsked (setup : Setup) (parts : ℕ) (old : PassKnowledge) (user : List ℕ) (number : ℕ) (told : Result Running Refusal) (new : PassKnowledge) : Type 0 where
  pub by : IsAskedBy setup old user number told new
  pub alone : told ≢ Err Stopped → parts ≡ 1 → IsAskedAfter setup old.caller.sure user number told
  pub stopped_alone : parts ≡ 1 → told ≡ Err Stopped → old.stops ≡ 1
