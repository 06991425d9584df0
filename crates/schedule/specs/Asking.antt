-- What a core knows of the job that a goal leads.
use Rattle.std.specs.Prelude.{ℕ, if◌then◌else◌, List, Result, Err}
use Rattle.model.specs.declared.refusal.Refusal.{Refusal}
use Rattle.model.specs.declared.refusal.Refusal.TheVariants.{Stopped}
use Rattle.model.specs.Goals.{Running}
use Rattle.model.specs.RunningJobs.{job_led_by}
use Rattle.schedule.specs.declared.state.Core.{Core}
use Rattle.schedule.specs.Standing.{world_of, setup_of, is_stopped}

-- the job that a user's goal leads in the world that the core stands for, or why it leads none; nothing is known of it where the core is stopped
abbrev pub job_asked_for : Core → List ℕ → ℕ → Result Running Refusal
job_asked_for core user number = if is_stopped core then Err Stopped else job_led_by (setup_of core) (world_of core) user number
