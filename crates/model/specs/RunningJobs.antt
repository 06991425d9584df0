-- What a builder is started for: the job that a goal leads, and what it is built from.
use Rattle.std.specs.Prelude.{ℕ, if◌then◌else◌, List, Option, Some, None, Result, Ok, Err}
use Rattle.model.specs.declared.refusal.Refusal.{Refusal}
use Rattle.model.specs.declared.refusal.Refusal.TheVariants.{UnknownUser, UnknownGoal, WrongState}
use Rattle.model.specs.Reach.{is_among}
use Rattle.model.specs.Worlds.{Setup, World, Resolved, Job, Goal}
use Rattle.model.specs.Goals.{goal_at, is_in, Running}

-- a job with what the goal that leads it keeps; no goal leads one that keeps nothing
abbrev pub with_kept : Job → Option Resolved → Result Running Refusal
with_kept job None = Err WrongState
with_kept job (Some r) = Ok (record { job = job; resolved = r })

-- the job that a goal leads, or why it leads none
abbrev pub led_job : Job → Option Goal → Result Running Refusal
led_job job None = Err UnknownGoal
led_job job (Some g) = if is_in job g.status then with_kept job g.resolved else Err WrongState

-- the job that a user's goal of that number leads, or why it leads none
abbrev pub job_led_by : Setup → World → List ℕ → ℕ → Result Running Refusal
job_led_by setup w u n =
    if is_among u setup.users then led_job (record { leader = u; number = n }) (goal_at n (w u).goals) else Err UnknownUser
