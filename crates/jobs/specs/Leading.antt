-- Who ends a job, and whose goals in it receive its output.
use Rattle.std.specs.Prelude.{◌≡◌, ℕ, Bool, true, false, if◌then◌else◌, List, [], Option, Some, None, Result, Ok, Err}
use Rattle.model.specs.declared.refusal.Refusal.{Refusal}
use Rattle.model.specs.declared.refusal.Refusal.TheVariants.{UnknownGoal, WrongState}
use Rattle.model.specs.Worlds.{Job, Goal}
use Rattle.model.specs.Goals.{is_in, members}
use Rattle.trust.specs.Trusting.{IsReach}

-- that a goal leads a job, or why it does not
abbrev pub leading : Job → Option Goal → Result (Unit {0}) Refusal
leading job None = Err UnknownGoal
leading job (Some g) = if is_in job g.status then Ok tt else Err WrongState

-- these are the numbers of the goals in a job of the user at a place, if he reaches its leader, and else there are none
pub record AreReached (trust : ℕ → ℕ → Bool) (leader : ℕ) (job : Job) (goals : List Goal) (place : ℕ) (numbers : List ℕ) : Type 0 where
  pub reach : ℕ → Bool
  pub reaches : IsReach trust place reach
  pub is : reach leader ≡ true → numbers ≡ members job 1 goals
  pub none : reach leader ≡ false → numbers ≡ []
