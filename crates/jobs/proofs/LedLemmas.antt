-- A goal that leads no job is refused for the same reason, whatever is asked of it.
use Rattle.std.proofs.Common.{◌≡◌, Bool, true, false, inr, refl, sym, ◌∙◌, Option, Some, None, Result, Ok, Err}
use Rattle.std.specs.Prelude.{if◌then◌else◌}
use Rattle.model.specs.declared.refusal.Refusal.{Refusal}
use Rattle.model.specs.declared.refusal.Refusal.TheVariants.{WrongState}
use Rattle.model.specs.Worlds.{Job, Goal}
use Rattle.model.specs.Goals.{is_in, Running}
use Rattle.model.specs.RunningJobs.{with_kept, led_job}
use Rattle.jobs.specs.Leading.{leading}
use Rattle.jobs.specs.Asking.{IsAnswerTo}

not_in : (b : Bool) (kept : Result Running Refusal) (why : Refusal) (check : Result (Unit {0}) Refusal) → check ≡ (if b then Ok tt else Err WrongState)
    → check ≡ Err why → (if b then kept else Err WrongState) ≡ Err why
not_in true kept why check is e = absurd (cc)
not_in false kept why check is e = cc

not_led : (job : Job) (o : Option Goal) (why : Refusal) → leading job o ≡ Err why → led_job job o ≡ Err why
not_led job None why e = cc
not_led job (Some g) why e = not_in (is_in job g.status) (with_kept job g.resolved) why (leading job (Some g)) refl e

pub is_refused : (job : Job) (o : Option Goal) (why : Refusal) → leading job o ≡ Err why → IsAnswerTo (led_job job o) (Err why)
is_refused job o why e = record { value = inr (not_led job o why e); at_once = λ other f. sym (not_led job o why e) ∙ f }
