-- What is told of the job that a goal leads.
use Rattle.std.specs.Prelude.{◌≡◌, ◌⊎◌, MatchResult, Result, Ok, Err}
use Rattle.model.specs.declared.refusal.Refusal.{Refusal}
use Rattle.model.specs.declared.refusal.Refusal.TheVariants.{Memory}
use Rattle.model.specs.Goals.{Running}

-- the answer is told, or that memory was refused; a refusal is told whether there is memory or not
pub record IsAnswerTo (answer told : Result Running Refusal) : Type 0 where
  pub value : MatchResult told (λ job. answer ≡ Ok job) (λ why. (why ≡ Memory) ⊎ (answer ≡ Err why))
  pub at_once : (why : Refusal) → answer ≡ Err why → told ≡ Err why
