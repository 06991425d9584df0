-- How goals may go on, as it is told.
use Rattle.std.specs.Prelude.{◌≡◌, ◌⊎◌, ℕ, List, MatchResult, Result, Ok, Err}
use Rattle.model.specs.declared.refusal.Refusal.{Refusal}
use Rattle.model.specs.declared.refusal.Refusal.TheVariants.{Memory}
use Rattle.model.specs.Outlooks as model
use Rattle.trust.specs.Trusting.{holds}
use Rattle.trust.specs.Naming.{names}
use Rattle.jobs.specs.declared.outlook.Next.{Next}
use Rattle.jobs.specs.declared.outlook.Next.TheVariants.{Over, Ready, Built, Lacks}
use Rattle.jobs.specs.declared.outlook.Outlook.{Outlook}

-- what contracts see of what comes next
abbrev pub next_of : Next → model.Next
next_of Over = model.Over
next_of Ready = model.Ready
next_of (Built job) = model.Built job
next_of (Lacks class) = model.Lacks class

-- what contracts see of how a goal may go on, where these are the users of the run
abbrev pub outlook_of : List (List ℕ) → Outlook → model.Outlook
outlook_of users o = record { class = o.class; next = next_of o.next; reach = names users (holds o.reached) }

-- the answer is told, or that memory was refused; a refusal is told whether there is memory or not
pub record TellsOutlook (users : List (List ℕ)) (answer : Result model.Outlook Refusal) (told : Result Outlook Refusal) : Type 0 where
  pub value : MatchResult told (λ o. answer ≡ Ok (outlook_of users o)) (λ why. (why ≡ Memory) ⊎ (answer ≡ Err why))
  pub at_once : (why : Refusal) → answer ≡ Err why → told ≡ Err why
