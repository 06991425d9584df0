-- What comes of files whose lines are run, and what is printed of it.
use Rattle.std.specs.Prelude.{◌≡◌, ◌⊎◌, ◌<◌, ◌≤◌, true, false, ℕ, List, Option, None, Result, Err}
use Rattle.model.specs.declared.refusal.Refusal.{Refusal}
use Rattle.model.specs.declared.refusal.Refusal.TheVariants.{BadUsers, Quota, Memory}
use Rattle.model.specs.Goals.{Running}
use Rattle.model.specs.Worlds.{are_users}
use Rattle.builder.specs.declared.runner.RunFault.{RunFault}
use Rattle.teams.specs.declared.sessions.Part.{Part}
use Rattle.running.specs.declared.runs.Results.{Results}
use Rattle.running.specs.ServedSessions.{passes_needed}
use Rattle.running.specs.Runs.{AreResults}
use Rattle.teams.specs.Sessions.{CannotBegin}
use Rattle.session.specs.Serving.{IsUnwritten}
use Rattle.files.specs.declared.opening.Opened.{Opened}
use Rattle.files.specs.declared.opening.Refused.{Refused}
use Rattle.messages.specs.Ends.{status_of_end}
use Rattle.files.specs.Outputs.{AppendsFront, texts_of, first_end}
use Rattle.files.specs.Parts.{AreParts, AreNamed, IsRefusedAmong}
use Rattle.model.specs.Limits.{most_passes}

-- ---- what is run

module _ {I Q : Type 0} (charge : ℕ) (gives : Q → Running → Result (List ℕ) RunFault → Q → Type 0) (remaining : I → Option (List ℕ)) where
  -- these are the results of the sessions of one store, under that charge, whose users the first file names: each file has the session
  -- in its place, with its own bytes and its own runners; they need 64 passes at most
  pub record RunsFiles (files : List (Opened I Q)) (results : Results) : Type 0 where
    pub users : List (List ℕ)
    pub parts : List (Part I Q)
    pub parts_are : AreParts remaining files parts
    pub named : AreNamed remaining parts users
    pub users_are : are_users users ≡ true
    pub few : passes_needed parts ≤ most_passes
    pub results_are : AreResults (record { users = users; charge = charge }) gives remaining parts results

module _ {I Q : Type 0} (remaining : I → Option (List ℕ)) (failed : I → ℕ) where
  -- no session can begin with what is to be run for these files: memory was refused, their users are no list, or they need more than 64 passes
  pub record CannotRun (files : List (Opened I Q)) (why : Refusal) : Type 0 where
    pub users : List (List ℕ)
    pub parts : List (Part I Q)
    pub parts_are : AreParts remaining files parts
    pub named : AreNamed remaining parts users
    pub begin : CannotBegin why
    pub bad_users : why ≡ BadUsers → are_users users ≡ false
    pub quota : why ≡ Quota → most_passes < passes_needed parts
    pub full : most_passes < passes_needed parts → why ≡ Quota

  -- no line was run: memory was refused, a file is, or no session can begin
  abbrev pub HasNotRun : List (Opened I Q) → Refused → Type 0
  HasNotRun files refused = (refused.why ≡ Memory) ⊎ CannotRun files refused.why ⊎ IsRefusedAmong remaining failed files refused

-- ---- what is printed

-- the files were run, and a beginning of what they gave is written, since writing failed, or memory
pub record HasNotPrinted {I Q : Type 0} (charge : ℕ) (gives : Q → Running → Result (List ℕ) RunFault → Q → Type 0)
    (remaining : I → Option (List ℕ)) (files : List (Opened I Q)) (blank written : Option (List ℕ)) (why : Refusal) : Type 0 where
  pub results : Results
  pub ran : RunsFiles charge gives remaining files results
  pub front : AppendsFront blank written (texts_of results.outputs.items)
  pub fault : IsUnwritten why

-- ---- the exit status

module _ {I Q : Type 0} (charge : ℕ) (gives : Q → Running → Result (List ℕ) RunFault → Q → Type 0) (remaining : I → Option (List ℕ))
    (failed : I → ℕ) (files : List (Opened I Q)) (status : ℕ) where
  -- the files were run, and it is that of the first end that is none of all lines
  pub record HasRun : Type 0 where
    pub results : Results
    pub ran : RunsFiles charge gives remaining files results
    pub status_is : status ≡ status_of_end (first_end results.outputs.items)

  -- they were not, or not all that they gave was printed, and it is that of the refusal
  pub record HasNotEnded : Type 0 where
    pub refused : Refused
    pub by : HasNotRun remaining failed files refused ⊎ HasNotPrinted charge gives remaining files None None refused.why
    pub status_is : status ≡ status_of_end (Err refused.why)

  abbrev pub EndsRun : Type 0
  EndsRun = HasRun ⊎ HasNotEnded
