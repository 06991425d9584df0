-- What the options of a command line ask for.
use Rattle.std.specs.Prelude.{⊤, ◌≡◌, ◌⊎◌, ℕ, Bool, List, Option, None, Result, Ok, Err, OnOk, IfErr}
use Rattle.std.specs.String.{string_bytes}
use Rattle.model.specs.declared.refusal.Refusal.{Refusal}
use Rattle.model.specs.declared.refusal.Refusal.TheVariants.{InputFault}
use Rattle.session.specs.Serving.{HasFailed, MayBeFault, IsOwn}
use Rattle.replaying.specs.BadLines.{end_of}
use Rattle.replaying.specs.Striking.{StrikeEndsBy}
use Rattle.messages.specs.Ends.{status_of_end}
use Rattle.replaying.specs.declared.bad_lines.BadLines.{BadLines}
use Rattle.command_line.specs.declared.settings.Action.{Action}
use Rattle.command_line.specs.declared.settings.Action.TheVariants.{Replay, Strike}

-- all lines of one file are to be run
abbrev pub IsReplay : Action → Type 0
IsReplay (Replay sweep explain file) = ⊤
IsReplay action = ⊥

-- where the events that can reach a user are to be run, timed or not, this is so of his name and of that
abbrev pub WhereStrikes : Action → (List ℕ → Bool → Type 0) → Type 0
WhereStrikes (Strike user timed file) P = P (string_bytes user) timed
WhereStrikes action P = ⊤

-- an end, of which no lines are told
abbrev pub nothing_told : Result (Unit {0}) Refusal → Result (Option BadLines) Refusal
nothing_told (Ok u) = Ok None
nothing_told (Err why) = Err why

-- ---- how a run of one file ends

-- it ended so, by how often its reader had failed before and has failed now: well only where the count shows no failure, and with 71 only
-- where it shows one; and a refusal is one that the options' action has
pub record EndsAs (action : Action) (reads reads_now : ℕ) (told : Result (Option BadLines) Refusal) : Type 0 where
  pub whole : OnOk told (¬ HasFailed reads reads_now)
  pub input_fault : IfErr told (MayBeFault InputFault reads reads_now)
  pub replayed : IsReplay action → IfErr told (λ why. (why ≡ InputFault) ⊎ IsOwn why)
  pub struck : WhereStrikes action (λ user timed. IfErr told (StrikeEndsBy user None))

-- the exit status of it: the file could not be opened, or it was run and ended so
abbrev pub IsStatusOf : Action → ℕ → Type 0
IsStatusOf action status =
    (status ≡ status_of_end (Err InputFault))
    ⊎ ((reads : ℕ) × (told : Result (Option BadLines) Refusal) × EndsAs action 0 reads told × (status ≡ status_of_end (end_of told)))
