-- What is promised of the lines that a reader gives, by how their run ends, where all that it gives is known.
use Rattle.std.specs.Prelude.{◌≡◌, ℕ, Bool, List, Option, Some, Result, OnOk, IfOk, IfErr}
use Rattle.model.specs.Lines.{lines_of}
use Rattle.model.specs.declared.refusal.Refusal.{Refusal}
use Rattle.model.specs.declared.refusal.Refusal.TheVariants.{InputFault}
use Rattle.replaying.specs.declared.bad_lines.BadLines.{BadLines}
use Rattle.replaying.specs.Replaying.{Replayed, ReplayedInPart}
use Rattle.replaying.specs.Striking.{Struck, StruckEarly}
use Rattle.replaying.specs.WholeLines.{ReplayedSoFar}

-- where it ends well, all lines were answered
abbrev pub RepliesToAll : {X : Type 0} → (charge : ℕ) → Result X Refusal → (given blank written : Option (List ℕ)) → Type 0
RepliesToAll charge result given blank written =
    OnOk result ((all : List ℕ) → given ≡ Some all → Replayed charge blank written (lines_of all))

-- else their beginning was
abbrev pub RepliesInPart : {X : Type 0} → (charge : ℕ) → Result X Refusal → (given blank written : Option (List ℕ)) → Type 0
RepliesInPart charge result given blank written =
    IfErr result (λ why. (all : List ℕ) → given ≡ Some all → ReplayedInPart charge blank written (lines_of all) why)

-- where the reader failed, those were that were read whole
abbrev pub RepliesSoFar : {X : Type 0} → (charge : ℕ) → Result X Refusal → (given left blank written : Option (List ℕ)) → Type 0
RepliesSoFar charge result given left blank written =
    IfErr result (λ why. why ≡ InputFault → (all : List ℕ) → given ≡ Some all → ReplayedSoFar charge blank written all left)

-- where it ends well, what the user is replied in the struck run was written
abbrev pub WritesForUser : (charge : ℕ) → (user : List ℕ) → (timed : Bool) → Result (Option BadLines) Refusal
    → (given blank written : Option (List ℕ)) → Type 0
WritesForUser charge user timed result given blank written =
    IfOk result (λ bad. (all : List ℕ) → given ≡ Some all → Struck charge user timed blank written (lines_of all) bad)

-- else a beginning of it at most
abbrev pub WritesForUserInPart : {X : Type 0} → (charge : ℕ) → (user : List ℕ) → (timed : Bool) → Result X Refusal
    → (given blank written : Option (List ℕ)) → Type 0
WritesForUserInPart charge user timed result given blank written =
    IfErr result (λ why. (all : List ℕ) → given ≡ Some all → StruckEarly charge user timed blank written (lines_of all) why)
