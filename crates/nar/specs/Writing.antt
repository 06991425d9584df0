-- What a writer that counts its failures has taken.
use Rattle.std.specs.Prelude.{◌≡◌, ◌⊎◌, ◌<◌, ◌≤◌, ◌-◌, ◌^◌, ℕ, List, take, length, Option, Result, Ok, Err}
use Rattle.std.specs.Io.KnownBytes.{Appends}
use Rattle.model.specs.declared.refusal.Refusal.{Refusal}
use Rattle.model.specs.declared.refusal.Refusal.TheVariants.{OutputFault, Memory}

-- a count of failures rose, or stands at its greatest number
abbrev pub HasFailed : ℕ → ℕ → Type 0
HasFailed old new = (old < new) ⊎ (new ≡ 2 ^ 64 - 1)

-- it is that fault, which comes of a failure
abbrev pub IsFault : (fault : Refusal) (old new : ℕ) → Refusal → Type 0
IsFault fault old new why = (why ≡ fault) × HasFailed old new

-- where it is that fault, it comes of a failure
abbrev pub MayBeFault : (fault : Refusal) (old new : ℕ) → Refusal → Type 0
MayBeFault fault old new why = why ≡ fault → HasFailed old new

-- so many bytes were written
abbrev pub HasWritten : (blank written : Option (List ℕ)) (bytes : List ℕ) → ℕ → Type 0
HasWritten blank written bytes n = (n ≤ length bytes) × Appends blank written (take n bytes)

-- a beginning of a text was written, and not all of it
abbrev pub Begins : (blank written : Option (List ℕ)) → List ℕ → Type 0
Begins blank written text = (n : ℕ) × (n < length text) × Appends blank written (take n text)

-- why a text may not have been written
abbrev pub IsUnwritten : Refusal → Type 0
IsUnwritten why = (why ≡ OutputFault) ⊎ (why ≡ Memory)

-- what became of a text: it is written, or else a beginning of it, and why
abbrev pub Wrote : (before : ℕ) (blank written : Option (List ℕ)) (failed : ℕ) → Result (Unit {0}) Refusal → List ℕ → Type 0
Wrote before blank written failed (Ok done) text = Appends blank written text
Wrote before blank written failed (Err why) text = Begins blank written text × IsUnwritten why × MayBeFault OutputFault before failed why
