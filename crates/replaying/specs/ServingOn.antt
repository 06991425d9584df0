-- What a new store does with the lines behind the first ones of an input, which asked nobody.
use Rattle.std.specs.Prelude.{ℕ, List, [], ◌++◌, Option}
use Rattle.std.specs.Io.KnownBytes.{Consumes}
use Rattle.model.specs.declared.mode.Mode.TheVariants.{Service}
use Rattle.model.specs.declared.refusal.Refusal.{Refusal}
use Rattle.model.specs.Worlds.{Setup}
use Rattle.model.specs.Talk.{Seen}
use Rattle.session.specs.Serving.{Progress}
use Rattle.session.specs.Heads.{Idle}
use Rattle.replaying.specs.Replaying.{Served, ServedInPart}
use Rattle.replaying.specs.WholeLines.{ServedSoFar}

-- of an input these lines were answered first, by a session that keeps this and asked nobody, and this was read behind them
pub record IsAnswered (start mid blank between : Option (List ℕ)) (front : List ℕ) (seen : Seen) (rest : List ℕ) : Type 0 where
  pub read : Consumes start mid (front ++ rest)
  pub progress : Progress Service Idle tt tt blank between front seen []

-- then all of the input was answered by the store
abbrev pub ServesOn : Setup → Seen → (rest : List ℕ) → (mid end between written : Option (List ℕ)) → Type 0
ServesOn setup seen rest mid end between written = (start blank : Option (List ℕ)) (front : List ℕ)
    → IsAnswered start mid blank between front seen rest → Served setup start end blank written

-- or the first lines of it
abbrev pub ServesOnInPart : Setup → Seen → (rest : List ℕ) → (mid end between written : Option (List ℕ)) → Refusal → Type 0
ServesOnInPart setup seen rest mid end between written why = (start blank : Option (List ℕ)) (front : List ℕ)
    → IsAnswered start mid blank between front seen rest → ServedInPart setup start end blank written why

-- or its whole lines
abbrev pub ServesOnSoFar : Setup → Seen → (rest : List ℕ) → (mid end between written : Option (List ℕ)) → Type 0
ServesOnSoFar setup seen rest mid end between written = (start blank : Option (List ℕ)) (front : List ℕ)
    → IsAnswered start mid blank between front seen rest → ServedSoFar setup start end blank written
