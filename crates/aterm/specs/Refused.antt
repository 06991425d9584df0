-- When each refusal comes.
use Rattle.std.specs.Prelude.{◌≡◌, ℕ, List, All, None}
use Rattle.model.specs.Paths.{IsPath}
use Rattle.model.specs.Derivations.{Derivation, HasNoDerivation}
use Rattle.model.specs.DerivationTexts.{derivation_of_text}
use Rattle.model.specs.declared.refusal.Refusal.{Refusal}
use Rattle.model.specs.declared.refusal.Refusal.TheVariants as refusal
use Rattle.model.specs.declared.read_error.ReadError.{ReadError}
use Rattle.model.specs.declared.read_error.ReadError.TheVariants.{Memory, Malformed}

-- why texts are not read as paths
abbrev pub AreNoPaths : List (List ℕ) → ReadError → Type 0
AreNoPaths texts Memory = Unit {0}
AreNoPaths texts Malformed = All IsPath texts → ⊥

-- why the paths of a derivation are not read
abbrev pub HasNoPaths : Derivation → ReadError → Type 0
HasNoPaths d Memory = Unit {0}
HasNoPaths d Malformed = All IsPath d.inputs × All IsPath d.sources → ⊥

-- why a text is not read as the parts of a derivation
abbrev pub IsUnread : List ℕ → ReadError → Type 0
IsUnread text Memory = Unit {0}
IsUnread text Malformed = HasNoDerivation text

-- why a text is not read as a derivation
abbrev pub IsRefused : List ℕ → Refusal → Type 0
IsRefused text refusal.BadDerivation = HasNoDerivation text
IsRefused text refusal.Memory = Unit {0}
IsRefused text _ = ⊥

-- the same, by what the text gives
abbrev pub IsNotRead : List ℕ → Refusal → Type 0
IsNotRead text refusal.BadDerivation = derivation_of_text text ≡ None
IsNotRead text refusal.Memory = Unit {0}
IsNotRead text _ = ⊥
