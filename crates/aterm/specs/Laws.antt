-- Laws of derivations and their texts.
use Rattle.std.specs.Prelude.{◌≡◌, ◌↔◌, ℕ, List, true, Some}
use Rattle.model.specs.Derivations.{Derivation, IsDerivation, is_derivation, derivation_text}
use Rattle.model.specs.DerivationTexts.{derivation_of_text}

-- a derivation passes the test exactly where it is one of the store
abbrev pub DerivationsPass : Type 0
DerivationsPass = (d : Derivation) → (is_derivation d ≡ true) ↔ IsDerivation d

-- a derivation that passes the test is read from its text, and from no other text; and no other is read
abbrev pub ReadingIsExact : Type 0
ReadingIsExact =
    ((d : Derivation) → is_derivation d ≡ true → derivation_of_text (derivation_text d) ≡ Some d)
    × ((text : List ℕ) (d : Derivation) → derivation_of_text text ≡ Some d → (is_derivation d ≡ true) × (derivation_text d ≡ text))
