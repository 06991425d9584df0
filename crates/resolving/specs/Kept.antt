-- What was resolved last.
use Rattle.std.specs.Prelude.{◌≡◌, List, Option, Some, None}
use Rattle.model.specs.Derivations.{Derivation}
use Rattle.model.specs.Resolutions.{Served}
use Rattle.resolving.specs.declared.resolution.Resolution.{Resolution}

-- it is that of this derivation, whose inputs' classes these paths serve
abbrev pub IsAtHand : Option Resolution → Derivation → List Served → Type 0
IsAtHand None d served = ⊥
IsAtHand (Some one) d served = (one.served.items ≡ served) × (one.admitted.derivation ≡ d)
