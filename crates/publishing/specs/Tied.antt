-- The rule of what is published.
use Rattle.std.specs.Prelude.{◌≡◌, ℕ, List, [], fold, true, false}
use mathlib.Core.Option.{some}
use lib.ListN.{get_elem?}
use Rattle.publishing.specs.declared.law.FrontName.{FrontName}
use Rattle.publishing.specs.declared.law.Shown.{Shown}
use Rattle.publishing.specs.declared.law.KnownName.{KnownName}
use Rattle.history.specs.Histories.{IsLegal}
use Rattle.publishing.specs.declared.snapshot.Operation.{Operation}
use Rattle.publishing.specs.declared.snapshot.Operation.TheVariants.{Show, Wait}
use Rattle.publishing.specs.FrontNames.{setup_in}

abbrev pub no_name : FrontName
no_name = record { number = 0; log_name = 0; cells_name = 0; users = []; charge = 0 }

abbrev pub knower : FrontName → KnownName
knower n = record { knows = true; name = n }

abbrev pub stranger : KnownName
stranger = record { knows = false; name = no_name }

-- after what is published next
abbrev pub absorbed : Shown → Operation → Shown
absorbed t (Show next) = next
absorbed t Wait = t

-- what is pending changes nothing that is shown
abbrev pub IsQuiet : Shown → List Operation → Type 0
IsQuiet t pending = fold absorbed t pending ≡ t

-- the rows that were published are a legal history; who knows a name knows this one
abbrev pub Tied : Shown → List KnownName → Type 0
Tied x views = IsLegal (setup_in x.name) x.seen × ((seat : ℕ) (v : KnownName) → get_elem? views seat ≡ some v → v.knows ≡ true → v.name ≡ x.name)

-- so it is, the name is known, and is the one that was known
abbrev pub Sees : KnownName → Shown → Shown → KnownName → Type 0
Sees v x y w = IsLegal (setup_in y.name) y.seen × (w ≡ knower y.name) × (v.knows ≡ true → w ≡ v)

abbrev pub told : KnownName → KnownName → KnownName
told v w = w
