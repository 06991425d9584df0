-- The order in which a plan has its records and sources.
use Rattle.std.specs.Prelude.{◌≡◌, ◌⊎◌, Bool, true, List, [], ◌∷◌}
use Rattle.model.specs.Worlds.{Source, Record}
use Rattle.model.specs.Choices.{rank_before, source_before, Plan}
use Rattle.laws.proofs.MemberLemmas.{In}
use Rattle.laws.proofs.SetLemmas.{Ascends}

-- two members are parted by an order
abbrev pub IsApart : {X : Type 0} → (X → X → Bool) → X → X → Type 0
IsApart before x y = (before x y ≡ true) ⊎ (before y x ≡ true)

-- all members are parted from one another
abbrev pub AreApart : {X : Type 0} → (X → X → Bool) → List X → Type 0
AreApart before [] = Unit {0}
AreApart {X = X} before (x ∷ xs) = ((y : X) → In y xs → IsApart before x y) × AreApart before xs

-- records and sources are in order, with one record for a class
pub record IsInOrder (p : Plan) : Type 0 where
  pub records : Ascends rank_before p.records
  pub once : (q r : Record) → In q p.records → In r p.records → q.class.path ≡ r.class.path → q ≡ r
  pub sources : Ascends source_before p.sources

abbrev pub AreInOrder : List Record → List Source → Type 0
AreInOrder records sources = IsInOrder (record { records = records; sources = sources })
