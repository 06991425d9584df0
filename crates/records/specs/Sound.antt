-- Records and plans whose parts are sound.
use Rattle.std.specs.Prelude.{◌≡◌, All, Contains}
use Rattle.model.specs.Archives.{IsTree}
use Rattle.model.specs.Paths.{IsPath}
use Rattle.model.specs.Worlds.{Label, Record}
use Rattle.model.specs.Choices.{Plan}

-- a record with a tree and with paths, which labels each path once
pub record IsSoundRecord (r : Record) : Type 0 where
  pub tree : IsTree r.tree
  pub path : IsPath r.path
  pub labels : All (λ l. IsPath l.path) r.labels
  pub once : (k l : Label) → Contains r.labels k → Contains r.labels l → k.path ≡ l.path → k ≡ l

abbrev pub IsSoundPlan : Plan → Type 0
IsSoundPlan p = All IsSoundRecord p.records
