-- What is visible on the desks of a world, where a table has their trees.
use Rattle.std.proofs.Common.{◌≡◌, refl, List, [], ◌∷◌, ◌++◌}
use Rattle.std.specs.Prelude.{map}
use Rattle.model.specs.Worlds.{Source, Desk}
use Rattle.realise.specs.Holdings.{Holdings}
use Rattle.records.specs.Trees.{source_at, record_at}
use Rattle.choose.specs.Visible.{visible_on, seen}

-- the desks of users, and what the store holds for each of them
pub desks_seen : {U : Type 0} (table : List Source) (desk : U → Desk) (held : U → Holdings)
    → ((u : U) → (desk u).records ≡ map (record_at table) (held u).records) → ((u : U) → (desk u).sources ≡ map (source_at table) (held u).known.sources)
    → (users : List U) → visible_on (map desk users) ≡ seen table (map held users)
desks_seen table desk held records sources [] = refl
desks_seen table desk held records sources (u ∷ users) =
    let rest = desks_seen table desk held records sources users in
    λ i. record { records = records u i ++ (rest i).records; sources = sources u i ++ (rest i).sources }
