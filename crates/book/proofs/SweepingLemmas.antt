-- What a book keeps where its core is swept.
use Rattle.std.proofs.Common.{◌≡◌, ℕ, Bool, List, ◌∙◌}
use Rattle.model.specs.Worlds.{Setup}
use Rattle.schedule.specs.declared.state.Core.{Core}
use Rattle.schedule.specs.Standing.{world_of, setup_of, HasHashed}
use Rattle.history.specs.declared.row.Row.{Row}
use Rattle.book.specs.Keeping.{Kept}

pub kept_swept : (setup : Setup) (old new : Core) (stopped : Bool) (rows : List Row) → Kept setup old stopped rows → setup_of new ≡ setup_of old
    → world_of new ≡ world_of old
    → ((texts : List (List ℕ)) → HasHashed texts old → HasHashed texts new) → Kept setup new stopped rows
kept_swept setup old new stopped rows kept same_setup same_world hashed = record {
  given = same_setup ∙ kept.given;
  answered = kept.answered;
  told = kept.told;
  well_formed = kept.well_formed;
  reached = λ going texts clean inside. record {
    world = same_world ∙ (kept.reached going texts clean inside).world;
    hashes = hashed texts (kept.reached going texts clean inside).hashes;
  };
}
