-- What an output of a derivation may refer to, in the terms of the model, whatever the trees of the records are.
use Rattle.std.specs.Prelude.{◌≡◌, List, map}
use Rattle.model.specs.Reach.{all_reached}
use Rattle.model.specs.Derivations.{Derivation}
use Rattle.model.specs.Classes.{Known}
use Rattle.model.specs.Worlds.{Label, Record, Desk, known_of}
use Rattle.model.specs.References.{is_input_class, refers_to, candidates}
use Rattle.records.specs.Recorded.{Recorded, without_tree}
use Rattle.outputs.specs.Reaching.{AreSame}

-- these are the records below the derivation; those of one class at one path come in their order
abbrev pub AreBelow : Known → Derivation → List Recorded → List Recorded → Type 0
AreBelow known x records found =
    (whole : List Record) → map without_tree whole ≡ records
    → AreSame found (map without_tree (all_reached (λ r. is_input_class known x r.class.path) refers_to whole))

-- the labels are the candidates, on each desk that knows this and has these records
abbrev pub AreCandidates : Known → Derivation → List Recorded → List Label → Type 0
AreCandidates known x records labels = (d : Desk) → known_of d ≡ known → map without_tree d.records ≡ records → labels ≡ candidates d x
