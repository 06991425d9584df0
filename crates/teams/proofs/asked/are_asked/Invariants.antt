use Rattle.std.specs.Prelude.{◌≡◌, map, drop}
use Rattle.std.specs.Arc.{arc_value}
use Rattle.indexmap.specs.IndexMap.{get}
use Rattle.model.specs.Goals.{same_job}
use Rattle.teams.specs.Asked.{are_asked, are_asked_after}
use Rattle.teams.proofs.asked.are_asked.Given as goal

-- the rows behind, after what was given so far, tell the same as all
abbrev pub invariant-loop-shared : goal.invariant-loop-shared
invariant-loop-shared l = are_asked_after l.sessions (get same_job l.given) (map arc_value (drop l.shared-index l.rows)) ≡ are_asked l.sessions (map arc_value l.rows)
