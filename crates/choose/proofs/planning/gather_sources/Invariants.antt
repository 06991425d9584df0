use Rattle.std.proofs.Common.{ℕ, List, [], take, Option}
use Rattle.model.specs.Worlds.{Record}
use Rattle.choose.specs.Gathering.{IsChoiceAmong, IsGathered}
use Rattle.choose.proofs.planning.gather_sources.Given as goal

abbrev pub invariant-loop-path : goal.invariant-loop-path
invariant-loop-path l =
    (choice : List ℕ → Option Record) (classes A : List (List ℕ)) → IsChoiceAmong l.view.records choice → IsGathered l.view choice classes l.sources A [] [] l.fn.gathering
    → IsGathered l.view choice classes l.sources A (take l.path-index l.sources) [] l.gathering
