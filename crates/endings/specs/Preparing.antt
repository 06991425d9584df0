-- What is settled before a job ends.
use Rattle.std.specs.Prelude.{◌≡◌, ℕ, List, Option, Some, Ok}
use Rattle.model.specs.Archives.{Tree}
use Rattle.model.specs.ArchiveReading.{tree_of_archive}
use Rattle.model.specs.Worlds.{Goal, Job}
use Rattle.model.specs.Goals.{goal_at}
use Rattle.jobs.specs.Leading.{leading}
use Rattle.realise.specs.Holdings.{Holdings}
use Rattle.outputs.specs.declared.input.Input.{Input}
use Rattle.outputs.specs.declared.settlement.Settlement.{Settlement}
use Rattle.outputs.specs.Kept.{HasNeeded}
use Rattle.endings.specs.Built.{HasBuilt}

-- what comes of the output of a job for the goal that leads it is among these, where the output is an archive
abbrev pub HasLedOutput : Holdings → Job → List Goal → List ℕ → List Settlement → Type 0
HasLedOutput d job goals output settled = (g : Goal) (tree : Tree) → goal_at job.number goals ≡ Some g → leading job (Some g) ≡ Ok tt
    → tree_of_archive output ≡ Some tree → HasBuilt d.known g tree settled

-- what comes of an output where it is to be settled by an input is among these, if it is an archive
abbrev pub HasNeededFor : List ℕ → List Settlement → Option Input → Type 0
HasNeededFor output settled input = (tree : Tree) → tree_of_archive output ≡ Some tree → HasNeeded settled input tree
