-- Plans whose repaired records are there.
use Rattle.std.specs.Prelude.{◌≡◌, ℕ, List, [], ◌∷◌, Option, None, Some, Ok}
use Rattle.model.specs.Worlds.{Record}
use Rattle.model.specs.Choices.{Plan}
use Rattle.model.specs.Repairs.{Replacement, replacements_of, served, serve, chosen_in}
use Rattle.repair.specs.AtHand.{MadeRepairs, IsMade}
use Rattle.repair.specs.Counting.{IsToRepair}

-- what comes of a record, where the classes of lower ranks are served by this choice, is there if it has to be repaired
abbrev pub HasRepair : (List ℕ → Option Record) → MadeRepairs → Record → Type 0
HasRepair choice made r =
    (replacements : List Replacement) → replacements_of (served choice r.class.rank) r.labels ≡ Ok replacements
    → IsToRepair r replacements → IsMade made r replacements

-- so it is with the first of these records, and with those behind it unless the first is refused
abbrev pub HasRepairs : (List ℕ → Option Record) → MadeRepairs → List Record → Type 0
HasRepairs choice made [] = Unit {0}
HasRepairs choice made (r ∷ rs) = HasRepair choice made r × ((q : Record) → serve choice r.class.path ≡ Ok q → HasRepairs choice made rs)

-- what comes of each record that is repaired for a plan is there
abbrev pub HasRepaired : Plan → MadeRepairs → Type 0
HasRepaired p made = HasRepairs (chosen_in p.records) made p.records

-- if there is one
abbrev pub HasRepairedIf : Option Plan → MadeRepairs → Type 0
HasRepairedIf None made = Unit {0}
HasRepairedIf (Some p) made = HasRepaired p made
