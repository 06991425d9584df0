-- Lists of tickets.
use Rattle.std.specs.Prelude.{◌≡◌, Bool, true, false, List, [], ◌∷◌}
use Rattle.builder.specs.declared.ticket.Ticket.{Ticket}
use Rattle.builder.specs.declared.ticket.Ticket.TheVariants.{Goal, Stop}

-- the tickets that are no Stops
abbrev pub goals_in : List Ticket → List Ticket
goals_in [] = []
goals_in (Stop ∷ ts) = goals_in ts
goals_in (Goal user number ∷ ts) = Goal user number ∷ goals_in ts

abbrev pub IsGoal : Ticket → Type 0
IsGoal Stop = ⊥
IsGoal (Goal user number) = Unit {0}

-- no Stop is among them
abbrev pub AreGoals : List Ticket → Type 0
AreGoals [] = Unit {0}
AreGoals (t ∷ ts) = IsGoal t × AreGoals ts

-- one Stop after another
abbrev pub AreStops : List Ticket → Type 0
AreStops [] = Unit {0}
AreStops (t ∷ ts) = (t ≡ Stop) × AreStops ts

-- whether a Stop is among them
abbrev pub has_stop : List Ticket → Bool
has_stop [] = false
has_stop (Stop ∷ ts) = true
has_stop (Goal user number ∷ ts) = has_stop ts

-- nothing comes after a Stop
abbrev pub StopsLast : List Ticket → Type 0
StopsLast [] = Unit {0}
StopsLast (Stop ∷ ts) = ts ≡ []
StopsLast (Goal user number ∷ ts) = StopsLast ts
