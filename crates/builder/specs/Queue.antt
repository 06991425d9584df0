-- The queue of tickets, and what its ends know.
use Rattle.std.specs.Prelude.{◌≡◌, ℕ, zero, suc, ◌+◌, ◌<◌, ◌==◌, true, false, List, [], ◌∷◌, ◌++◌, length, map, if◌then◌else◌}
use mathlib.Core.Option.{some}
use lib.ListN.{get_elem?}
use Rattle.builder.specs.declared.ticket.Ticket.{Ticket}
use Rattle.builder.specs.declared.queue.QueueEnd.{QueueEnd}

-- ---- ends of the queue

-- the end that keeps the queue: what was put, how many ends are out, and what those that came back took
abbrev pub producer : List Ticket → ℕ → List (List Ticket) → QueueEnd
producer put out back = record { keeps = true; put = put; out = out; back = back; takes = false; number = 0; taken = [] }

-- the end of a number, which took these tickets
abbrev pub consumer : ℕ → List Ticket → QueueEnd
consumer number taken = record { keeps = false; put = []; out = 0; back = []; takes = true; number = number; taken = taken }

-- an end that came back
abbrev pub idle : QueueEnd
idle = record { keeps = false; put = []; out = 0; back = []; takes = false; number = 0; taken = [] }

-- the producer puts a ticket
abbrev pub Puts : QueueEnd → Ticket → QueueEnd → Type 0
Puts v ticket w = w ≡ producer (v.put ++ ticket ∷ []) v.out v.back

-- a consumer takes a ticket
abbrev pub Takes : QueueEnd → Ticket → QueueEnd → Type 0
Takes v ticket w = w ≡ consumer v.number (v.taken ++ ticket ∷ [])

-- ---- the tickets taken

-- a ticket that was taken, and the number of the end that took it
abbrev pub Taken : Type 0
Taken = ℕ × Ticket

-- which tickets were taken, in the order in which they were
abbrev pub tickets_in : List Taken → List Ticket
tickets_in log = map (λ e. e.1) log

-- those of one end
abbrev pub own : ℕ → List Taken → List Ticket
own k [] = []
own k (e ∷ es) = if e.0 == k then e.1 ∷ own k es else own k es

-- those of each of so many ends, from a number on
abbrev pub owns : ℕ → ℕ → List Taken → List (List Ticket)
owns k zero log = []
owns k (suc n) log = own k log ∷ owns (suc k) n log

-- ends of numbers below this took them
abbrev pub AreOf : ℕ → List Taken → Type 0
AreOf n [] = Unit {0}
AreOf n (e ∷ es) = (e.0 < n) × AreOf n es

-- ---- the rule

-- what an end of the queue knows is so
pub record Fits (keeps_at : ℕ) (put : List Ticket) (out : ℕ) (back : List (List Ticket)) (log : List Taken) (owner : ℕ → ℕ) (place : ℕ) (v : QueueEnd) : Type 0 where
  pub keeps : v.keeps ≡ true → (place ≡ keeps_at) × (v.put ≡ put) × (v.out ≡ out) × (v.back ≡ back)
  pub takes : v.takes ≡ true → (place ≡ owner v.number) × (v.number < out) × (v.taken ≡ own v.number log)

-- the tickets taken and then those in the queue are those put, and each end took those that are its own
pub record HandsOn (items : List Ticket) (views : List QueueEnd) : Type 0 where
  pub keeps_at : ℕ
  pub put : List Ticket
  pub out : ℕ
  pub back : List (List Ticket)
  pub log : List Taken
  pub owner : ℕ → ℕ
  pub all : put ≡ tickets_in log ++ items
  pub came_back : back ≡ owns out (length back) log
  pub of_hands : AreOf (out + length back) log
  pub fits : (place : ℕ) (v : QueueEnd) → get_elem? views place ≡ some v → Fits keeps_at put out back log owner place v

-- what the producer knows of the tickets that were taken, with these in the queue
pub record Told (v : QueueEnd) (items : List Ticket) : Type 0 where
  pub log : List Taken
  pub all : v.put ≡ tickets_in log ++ items
  pub came_back : v.back ≡ owns v.out (length v.back) log
  pub of_hands : AreOf (v.out + length v.back) log
