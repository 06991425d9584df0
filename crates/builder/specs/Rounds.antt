-- What a round comes to.
use Rattle.std.specs.Prelude.{◌≡◌, ℕ, ◌<◌, Bool, true, false, ◌||◌, List, [], ◌∷◌, ◌++◌, length, map, Option, Result}
use mathlib.Core.List.{IsPrefix}
use Rattle.model.specs.declared.refusal.Refusal.{Refusal}
use Rattle.model.specs.Goals.{Running}
use Rattle.events.specs.declared.event.Event.{Event}
use Rattle.events.specs.declared.reply.Reply.{Reply}
use Rattle.crossbeam_channel.specs.Claims.{Pass, view}
use Rattle.builder.specs.declared.ticket.Ticket.{Ticket}
use Rattle.builder.specs.declared.queue.QueueEnd.{QueueEnd}
use Rattle.builder.specs.declared.runner.RunFault.{RunFault}
use Rattle.builder.specs.declared.met.Met.{Met}
use Rattle.builder.specs.declared.tally.Tally.{Tally}
use Rattle.builder.specs.declared.worker.Worker.{Worker}
use Rattle.builder.specs.Queue.{producer, consumer, Taken, tickets_in, owns, AreOf}
use Rattle.builder.specs.Tickets.{goals_in, AreGoals, AreStops, has_stop, StopsLast}
use Rattle.builder.specs.Working.{Call, nothing_met, Works}

-- a token of the queue, at the same place of the same queue
abbrev pub IsSameSeat : Pass Ticket QueueEnd → Pass Ticket QueueEnd → Type 0
IsSameSeat old new = (new.table_id ≡ old.table_id) × (new.me.0.of ≡ old.me.0.of) × (new.me.1 ≡ [])

-- ---- what is put

-- the end that keeps the queue
abbrev pub IsProducer : QueueEnd → Type 0
IsProducer v = v ≡ producer v.put v.out v.back

-- Stops were put
pub record PutStops (old new : QueueEnd) : Type 0 where
  pub stops : List Ticket
  pub are : AreStops stops
  pub put : new ≡ producer (old.put ++ stops) old.out old.back

-- ---- what the workers did

-- what a worker did in a round: the tickets that it took, its Stop among them, the calls that it made, and what it met
pub record Shift : Type 0 where
  pub took : List Ticket
  pub calls : List Call
  pub met : Met

-- the same, the last first
abbrev pub backwards : {A : Type 0} → List A → List A
backwards [] = []
backwards (x ∷ xs) = backwards xs ++ x ∷ []

-- what each took
abbrev pub tickets_of : List Shift → List (List Ticket)
tickets_of shifts = map (λ (s : Shift). s.took) shifts

-- one took a Stop
abbrev pub one_stopped : List Shift → Bool
one_stopped [] = false
one_stopped (s ∷ ss) = has_stop s.took || one_stopped ss

-- one met 90
abbrev pub one_met_memory : List Shift → Bool
one_met_memory [] = false
one_met_memory (s ∷ ss) = s.met.memory || one_met_memory ss

abbrev pub tally_of : List Shift → Tally
tally_of shifts = record { whole = one_stopped shifts; memory = one_met_memory shifts }

-- ---- a round

module _ {S Q : Type 0} (called : S → Event → Reply → S → Type 0) (asked : S → List ℕ → ℕ → Result Running Refusal → S → Type 0) (gives : Q → Running → Result (List ℕ) RunFault → Q → Type 0) where
  -- a worker worked on the tickets that it took, up to its Stop
  pub record WorksShift (w : Worker S Q) (shift : Shift) (w' : Worker S Q) : Type 0 where
    pub works : Works called asked gives shift.took nothing_met shift.calls w shift.met w'
    pub last : StopsLast shift.took

  -- each did
  abbrev pub AllWork : List (Worker S Q) → List Shift → List (Worker S Q) → Type 0
  AllWork [] [] [] = Unit {0}
  AllWork (w ∷ ws) (s ∷ ss) (v ∷ vs) = WorksShift w s v × AllWork ws ss vs
  AllWork ws ss vs = ⊥

  -- a thread gives back its worker, which worked on what its end took, and that end
  pub record Returned (w : Worker S Q) (hand : Pass Ticket QueueEnd) (w' : Worker S Q) (hand' : Pass Ticket QueueEnd) (met : Met) (took_stop : Bool) : Type 0 where
    pub seat : IsSameSeat hand hand'
    pub took : view hand' ≡ consumer (view hand).number (view hand').taken
    pub calls : List Call
    pub works : Works called asked gives (view hand').taken nothing_met calls w met w'
    pub last : StopsLast (view hand').taken
    pub stop : took_stop ≡ has_stop (view hand').taken

  -- the workers that are left worked, each on what its end took of the tickets that were put, and of the Stops behind them; and their ends
  -- came back
  pub record Serves (gave : List Ticket → Type 0) (left old new : List (Worker S Q)) (producer_old producer_new : QueueEnd) (tally : Tally) : Type 0 where
    pub tickets : List Ticket
    pub gives_them : gave tickets
    pub goals : AreGoals tickets
    pub stops : List Ticket
    pub are : AreStops stops
    pub after : List (Worker S Q)
    pub shifts : List Shift
    pub done : new ≡ old ++ after
    pub works : AllWork left shifts after
    pub keeps : producer_new ≡ producer (tickets ++ stops) producer_old.out (backwards (tickets_of shifts))
    pub counts : tally ≡ tally_of shifts

  -- Each worker had a shift. What they took, each what is its own in one log of all, is a beginning of the tickets, Stops
  -- aside; all of them, where the round was whole. Hands are numbered from the last worker on.
  pub record IsRound (tickets : List Ticket) (before after : List (Worker S Q)) (is_whole has_met_memory : Bool) : Type 0 where
    pub goals : AreGoals tickets
    pub shifts : List Shift
    pub works : AllWork before shifts after
    pub log : List Taken
    pub own_of_each : backwards (tickets_of shifts) ≡ owns 0 (length (backwards (tickets_of shifts))) log
    pub of_hands : AreOf (length (backwards (tickets_of shifts))) log
    pub begins : IsPrefix (goals_in (tickets_in log)) tickets
    pub all : is_whole ≡ true → goals_in (tickets_in log) ≡ tickets
    pub whole : is_whole ≡ one_stopped shifts
    pub memory : has_met_memory ≡ one_met_memory shifts

  -- a round of the tickets that a source gave
  pub record IsRoundOf (gave : List Ticket → Type 0) (before after : List (Worker S Q)) (is_whole has_met_memory : Bool) : Type 0 where
    pub tickets : List Ticket
    pub gives_them : gave tickets
    pub round : IsRound tickets before after is_whole has_met_memory
