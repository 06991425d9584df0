-- What a worker does with the tickets that it takes.
use Rattle.std.specs.Prelude.{◌≡◌, ℕ, Bool, true, false, List, [], ◌∷◌, ◌++◌, Option, Some, None, Result, Ok, Err}
use Rattle.std.specs.NonZero.{non_zero_u8_get}
use Rattle.model.specs.declared.refusal.Refusal.{Refusal}
use Rattle.model.specs.declared.refusal.Refusal.TheVariants.{Memory, Stopped}
use Rattle.model.specs.Goals.{Running, is_in}
use Rattle.events.specs.Statuses.{status_of}
use Rattle.events.specs.declared.status.Status.TheVariants.{Planned}
use Rattle.events.specs.declared.event.Request.{Request}
use Rattle.events.specs.declared.event.Request.TheVariants.{Plan, Start, Finish, Fail}
use Rattle.events.specs.declared.event.Event.{Event}
use Rattle.events.specs.declared.reply.Reply.{Reply}
use Rattle.events.specs.declared.reply.Reply.TheVariants.{Status as StatusReply, Refused}
use Rattle.builder.specs.declared.ticket.Ticket.{Ticket}
use Rattle.builder.specs.declared.ticket.Ticket.TheVariants.{Goal, Stop}
use Rattle.builder.specs.declared.runner.RunFault.{RunFault}
use Rattle.builder.specs.declared.runner.RunFault.TheVariants as fault
use Rattle.builder.specs.declared.worker.Worker.{Worker}
use Rattle.builder.specs.declared.met.Met.{Met}

-- ---- calls

-- an event that was handed to a store, and its reply
abbrev pub Call : Type 0
Call = Event × Reply

-- what a user asks
abbrev pub asking : List ℕ → Request → Event
asking user request = record { actor = user; request = request }

-- whether a reply says that the goal is planned
abbrev pub is_planned : Reply → Bool
is_planned (StatusReply Planned) = true
is_planned reply = false

-- whether a reply says that the job which is built is led by the user's goal of that number
abbrev pub leads_own : List ℕ → ℕ → Reply → Bool
leads_own user number (StatusReply status) = is_in (record { leader = user; number = number }) (status_of status)
leads_own user number reply = false

-- what a worker meets in a refusal: 90 and 92, and nothing in any other
abbrev pub met_in : Refusal → Option Refusal
met_in Memory = Some Memory
met_in Stopped = Some Stopped
met_in why = None

abbrev pub met_by : Reply → Option Refusal
met_by (Refused why) = met_in why
met_by reply = None

-- what ends a job of which a runner gave this; where memory was refused to the runner, nothing does
abbrev pub ending : ℕ → Result (List ℕ) RunFault → Option Request
ending number (Ok bytes) = Some (Finish number bytes)
ending number (Err (fault.Status status)) = Some (Fail number (non_zero_u8_get status))
ending number (Err fault.Device) = Some (Fail number 0)
ending number (Err fault.Memory) = None

-- ---- what is done for a ticket: these calls are made, in their order, and 90 or 92 is met or nothing

-- memory may be refused for what ends a job only where nothing does, or an output: a status and a device fault take none
abbrev pub TakesMemory : Option Request → Type 0
TakesMemory None = Unit {0}
TakesMemory (Some (Finish number bytes)) = Unit {0}
TakesMemory (Some request) = ⊥

-- a user asks what ends the job, if anything does; or memory was refused, and no call is made
abbrev pub Ends : {S : Type 0} → (S → Event → Reply → S → Type 0) → List ℕ → Option Request → List Call → S → Option Refusal → S → Type 0
Ends called user request [] s met s' = TakesMemory request × (s' ≡ s) × (met ≡ Some Memory)
Ends called user None (call ∷ calls) s met s' = ⊥
Ends called user (Some request) (call ∷ calls) s met s' =
    (call.0 ≡ asking user request) × called s call.0 call.1 s' × (calls ≡ []) × (met ≡ met_by call.1)

module _ {S Q : Type 0} (called : S → Event → Reply → S → Type 0) (asked : S → List ℕ → ℕ → Result Running Refusal → S → Type 0) (gives : Q → Running → Result (List ℕ) RunFault → Q → Type 0) (user : List ℕ) (number : ℕ) where
  -- no call more is made
  abbrev pub Leaves : Option Refusal → List Call → S → Q → Option Refusal → S → Q → Type 0
  Leaves why calls s q met s' q' = (calls ≡ []) × (s' ≡ s) × (q' ≡ q) × (met ≡ why)

  -- the user asks this, and more comes by the reply; or memory was refused, and no call is made
  abbrev pub CallsThen : Request → (Reply → List Call → S → Q → Option Refusal → S → Q → Type 0) → List Call → S → Q → Option Refusal → S → Q → Type 0
  CallsThen request more [] s q met s' q' = Leaves (Some Memory) [] s q met s' q'
  CallsThen request more (call ∷ calls) s q met s' q' =
      (call.0 ≡ asking user request) × (between : S) × called s call.0 call.1 between × more call.1 calls between q met s' q'

  -- the runner runs once, and what it gives ends the job
  abbrev pub Builds : Running → List Call → S → Q → Option Refusal → S → Q → Type 0
  Builds job calls s q met s' q' =
      (given : Result (List ℕ) RunFault) × gives q job given q' × Ends called user (ending number given) calls s met s'

  abbrev pub BuildsWhere : Result Running Refusal → List Call → S → Q → Option Refusal → S → Q → Type 0
  BuildsWhere (Ok job) = Builds job
  BuildsWhere (Err why) = Leaves (met_in why)

  -- the job that the goal leads is asked for, and built
  abbrev pub Asks : List Call → S → Q → Option Refusal → S → Q → Type 0
  Asks calls s q met s' q' =
      (answer : Result Running Refusal) × (between : S) × asked s user number answer between × BuildsWhere answer calls between q met s' q'

  abbrev pub GoesOn : Bool → (List Call → S → Q → Option Refusal → S → Q → Type 0) → Option Refusal → List Call → S → Q → Option Refusal → S → Q → Type 0
  GoesOn true more why = more
  GoesOn false more why = Leaves why

  -- a planned goal is started, and where it leads a job then, that is built
  abbrev pub Starts : List Call → S → Q → Option Refusal → S → Q → Type 0
  Starts = CallsThen (Start number) (λ reply. GoesOn (leads_own user number reply) Asks (met_by reply))

  -- a goal is planned, and where it is planned then, it is started
  abbrev pub WorksOn : List Call → S → Q → Option Refusal → S → Q → Type 0
  WorksOn = CallsThen (Plan number) (λ reply. GoesOn (is_planned reply) Starts (met_by reply))

-- ---- what is done for all tickets

-- a worker that has just begun
abbrev pub nothing_met : Met
nothing_met = record { memory = false; stopped = false }

-- with what it met for one ticket more
abbrev pub met_with : Met → Option Refusal → Met
met_with met (Some Memory) = record { memory = true; stopped = met.stopped }
met_with met (Some Stopped) = record { memory = met.memory; stopped = true }
met_with met why = met

module _ {S Q : Type 0} (called : S → Event → Reply → S → Type 0) (asked : S → List ℕ → ℕ → Result Running Refusal → S → Type 0) (gives : Q → Running → Result (List ℕ) RunFault → Q → Type 0) where
  -- a worker works on the ticket for a goal, also where it met 90 for another; where it has met 92 it leaves that
  abbrev pub DealsWhere : Bool → List ℕ → ℕ → Met → List Call → Worker S Q → Met → Worker S Q → Type 0
  DealsWhere true user number met calls w met' w' = (calls ≡ []) × (w' ≡ w) × (met' ≡ met)
  DealsWhere false user number met calls w met' w' =
      (why : Option Refusal) × WorksOn called asked gives user number calls w.store w.runner why w'.store w'.runner × (met' ≡ met_with met why)

  abbrev pub Deals : Ticket → Met → List Call → Worker S Q → Met → Worker S Q → Type 0
  Deals Stop met calls w met' w' = (calls ≡ []) × (w' ≡ w) × (met' ≡ met)
  Deals (Goal user number) met calls w met' w' = DealsWhere met.stopped user number met calls w met' w'

  -- a worker that had met this takes these tickets, one after another
  abbrev pub Works : List Ticket → Met → List Call → Worker S Q → Met → Worker S Q → Type 0
  Works [] met calls w met' w' = (calls ≡ []) × (w' ≡ w) × (met' ≡ met)
  Works (t ∷ ts) met calls w met' w' =
      (first rest : List Call) × (between : Worker S Q) × (met'' : Met)
      × (calls ≡ first ++ rest) × Deals t met first w met'' between × Works ts met'' rest between met' w'
