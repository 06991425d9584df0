-- What holds along the calls of a worker.
use Rattle.std.proofs.Common.{◌≡◌, ℕ, List, [], ◌∷◌, ◌++◌, refl, sym, ap, ◌∙◌, subst}
use Rattle.std.specs.Prelude.{Bool, true, false, Option, Some, None, Result, Ok, Err}
use Rattle.model.specs.declared.refusal.Refusal.{Refusal}
use Rattle.model.specs.declared.refusal.Refusal.TheVariants as why
use Rattle.model.specs.Goals.{Running}
use Rattle.events.specs.declared.event.Request.{Request}
use Rattle.events.specs.declared.event.Request.TheVariants.{Plan, Start}
use Rattle.events.specs.declared.event.Event.{Event}
use Rattle.events.specs.declared.reply.Reply.{Reply}
use Rattle.events.specs.declared.reply.Reply.TheVariants as reply
use Rattle.builder.specs.declared.ticket.Ticket.{Ticket}
use Rattle.builder.specs.declared.ticket.Ticket.TheVariants.{Goal, Stop}
use Rattle.builder.specs.declared.runner.RunFault.{RunFault}
use Rattle.builder.specs.declared.worker.Worker.{Worker}
use Rattle.builder.specs.declared.met.Met.{Met}
use Rattle.builder.specs.Working.{Call, is_planned, leads_own, met_in, met_by, ending, Leaves, CallsThen, Ends, BuildsWhere, Asks, GoesOn, Starts, WorksOn, DealsWhere, Deals, Works}

-- ---- what holds along the calls for one ticket

module _ {S Q : Type 0} (called : S → Event → Reply → S → Type 0) (asked : S → List ℕ → ℕ → Result Running Refusal → S → Type 0) (gives : Q → Running → Result (List ℕ) RunFault → Q → Type 0)
    (R : List Call → S → Option Refusal → S → Type 0)
    (stay : (met : Option Refusal) (s : S) → R [] s met s)
    (one : (event : Event) (reply : Reply) (s t u : S) (calls : List Call) (met : Option Refusal) → called s event reply t → R calls t met u → R ((event, reply) ∷ calls) s met u)
    (ask : (user : List ℕ) (number : ℕ) (answer : Result Running Refusal) (s t u : S) (calls : List Call) (met : Option Refusal) → asked s user number answer t → R calls t met u → R calls s met u) where
  module _ (user : List ℕ) (number : ℕ) where
    leaves_along : (why : Option Refusal) (calls : List Call) (s : S) (q : Q) (met : Option Refusal) (s' : S) (q' : Q)
        → Leaves called asked gives user number why calls s q met s' q' → R calls s met s'
    leaves_along why calls s q met s' q' h =
        subst (λ (x : List Call × S × Option Refusal). R x.0 s x.2 x.1) (λ i. (sym h.0 i, sym h.1 i, sym h.3 i)) (stay why s)

    then_along : (request : Request) (more : Reply → List Call → S → Q → Option Refusal → S → Q → Type 0)
        → ((reply : Reply) (calls : List Call) (s : S) (q : Q) (met : Option Refusal) (s' : S) (q' : Q) → more reply calls s q met s' q' → R calls s met s')
        → (calls : List Call) (s : S) (q : Q) (met : Option Refusal) (s' : S) (q' : Q)
        → CallsThen called asked gives user number request more calls s q met s' q' → R calls s met s'
    then_along request more f [] s q met s' q' h = leaves_along (Some why.Memory) [] s q met s' q' h
    then_along request more f (c ∷ calls) s q met s' q' h = one c.0 c.1 s h.1 s' calls met h.2 (f c.1 calls h.1 q met s' q' h.3)

    goes_along : (b : Bool) (more : List Call → S → Q → Option Refusal → S → Q → Type 0) (why : Option Refusal)
        → ((calls : List Call) (s : S) (q : Q) (met : Option Refusal) (s' : S) (q' : Q) → more calls s q met s' q' → R calls s met s')
        → (calls : List Call) (s : S) (q : Q) (met : Option Refusal) (s' : S) (q' : Q)
        → GoesOn called asked gives user number b more why calls s q met s' q' → R calls s met s'
    goes_along true more why f calls s q met s' q' h = f calls s q met s' q' h
    goes_along false more why f calls s q met s' q' h = leaves_along why calls s q met s' q' h

    ends_along : (e : Option Request) (calls : List Call) (s : S) (met : Option Refusal) (s' : S) → Ends called user e calls s met s' → R calls s met s'
    ends_along e [] s met s' h = subst (λ (x : S × Option Refusal). R [] s x.1 x.0) (λ i. (sym h.1 i, sym h.2 i)) (stay (Some why.Memory) s)
    ends_along None (c ∷ calls) s met s' h = absurd h
    ends_along (Some request) (c ∷ calls) s met s' h =
        one c.0 c.1 s s' s' calls met h.1 (subst (λ (x : List Call × Option Refusal). R x.0 s' x.1 s') (λ i. (sym h.2 i, sym h.3 i)) (stay (met_by c.1) s'))

    where_along : (answer : Result Running Refusal) (calls : List Call) (s : S) (q : Q) (met : Option Refusal) (s' : S) (q' : Q)
        → BuildsWhere called asked gives user number answer calls s q met s' q' → R calls s met s'
    where_along (Ok job) calls s q met s' q' h = ends_along (ending number h.0) calls s met s' h.2
    where_along (Err w) calls s q met s' q' h = leaves_along (met_in w) calls s q met s' q' h

    asks_along : (calls : List Call) (s : S) (q : Q) (met : Option Refusal) (s' : S) (q' : Q)
        → Asks called asked gives user number calls s q met s' q' → R calls s met s'
    asks_along calls s q met s' q' h = ask user number h.0 s h.1 s' calls met h.2 (where_along h.0 calls h.1 q met s' q' h.3)

    starts_along : (calls : List Call) (s : S) (q : Q) (met : Option Refusal) (s' : S) (q' : Q)
        → Starts called asked gives user number calls s q met s' q' → R calls s met s'
    starts_along = then_along (Start number) (λ r. GoesOn called asked gives user number (leads_own user number r) (Asks called asked gives user number) (met_by r))
        (λ r. goes_along (leads_own user number r) (Asks called asked gives user number) (met_by r) asks_along)

    pub works_on_along : (calls : List Call) (s : S) (q : Q) (met : Option Refusal) (s' : S) (q' : Q)
        → WorksOn called asked gives user number calls s q met s' q' → R calls s met s'
    works_on_along = then_along (Plan number) (λ r. GoesOn called asked gives user number (is_planned r) (Starts called asked gives user number) (met_by r))
        (λ r. goes_along (is_planned r) (Starts called asked gives user number) (met_by r) starts_along)

-- ---- what holds along the calls for all tickets

module _ {S Q : Type 0} (called : S → Event → Reply → S → Type 0) (asked : S → List ℕ → ℕ → Result Running Refusal → S → Type 0) (gives : Q → Running → Result (List ℕ) RunFault → Q → Type 0)
    -- what holds of the stores between which no call was made, and of one call, and of two ways one after the other, holds of
    -- the store before a worker's calls and the one after them
    (R : List Call → S → S → Type 0)
    (stay : (s : S) → R [] s s)
    (one : (event : Event) (reply : Reply) (s t : S) → called s event reply t → R ((event, reply) ∷ []) s t)
    (ask : (user : List ℕ) (number : ℕ) (answer : Result Running Refusal) (s t : S) → asked s user number answer t → R [] s t)
    (join : (first rest : List Call) (s t u : S) → R first s t → R rest t u → R (first ++ rest) s u) where
  no_call : (calls : List Call) (w : Worker S Q) (w' : Worker S Q) → calls ≡ [] → w' ≡ w → R calls w.store w'.store
  no_call calls w w' none same = subst (λ (x : List Call × Worker S Q). R x.0 w.store x.1.store) (λ i. (sym none i, sym same i)) (stay w.store)

  where_dealt : (b : Bool) (user : List ℕ) (number : ℕ) (met : Met) (calls : List Call) (w : Worker S Q) (met' : Met) (w' : Worker S Q)
      → DealsWhere called asked gives b user number met calls w met' w' → R calls w.store w'.store
  where_dealt true user number met calls w met' w' h = no_call calls w w' h.0 h.1
  where_dealt false user number met calls w met' w' h =
      works_on_along called asked gives (λ cs s _ t. R cs s t) (λ m s. stay s)
      (λ event reply s t u cs m call more. join ((event, reply) ∷ []) cs s t u (one event reply s t call) more)
      (λ user number answer s t u cs m asks more. join [] cs s t u (ask user number answer s t asks) more)
      user number calls w.store w.runner h.0 w'.store w'.runner h.1

  deals_along : (t : Ticket) (met : Met) (calls : List Call) (w : Worker S Q) (met' : Met) (w' : Worker S Q)
      → Deals called asked gives t met calls w met' w' → R calls w.store w'.store
  deals_along Stop met calls w met' w' h = no_call calls w w' h.0 h.1
  deals_along (Goal user number) met calls w met' w' h = where_dealt met.stopped user number met calls w met' w' h

  pub works_along : (ts : List Ticket) (met : Met) (calls : List Call) (w : Worker S Q) (met' : Met) (w' : Worker S Q)
      → Works called asked gives ts met calls w met' w' → R calls w.store w'.store
  works_along [] met calls w met' w' h = no_call calls w w' h.0 h.1
  works_along (t ∷ ts) met calls w met' w' h =
      subst (λ (cs : List Call). R cs w.store w'.store) (sym h.4)
      (join h.0 h.1 w.store h.2.store w'.store (deals_along t met h.0 w h.3 h.2 h.5) (works_along ts h.3 h.1 h.2 met' w' h.6))
