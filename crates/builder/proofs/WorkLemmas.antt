-- What is done for one ticket more.
use Rattle.std.proofs.Common.{◌≡◌, ℕ, List, [], ◌∷◌, ◌++◌, true≢false, refl, sym, ap, ◌∙◌, subst, append_assoc}
use Rattle.std.specs.Prelude.{Bool, true, false, Option, Some, Result}
use Rattle.std.proofs.lemmas.List.{append-nil}
use Rattle.model.specs.declared.refusal.Refusal.{Refusal}
use Rattle.model.specs.Goals.{Running}
use Rattle.events.specs.declared.event.Request.{Request}
use Rattle.events.specs.declared.event.Request.TheVariants.{Plan, Start}
use Rattle.events.specs.declared.event.Event.{Event}
use Rattle.events.specs.declared.reply.Reply.{Reply}
use Rattle.builder.specs.declared.ticket.Ticket.{Ticket}
use Rattle.builder.specs.declared.ticket.Ticket.TheVariants.{Goal, Stop}
use Rattle.builder.specs.declared.queue.QueueEnd.{QueueEnd}
use Rattle.builder.specs.declared.runner.RunFault.{RunFault}
use Rattle.builder.specs.declared.worker.Worker.{Worker}
use Rattle.builder.specs.declared.met.Met.{Met}
use Rattle.builder.specs.Queue.{consumer, Takes}
use Rattle.builder.specs.Tickets.{has_stop, StopsLast}
use Rattle.builder.specs.Working.{Call, asking, is_planned, leads_own, met_by, Ends, Asks, GoesOn, Starts, WorksOn, met_with, DealsWhere, Deals, Works}

-- one call ends it
pub ends_one : {S : Type 0} (called : S → Event → Reply → S → Type 0) (user : List ℕ) (e : Option Request) (actor : List ℕ) (request : Request) (reply : Reply) (s s' : S) (met : Option Refusal)
    → e ≡ Some request → actor ≡ user → called s (asking actor request) reply s' → met ≡ met_by reply
    → Ends called user e ((asking actor request, reply) ∷ []) s met s'
ends_one called user e actor request reply s s' met is own call m =
    subst (λ (x : Option Request). Ends called user x ((asking actor request, reply) ∷ []) s met s') (sym is) (ap (λ (u : List ℕ). asking u request) own, call, refl, m)

module _ {S Q : Type 0} (called : S → Event → Reply → S → Type 0) (asked : S → List ℕ → ℕ → Result Running Refusal → S → Type 0) (gives : Q → Running → Result (List ℕ) RunFault → Q → Type 0) (user : List ℕ) (number : ℕ) where
  goes_more : (b : Bool) (more : List Call → S → Q → Option Refusal → S → Q → Type 0) (why : Option Refusal) (calls : List Call) (s : S) (q : Q) (met : Option Refusal) (s' : S) (q' : Q)
      → b ≡ true → more calls s q met s' q' → GoesOn called asked gives user number b more why calls s q met s' q'
  goes_more true more why calls s q met s' q' is h = h
  goes_more false more why calls s q met s' q' is h = absurd (true≢false (sym is))

  goes_no_more : (b : Bool) (more : List Call → S → Q → Option Refusal → S → Q → Type 0) (why : Option Refusal) (s : S) (q : Q) (met : Option Refusal)
      → b ≡ false → met ≡ why → GoesOn called asked gives user number b more why [] s q met s q
  goes_no_more true more why s q met is m = absurd (true≢false is)
  goes_no_more false more why s q met is m = (refl, refl, refl, m)

  -- a goal that leads a job after its Start, which its user has built
  pub starts_more : (actor leader : List ℕ) (reply : Reply) (calls : List Call) (s t : S) (q : Q) (met : Option Refusal) (s' : S) (q' : Q)
      → actor ≡ user → called s (asking actor (Start number)) reply t → leads_own user number reply ≡ true → leader ≡ user
      → Asks called asked gives leader number calls t q met s' q'
      → Starts called asked gives user number ((asking actor (Start number), reply) ∷ calls) s q met s' q'
  starts_more actor leader reply calls s t q met s' q' own call is leads more = (
    ap (λ (u : List ℕ). asking u (Start number)) own,
    t,
    call,
    goes_more (leads_own user number reply) (Asks called asked gives user number) (met_by reply) calls t q met s' q' is
        (subst (λ (u : List ℕ). Asks called asked gives u number calls t q met s' q') leads more),
  )

  pub starts_last : (actor : List ℕ) (reply : Reply) (s t : S) (q : Q) (met : Option Refusal)
      → actor ≡ user → called s (asking actor (Start number)) reply t → leads_own user number reply ≡ false → met ≡ met_by reply
      → Starts called asked gives user number ((asking actor (Start number), reply) ∷ []) s q met t q
  starts_last actor reply s t q met own call is m =
      (ap (λ (u : List ℕ). asking u (Start number)) own, t, call, goes_no_more (leads_own user number reply) (Asks called asked gives user number) (met_by reply) t q met is m)

  -- a goal that is planned after its Plan
  pub works_more : (actor : List ℕ) (reply : Reply) (calls : List Call) (s t : S) (q : Q) (met : Option Refusal) (s' : S) (q' : Q)
      → actor ≡ user → called s (asking actor (Plan number)) reply t → is_planned reply ≡ true → Starts called asked gives user number calls t q met s' q'
      → WorksOn called asked gives user number ((asking actor (Plan number), reply) ∷ calls) s q met s' q'
  works_more actor reply calls s t q met s' q' own call is more =
      (ap (λ (u : List ℕ). asking u (Plan number)) own, t, call, goes_more (is_planned reply) (Starts called asked gives user number) (met_by reply) calls t q met s' q' is more)

  pub works_last : (actor : List ℕ) (reply : Reply) (s t : S) (q : Q) (met : Option Refusal)
      → actor ≡ user → called s (asking actor (Plan number)) reply t → is_planned reply ≡ false → met ≡ met_by reply
      → WorksOn called asked gives user number ((asking actor (Plan number), reply) ∷ []) s q met t q
  works_last actor reply s t q met own call is m =
      (ap (λ (u : List ℕ). asking u (Plan number)) own, t, call, goes_no_more (is_planned reply) (Starts called asked gives user number) (met_by reply) t q met is m)

module _ {S Q : Type 0} (called : S → Event → Reply → S → Type 0) (asked : S → List ℕ → ℕ → Result Running Refusal → S → Type 0) (gives : Q → Running → Result (List ℕ) RunFault → Q → Type 0) where
  -- a ticket that the worker, who has not met 92, worked on
  pub dealt : (b : Bool) (user : List ℕ) (number : ℕ) (met : Met) (calls : List Call) (w : Worker S Q) (why : Option Refusal) (met' : Met) (w' : Worker S Q)
      → b ≡ false → WorksOn called asked gives user number calls w.store w.runner why w'.store w'.runner → met' ≡ met_with met why
      → DealsWhere called asked gives b user number met calls w met' w'
  dealt true user number met calls w why met' w' is works m = absurd (true≢false is)
  dealt false user number met calls w why met' w' is works m = (why, works, m)

  -- a ticket that one who has met 92 leaves
  pub left_over : (b : Bool) (user : List ℕ) (number : ℕ) (met : Met) (w : Worker S Q) → b ≡ true → DealsWhere called asked gives b user number met [] w met w
  left_over true user number met w is = (refl, refl, refl)
  left_over false user number met w is = absurd (true≢false (sym is))

  -- one ticket more
  pub works_push : (ts : List Ticket) (t : Ticket) (met : Met) (calls more : List Call) (w : Worker S Q) (met' : Met) (w' : Worker S Q) (met'' : Met) (w'' : Worker S Q)
      → Works called asked gives ts met calls w met' w' → Deals called asked gives t met' more w' met'' w''
      → Works called asked gives (ts ++ t ∷ []) met (calls ++ more) w met'' w''
  works_push [] t met calls more w met' w' met'' w'' none deals = (
    more,
    [],
    w'',
    met'',
    ap (λ (l : List Call). l ++ more) none.0 ∙ sym (append-nil more),
    subst (λ (x : Worker S Q × Met). Deals called asked gives t x.1 more x.0 met'' w'') (λ i. (none.1 i, none.2 i)) deals,
    (refl, refl, refl),
  )
  works_push (u ∷ ts) t met calls more w met' w' met'' w'' works deals = (
    works.0,
    works.1 ++ more,
    works.2,
    works.3,
    ap (λ (l : List Call). l ++ more) works.4 ∙ append_assoc works.0 works.1 more,
    works.5,
    works_push ts t works.3 works.1 more works.2 met' w' met'' w'' works.6 deals,
  )

  -- a Stop changes nothing
  pub works_stop : (ts : List Ticket) (met : Met) (calls : List Call) (w : Worker S Q) (met' : Met) (w' : Worker S Q)
      → Works called asked gives ts met calls w met' w' → Works called asked gives (ts ++ Stop ∷ []) met calls w met' w'
  works_stop ts met calls w met' w' works =
      subst (λ (l : List Call). Works called asked gives (ts ++ Stop ∷ []) met l w met' w') (append-nil calls)
      (works_push ts Stop met calls [] w met' w' met' w' works (refl, refl, refl))

-- ---- Stops

pub has_goal : (ts : List Ticket) (user : List ℕ) (number : ℕ) → has_stop ts ≡ false → has_stop (ts ++ Goal user number ∷ []) ≡ false
has_goal [] user number none = refl
has_goal (Stop ∷ ts) user number none = none
has_goal (Goal u n ∷ ts) user number none = has_goal ts user number none

pub has_last : (ts : List Ticket) → has_stop (ts ++ Stop ∷ []) ≡ true
has_last [] = refl
has_last (Stop ∷ ts) = refl
has_last (Goal u n ∷ ts) = has_last ts

-- tickets without a Stop, and then one
pub last_stop : (ts : List Ticket) → has_stop ts ≡ false → StopsLast (ts ++ Stop ∷ [])
last_stop [] none = refl
last_stop (Stop ∷ ts) none = absurd (true≢false none)
last_stop (Goal u n ∷ ts) none = last_stop ts none

pub last_none : (ts : List Ticket) → has_stop ts ≡ false → StopsLast ts
last_none [] none = tt
last_none (Stop ∷ ts) none = absurd (true≢false none)
last_none (Goal u n ∷ ts) none = last_none ts none

-- ---- ends of the queue

-- an end that took a ticket more
pub took_still : (h i j : QueueEnd) (t : Ticket) → i ≡ consumer h.number i.taken → Takes i t j → j ≡ consumer h.number j.taken
took_still h i j t was took =
    took ∙ ap (λ (n : ℕ). consumer n (i.taken ++ t ∷ [])) (ap (λ (k : QueueEnd). k.number) was)
    ∙ ap (λ (ts : List Ticket). consumer h.number ts) (sym (ap (λ (k : QueueEnd). k.taken) took))

pub took_taken : (i j : QueueEnd) (t u : Ticket) → t ≡ u → Takes i t j → i.taken ++ u ∷ [] ≡ j.taken
took_taken i j t u same took = sym (ap (λ (k : QueueEnd). k.taken) took ∙ ap (λ (x : Ticket). i.taken ++ x ∷ []) same)
