-- Calls of a store, one after another, and tickets that are put in a wait.
use Rattle.std.proofs.Common.{◌≡◌, ◌⊎◌, inl, inr, ℕ, zero, suc, ◌<◌, refl, sym, ◌∙◌, ap, subst, arith, List, [], ◌∷◌, ◌++◌, length}
use Rattle.std.specs.Prelude.{Bool, true, false, get_or}
use Rattle.std.proofs.lemmas.List.{append_assoc, append-nil}
use Rattle.model.specs.Worlds.{Job as GoalId}
use Rattle.events.specs.declared.event.Event.{Event}
use Rattle.events.specs.declared.reply.Reply.{Reply}
use Rattle.builder.specs.Working.{Call}
use Rattle.builder.specs.declared.ticket.Ticket.{Ticket}
use Rattle.teams.specs.Sessions.{ticket_for, IsAmong, AreTicketsFor, PutsFor, Calls}

-- ---- one of some goals

among_behind : (goal other : GoalId) (goals : List GoalId) → IsAmong goals other → IsAmong (goal ∷ goals) other
among_behind goal other goals is = (goal ∷ is.0, is.1, ap (λ gs. goal ∷ gs) is.2)

-- what stands at a place is one of them
pub among_item : (goals : List GoalId) (i : ℕ) (goal : GoalId) → i < length goals → goal ≡ get_or goals i goal → IsAmong goals goal
among_item [] i goal inside here = absurd (omega (arith, inside))
among_item (x ∷ xs) zero goal inside here = ([], xs, ap (λ (g : GoalId). g ∷ xs) (sym here))
among_item (x ∷ xs) (suc i) goal inside here = among_behind x goal xs (among_item xs i goal (omega (arith, inside)) here)

-- ---- chains of calls

module _ {S : Type 0} (called : S → Event → Reply → S → Type 0) (met : S → S → Type 0) where
  pub calls_one : (none : (s : S) → met s s) (a b : S) (event : Event) (reply : Reply)
      → called a event reply b → Calls called met a ((event, reply) ∷ []) b
  calls_one none a b event reply one = (a, b, none a, one, none b)

module _ {S : Type 0} (called : S → Event → Reply → S → Type 0) (met : S → S → Type 0)
    (more : (s t u : S) → met s t → met t u → met s u) where
  pub calls_behind : (a b : S) (calls : List Call) (c : S) → met a b → Calls called met b calls c → Calls called met a calls c
  calls_behind a b [] c one chain = more a b c one chain
  calls_behind a b (x ∷ xs) c one chain = (chain.0, chain.1, more a b chain.0 one chain.2, chain.3, chain.4)

  pub calls_append : (a : S) (first : List Call) (b : S) (next : List Call) (c : S) → Calls called met a first b → Calls called met b next c
      → Calls called met a (first ++ next) c
  calls_append a [] b next c one two = calls_behind a b next c one two
  calls_append a (x ∷ xs) b next c one two = (one.0, one.1, one.2, one.3, calls_append one.1 xs b next c one.4 two)

-- ---- tickets

tickets_append : (goals : List GoalId) (first next : List Ticket) → AreTicketsFor goals first → AreTicketsFor goals next → AreTicketsFor goals (first ++ next)
tickets_append goals [] next are more = more
tickets_append goals (t ∷ ts) next are more = (are.0, tickets_append goals ts next are.1 more)

pub puts_none : (goals : List GoalId) (put : List Ticket) → PutsFor goals put put
puts_none goals put = ([], tt, sym (append-nil put))

-- more were put
pub puts_more : (goals : List GoalId) (a b c : List Ticket) → PutsFor goals a b → PutsFor goals b c → PutsFor goals a c
puts_more goals a b c first next = (
  first.0 ++ next.0,
  tickets_append goals first.0 next.0 first.1 next.1,
  next.2 ∙ ap (λ ts. ts ++ next.0) first.2 ∙ append_assoc a first.0 next.0,
)

-- a ticket more, if it was put
pub puts_one : (goals : List GoalId) (goal : GoalId) (done : Bool) (first old new : List Ticket) → IsAmong goals goal → PutsFor goals first old
    → (done ≡ true → new ≡ old ++ ticket_for goal ∷ []) → (done ≡ false → new ≡ old) → PutsFor goals first new
puts_one goals goal true first old new among puts put none =
    puts_more goals first old new puts (ticket_for goal ∷ [], ((goal, among, refl), tt), put refl)
puts_one goals goal false first old new among puts put none = subst (PutsFor goals first) (sym (none refl)) puts
