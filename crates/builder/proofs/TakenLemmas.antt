-- What was taken in a round.
use Rattle.std.proofs.Common.{◌≡◌, ◌⊎◌, inl, inr, ℕ, zero, suc, ◌+◌, Bool, true, false, true≢false, List, [], ◌∷◌, ◌++◌, length, refl, sym, ap, ◌∙◌, subst, arith}
use Rattle.std.specs.Prelude.{◌==◌, ◌||◌, if◌then◌else◌, Result}
use Rattle.std.proofs.lemmas.List.{append-nil}
use Rattle.model.specs.declared.refusal.Refusal.{Refusal}
use Rattle.model.specs.Goals.{Running}
use Rattle.model.proofs.BoolLemmas.{either}
use Rattle.events.specs.declared.event.Event.{Event}
use Rattle.events.specs.declared.reply.Reply.{Reply}
use Rattle.builder.specs.declared.ticket.Ticket.{Ticket}
use Rattle.builder.specs.declared.ticket.Ticket.TheVariants.{Goal, Stop}
use Rattle.builder.specs.declared.queue.QueueEnd.{QueueEnd}
use Rattle.builder.specs.declared.runner.RunFault.{RunFault}
use Rattle.builder.specs.declared.tally.Tally.{Tally}
use Rattle.builder.specs.declared.worker.Worker.{Worker}
use Rattle.builder.specs.Queue.{producer, Taken, tickets_in, own, owns, AreOf, Told}
use Rattle.builder.specs.Tickets.{goals_in, IsGoal, AreGoals, AreStops, has_stop}
use Rattle.builder.specs.Working.{nothing_met}
use Rattle.builder.specs.Rounds.{Shift, backwards, tickets_of, one_stopped, one_met_memory, AllWork, Serves, IsRound, IsRoundOf}

off : false ≡ true → ⊥
off e = true≢false (sym e)

-- ---- Stops

abbrev is_stop : Ticket → Bool
is_stop Stop = true
is_stop (Goal user number) = false

abbrev head_or : {A : Type 0} → A → List A → A
head_or a [] = a
head_or a (x ∷ xs) = x

abbrev rest_of : {A : Type 0} → List A → List A
rest_of [] = []
rest_of (x ∷ xs) = xs

goals_append : (xs ys : List Ticket) → goals_in (xs ++ ys) ≡ goals_in xs ++ goals_in ys
goals_append [] ys = refl
goals_append (Stop ∷ xs) ys = goals_append xs ys
goals_append (Goal u n ∷ xs) ys = ap (λ l. Goal u n ∷ l) (goals_append xs ys)

goals_stops : (ts : List Ticket) → AreStops ts → goals_in ts ≡ []
goals_stops [] are = refl
goals_stops (Stop ∷ ts) are = goals_stops ts are.1
goals_stops (Goal u n ∷ ts) are = absurd (off (ap is_stop are.0))

goals_self : (ts : List Ticket) → AreGoals ts → goals_in ts ≡ ts
goals_self [] are = refl
goals_self (Stop ∷ ts) are = absurd are.0
goals_self (Goal u n ∷ ts) are = ap (λ l. Goal u n ∷ l) (goals_self ts are.1)

stops_last : (xs ys : List Ticket) → AreStops (xs ++ ys) → AreStops ys
stops_last [] ys are = are
stops_last (x ∷ xs) ys are = stops_last xs ys are.1

-- where a Stop is among the first, all goals are
stops_left : (a items g s : List Ticket) → a ++ items ≡ g ++ s → AreGoals g → AreStops s → has_stop a ≡ true → goals_in items ≡ []
stops_left [] items g s e goals stops has = absurd (off has)
stops_left (x ∷ a) items [] s e goals stops has = goals_stops items (stops_last (x ∷ a) items (subst (λ (l : List Ticket). AreStops l) (sym e) stops))
stops_left (Stop ∷ a) items (y ∷ g) s e goals stops has = absurd (subst (λ (t : Ticket). IsGoal t) (sym (ap (head_or Stop) e)) goals.0)
stops_left (Goal u n ∷ a) items (y ∷ g) s e goals stops has = stops_left a items g s (ap rest_of e) goals.1 stops has

own_step : (k : ℕ) (es : List Taken) (t : Ticket) (b : Bool) → (has_stop (own k es) ≡ true → has_stop (tickets_in es) ≡ true)
    → has_stop (if b then t ∷ own k es else own k es) ≡ true → has_stop (t ∷ tickets_in es) ≡ true
own_step k es Stop b h e = refl
own_step k es (Goal u n) true h e = h e
own_step k es (Goal u n) false h e = h e

own_has : (log : List Taken) (k : ℕ) → has_stop (own k log) ≡ true → has_stop (tickets_in log) ≡ true
own_has [] k e = e
own_has (x ∷ es) k e = own_step k es x.1 (x.0 == k) (own_has es k) e

-- one of these has a Stop
abbrev OneHas : List (List Ticket) → Type 0
OneHas [] = ⊥
OneHas (ts ∷ tss) = (has_stop ts ≡ true) ⊎ OneHas tss

one_has : (ss : List Shift) → one_stopped ss ≡ true → OneHas (tickets_of ss)
one_has [] e = off e
one_has (s ∷ ss) e = elim (either (has_stop s.took)) [
  | inl has ↦ inl has
  | inr none ↦ inr (one_has ss (sym (ap (λ b. b || one_stopped ss) none) ∙ e))
]

has_behind : (tss : List (List Ticket)) (ts : List Ticket) → OneHas tss → OneHas (tss ++ ts ∷ [])
has_behind [] ts one = absurd one
has_behind (x ∷ xs) ts (inl has) = inl has
has_behind (x ∷ xs) ts (inr one) = inr (has_behind xs ts one)

has_last_of : (tss : List (List Ticket)) (ts : List Ticket) → has_stop ts ≡ true → OneHas (tss ++ ts ∷ [])
has_last_of [] ts has = inl has
has_last_of (x ∷ xs) ts has = inr (has_last_of xs ts has)

has_back : (tss : List (List Ticket)) → OneHas tss → OneHas (backwards tss)
has_back [] one = one
has_back (x ∷ xs) (inl has) = has_last_of (backwards xs) x has
has_back (x ∷ xs) (inr one) = has_behind (backwards xs) x (has_back xs one)

-- so it was taken
owns_has : (k n : ℕ) (log : List Taken) → OneHas (owns k n log) → has_stop (tickets_in log) ≡ true
owns_has k zero log one = absurd one
owns_has k (suc n) log (inl has) = own_has log k has
owns_has k (suc n) log (inr one) = owns_has (suc k) n log one

-- nobody took anything
abbrev AllEmpty : List (List Ticket) → Type 0
AllEmpty [] = Unit {0}
AllEmpty (ts ∷ tss) = (ts ≡ []) × AllEmpty tss

empty_push : (tss : List (List Ticket)) (ts : List Ticket) → AllEmpty tss → ts ≡ [] → AllEmpty (tss ++ ts ∷ [])
empty_push [] ts all none = (none, tt)
empty_push (x ∷ xs) ts all none = (all.0, empty_push xs ts all.1 none)

empty_back : (tss : List (List Ticket)) → AllEmpty tss → AllEmpty (backwards tss)
empty_back [] all = tt
empty_back (x ∷ xs) all = empty_push (backwards xs) x (empty_back xs all.1) all.0

empties : (k : ℕ) (tss : List (List Ticket)) → AllEmpty tss → tss ≡ owns k (length tss) []
empties k [] all = refl
empties k (ts ∷ tss) all = ap (λ (x : List Ticket). x ∷ tss) all.0 ∙ ap (λ (l : List (List Ticket)). [] ∷ l) (empties (suc k) tss all.1)

module _ {S Q : Type 0} (called : S → Event → Reply → S → Type 0) (asked : S → List ℕ → ℕ → Result Running Refusal → S → Type 0) (gives : Q → Running → Result (List ℕ) RunFault → Q → Type 0) where
  pub is_round : (gave : List Ticket → Type 0) (items : List Ticket) (before after : List (Worker S Q)) (k k' : QueueEnd) (tally : Tally)
      → k ≡ producer [] 0 []
      → Serves called asked gives gave before [] after k k' tally → Told k' items → IsRoundOf called asked gives gave before after tally.whole tally.memory
  is_round gave items before after k k' tally new s told =
      let back = backwards (tickets_of s.shifts) in
      let is_back : k'.back ≡ back = ap (λ (h : QueueEnd). h.back) s.keeps in
      let is_out : k'.out ≡ 0 = ap (λ (h : QueueEnd). h.out) s.keeps ∙ ap (λ (h : QueueEnd). h.out) new in
      let is_put : tickets_in told.log ++ items ≡ s.tickets ++ s.stops = sym told.all ∙ ap (λ (h : QueueEnd). h.put) s.keeps in
      let apart : goals_in (tickets_in told.log) ++ goals_in items ≡ s.tickets =
      sym (goals_append (tickets_in told.log) items) ∙ ap goals_in is_put ∙ goals_append s.tickets s.stops
      ∙ ap (λ l. goals_in s.tickets ++ l) (goals_stops s.stops s.are) ∙ append-nil (goals_in s.tickets) ∙ goals_self s.tickets s.goals in
      let came : back ≡ owns 0 (length back) told.log = sym is_back ∙ told.came_back ∙ (λ i. owns (is_out i) (length (is_back i)) told.log) in
      let works : AllWork called asked gives before s.shifts after = subst (λ (l : List (Worker S Q)). AllWork called asked gives before s.shifts l) (sym s.done) s.works in record {
        tickets = s.tickets;
        gives_them = s.gives_them;
        round = record {
          goals = s.goals;
          shifts = s.shifts;
          works = works;
          log = told.log;
          own_of_each = came;
          of_hands = let all_back = ap length is_back in let hands : k'.out + length k'.back ≡ length back = omega (arith, is_out, all_back) in subst (λ (n : ℕ). AreOf n told.log) hands told.of_hands;
          begins = (goals_in items, apart);
          all = λ is.
              let one : OneHas back = has_back (tickets_of s.shifts) (one_has s.shifts (sym (ap (λ (t : Tally). t.whole) s.counts) ∙ is)) in
              let none : goals_in items ≡ [] = stops_left (tickets_in told.log) items s.tickets s.stops is_put s.goals s.are
              (owns_has 0 (length back) told.log (subst OneHas came one)) in
              sym (append-nil (goals_in (tickets_in told.log))) ∙ ap (λ l. goals_in (tickets_in told.log) ++ l) (sym none) ∙ apart;
          whole = ap (λ (t : Tally). t.whole) s.counts;
          memory = ap (λ (t : Tally). t.memory) s.counts;
        };
      }

  -- ---- no round

  -- a worker who took nothing
  abbrev idle : Shift
  idle = record { took = []; calls = []; met = nothing_met }

  abbrev idle_shifts : List (Worker S Q) → List Shift
  idle_shifts [] = []
  idle_shifts (w ∷ ws) = idle ∷ idle_shifts ws

  idle_work : (ws : List (Worker S Q)) → AllWork called asked gives ws (idle_shifts ws) ws
  idle_work [] = tt
  idle_work (w ∷ ws) = (record { works = (refl, refl, refl); last = tt }, idle_work ws)

  idle_stop : (ws : List (Worker S Q)) → one_stopped (idle_shifts ws) ≡ false
  idle_stop [] = refl
  idle_stop (w ∷ ws) = idle_stop ws

  idle_memory : (ws : List (Worker S Q)) → one_met_memory (idle_shifts ws) ≡ false
  idle_memory [] = refl
  idle_memory (w ∷ ws) = idle_memory ws

  idle_took : (ws : List (Worker S Q)) → AllEmpty (tickets_of (idle_shifts ws))
  idle_took [] = tt
  idle_took (w ∷ ws) = (refl, idle_took ws)

  -- workers for whom no round began are as after one in which no ticket was put
  pub no_round : (ws : List (Worker S Q)) → IsRound called asked gives [] ws ws false false
  no_round ws = record {
    goals = tt;
    shifts = idle_shifts ws;
    works = idle_work ws;
    log = [];
    own_of_each = empties 0 (backwards (tickets_of (idle_shifts ws))) (empty_back (tickets_of (idle_shifts ws)) (idle_took ws));
    of_hands = tt;
    begins = ([], refl);
    all = λ _. refl;
    whole = sym (idle_stop ws);
    memory = sym (idle_memory ws);
  }
