-- What the calls of workers come to.
use Rattle.std.proofs.Common.{◌≡◌, ◌⊎◌, inl, inr, ℕ, Bool, true, false, true≢false, List, [], ◌∷◌, ◌++◌, refl, sym, ap, ◌∙◌, subst, arith}
use Rattle.std.specs.Prelude.{◌≢◌, ◌||◌, Option, Some, None, Result, Ok, Err}
use Rattle.std.proofs.lemmas.List.Sums.{sum_by-cons}
use Rattle.model.specs.declared.refusal.Refusal.{Refusal}
use Rattle.model.specs.declared.refusal.Refusal.TheVariants.{Memory, Stopped}
use Rattle.model.specs.Goals.{Running}
use Rattle.model.proofs.BoolLemmas.{either}
use Rattle.events.specs.declared.event.Request.{Request}
use Rattle.events.specs.declared.event.Request.TheVariants.{Plan, Start}
use Rattle.events.specs.declared.event.Event.{Event}
use Rattle.events.specs.declared.reply.Reply.{Reply}
use Rattle.events.specs.declared.reply.Reply.TheVariants.{Refused}
use Rattle.builder.specs.declared.runner.RunFault.{RunFault}
use Rattle.builder.specs.declared.ticket.Ticket.{Ticket}
use Rattle.builder.specs.declared.ticket.Ticket.TheVariants.{Goal, Stop}
use Rattle.builder.specs.declared.met.Met.{Met}
use Rattle.builder.specs.declared.worker.Worker.{Worker}
use Rattle.builder.specs.Rounds.{Shift, AllWork, IsRound, one_met_memory}
use Rattle.builder.specs.Working.{Call, is_planned, leads_own, met_in, met_by, ending, Leaves, CallsThen, Ends, BuildsWhere, Asks, GoesOn, Starts, WorksOn, nothing_met, met_with, DealsWhere, Deals, Works}
use Rattle.builder.proofs.AlongLemmas.{works_along}
use Rattle.teams.specs.Teams.{AllNew, stops_in}
use Rattle.teams.specs.Sessions.{Calls}
use Rattle.teams.proofs.WaitLemmas.{calls_one, calls_append}

-- ---- what is 90

-- whether it is that
abbrev is_memory : Option Refusal → Bool
is_memory (Some Memory) = true
is_memory met = false

or_true : (b : Bool) → true ≡ (b || true)
or_true true = refl
or_true false = refl

or_false : (b : Bool) → b ≡ (b || false)
or_false true = refl
or_false false = refl

memory_with : (met : Met) (why : Option Refusal) → (met_with met why).memory ≡ (met.memory || is_memory why)
memory_with met (Some Memory) = or_true met.memory
memory_with met (Some Stopped) = or_false met.memory
memory_with met (Some why) = or_false met.memory
memory_with met None = or_false met.memory

neither_of : (a b : Bool) → (a || b) ≡ false → (a ≡ false) × (b ≡ false)
neither_of true b is = absurd (true≢false is)
neither_of false b is = (refl, is)

-- ---- the calls of a worker

module _ {S Q : Type 0} (called : S → Event → Reply → S → Type 0) (asked : S → List ℕ → ℕ → Result Running Refusal → S → Type 0)
    (gives : Q → Running → Result (List ℕ) RunFault → Q → Type 0) (met : S → S → Type 0)
    (none : (s : S) → met s s) (more : (s t u : S) → met s t → met t u → met s u)
    (asking : (s t : S) (user : List ℕ) (number : ℕ) (told : Result Running Refusal) → asked s user number told t → met s t) where
  -- they stand one after another; between them it met others, or none
  pub works_chain : (ts : List Ticket) (m : Met) (calls : List Call) (w : Worker S Q) (m' : Met) (w' : Worker S Q)
      → Works called asked gives ts m calls w m' w' → Calls called met w.store calls w'.store
  works_chain =
      works_along called asked gives (λ cs s t. Calls called met s cs t) none (λ event reply s t call. calls_one called met none s t event reply call)
      (λ user number answer s t asks. asking s t user number answer asks)
      (λ first rest s t u one two. calls_append called met more s first t rest u one two)

-- ---- workers whose stores have made no call

pub new_clean : {S Q : Type 0} (is_new : S → Type 0) (stops : S → ℕ) → ((s : S) → is_new s → stops s ≡ 0)
    → (ws : List (Worker S Q)) → AllNew is_new ws → stops_in stops ws ≡ 0
new_clean is_new stops by_new [] new = refl
new_clean {S = S} {Q = Q} is_new stops by_new (w ∷ ws) new =
    let all = sum_by-cons (λ (u : Worker S Q). stops u.store) w ws in
    let one = by_new w.store new.0 in
    let rest = new_clean is_new stops by_new ws new.1 in
    omega (arith, all, one, rest)

-- ---- calls that were answered 90

-- none was
abbrev NoMemory : List Call → Type 0
NoMemory [] = Unit {0}
NoMemory (c ∷ cs) = (c.1 ≢ Refused Memory) × NoMemory cs

none_first : (cs ds : List Call) → NoMemory (cs ++ ds) → NoMemory cs
none_first [] ds without = tt
none_first (c ∷ cs) ds without = (without.0, none_first cs ds without.1)

none_rest : (cs ds : List Call) → NoMemory (cs ++ ds) → NoMemory ds
none_rest [] ds without = without
none_rest (c ∷ cs) ds without = none_rest cs ds without.1

none_both : (cs ds : List Call) → NoMemory cs → NoMemory ds → NoMemory (cs ++ ds)
none_both [] ds one two = two
none_both (c ∷ cs) ds one two = (one.0, none_both cs ds one.1 two)

-- whoever met something else, or nothing, had none
abbrev Tells : List Call → Option Refusal → Type 0
Tells calls met = is_memory met ≡ false → NoMemory calls

met_90 : (reply : Reply) → reply ≡ Refused Memory → is_memory (met_by reply) ≡ true
met_90 reply is = ap (λ (r : Reply). is_memory (met_by r)) is

-- where more comes after a reply, it is no refusal
planned_none : (reply : Reply) → is_planned reply ≡ true → is_memory (met_by reply) ≡ false
planned_none (Refused why) is = absurd (true≢false (sym is))
planned_none reply is = refl

leads_none : (user : List ℕ) (number : ℕ) (reply : Reply) → leads_own user number reply ≡ true → is_memory (met_by reply) ≡ false
leads_none user number (Refused why) is = absurd (true≢false (sym is))
leads_none user number reply is = refl

module _ {S Q : Type 0} (called : S → Event → Reply → S → Type 0) (asked : S → List ℕ → ℕ → Result Running Refusal → S → Type 0)
    (gives : Q → Running → Result (List ℕ) RunFault → Q → Type 0) where
  module _ (user : List ℕ) (number : ℕ) where
    abbrev Part : Type 1
    Part = List Call → S → Q → Option Refusal → S → Q → Type 0

    leaves_tell : (why : Option Refusal) (calls : List Call) (s : S) (q : Q) (met : Option Refusal) (s' : S) (q' : Q)
        → Leaves called asked gives user number why calls s q met s' q' → Tells calls met
    leaves_tell why calls s q met s' q' h without = subst NoMemory (sym h.0) tt

    then_tell : (request : Request) (more : Reply → Part)
        → ((reply : Reply) (calls : List Call) (s : S) (q : Q) (met : Option Refusal) (s' : S) (q' : Q) → more reply calls s q met s' q'
        → Tells calls met × (is_memory (met_by reply) ≡ true → is_memory met ≡ true))
        → (calls : List Call) (s : S) (q : Q) (met : Option Refusal) (s' : S) (q' : Q)
        → CallsThen called asked gives user number request more calls s q met s' q' → Tells calls met
    then_tell request more f [] s q met s' q' h without = tt
    then_tell request more f (c ∷ cs) s q met s' q' h without =
        let both = f c.1 cs h.1 q met s' q' h.3 in ((λ is. true≢false (sym (both.1 (met_90 c.1 is)) ∙ without)), both.0 without)

    goes_tell : (b : Bool) (more : Part) (reply : Reply) → (b ≡ true → is_memory (met_by reply) ≡ false)
        → ((calls : List Call) (s : S) (q : Q) (met : Option Refusal) (s' : S) (q' : Q) → more calls s q met s' q' → Tells calls met)
        → (calls : List Call) (s : S) (q : Q) (met : Option Refusal) (s' : S) (q' : Q)
        → GoesOn called asked gives user number b more (met_by reply) calls s q met s' q'
        → Tells calls met × (is_memory (met_by reply) ≡ true → is_memory met ≡ true)
    goes_tell true more reply none f calls s q met s' q' h = (f calls s q met s' q' h, λ is. absurd (true≢false (sym is ∙ none refl)))
    goes_tell false more reply none f calls s q met s' q' h = (leaves_tell (met_by reply) calls s q met s' q' h, λ is. ap is_memory h.3 ∙ is)

    ends_tell : (e : Option Request) (calls : List Call) (s : S) (met : Option Refusal) (s' : S) → Ends called user e calls s met s' → Tells calls met
    ends_tell e [] s met s' h without = tt
    ends_tell None (c ∷ cs) s met s' h without = absurd h
    ends_tell (Some request) (c ∷ cs) s met s' h without =
        ((λ is. true≢false (sym (ap is_memory h.3 ∙ met_90 c.1 is) ∙ without)), subst NoMemory (sym h.2) tt)

    where_tell : (answer : Result Running Refusal) (calls : List Call) (s : S) (q : Q) (met : Option Refusal) (s' : S) (q' : Q)
        → BuildsWhere called asked gives user number answer calls s q met s' q' → Tells calls met
    where_tell (Ok job) calls s q met s' q' h = ends_tell (ending number h.0) calls s met s' h.2
    where_tell (Err w) calls s q met s' q' h = leaves_tell (met_in w) calls s q met s' q' h

    asks_tell : (calls : List Call) (s : S) (q : Q) (met : Option Refusal) (s' : S) (q' : Q)
        → Asks called asked gives user number calls s q met s' q' → Tells calls met
    asks_tell calls s q met s' q' h = where_tell h.0 calls h.1 q met s' q' h.3

    starts_tell : (calls : List Call) (s : S) (q : Q) (met : Option Refusal) (s' : S) (q' : Q)
        → Starts called asked gives user number calls s q met s' q' → Tells calls met
    starts_tell =
        then_tell (Start number) (λ r. GoesOn called asked gives user number (leads_own user number r) (Asks called asked gives user number) (met_by r))
        (λ r. goes_tell (leads_own user number r) (Asks called asked gives user number) r (leads_none user number r) asks_tell)

    works_on_tell : (calls : List Call) (s : S) (q : Q) (met : Option Refusal) (s' : S) (q' : Q)
        → WorksOn called asked gives user number calls s q met s' q' → Tells calls met
    works_on_tell =
        then_tell (Plan number) (λ r. GoesOn called asked gives user number (is_planned r) (Starts called asked gives user number) (met_by r))
        (λ r. goes_tell (is_planned r) (Starts called asked gives user number) r (planned_none r) starts_tell)

  where_tell_dealt : (b : Bool) (user : List ℕ) (number : ℕ) (m : Met) (calls : List Call) (w : Worker S Q) (m' : Met) (w' : Worker S Q)
      → DealsWhere called asked gives b user number m calls w m' w' → m'.memory ≡ false → NoMemory calls
  where_tell_dealt true user number m calls w m' w' h without = subst NoMemory (sym h.0) tt
  where_tell_dealt false user number m calls w m' w' h without =
      works_on_tell user number calls w.store w.runner h.0 w'.store w'.runner h.1
      (neither_of m.memory (is_memory h.0) (sym (ap (λ (x : Met). x.memory) h.2 ∙ memory_with m h.0) ∙ without)).1

  deals_tell : (t : Ticket) (m : Met) (calls : List Call) (w : Worker S Q) (m' : Met) (w' : Worker S Q)
      → Deals called asked gives t m calls w m' w' → m'.memory ≡ false → NoMemory calls
  deals_tell Stop m calls w m' w' h without = subst NoMemory (sym h.0) tt
  deals_tell (Goal user number) m calls w m' w' h without = where_tell_dealt m.stopped user number m calls w m' w' h without

  -- a worker that has met 90 has still
  where_met : (b : Bool) (user : List ℕ) (number : ℕ) (m : Met) (calls : List Call) (w : Worker S Q) (m' : Met) (w' : Worker S Q)
      → m.memory ≡ true → DealsWhere called asked gives b user number m calls w m' w' → m'.memory ≡ true
  where_met true user number m calls w m' w' is h = ap (λ (x : Met). x.memory) h.2 ∙ is
  where_met false user number m calls w m' w' is h = ap (λ (x : Met). x.memory) h.2 ∙ memory_with m h.0 ∙ ap (λ b. b || is_memory h.0) is

  deals_met : (t : Ticket) (m : Met) (calls : List Call) (w : Worker S Q) (m' : Met) (w' : Worker S Q)
      → m.memory ≡ true → Deals called asked gives t m calls w m' w' → m'.memory ≡ true
  deals_met Stop m calls w m' w' is h = ap (λ (x : Met). x.memory) h.2 ∙ is
  deals_met (Goal user number) m calls w m' w' is h = where_met m.stopped user number m calls w m' w' is h

  works_met : (ts : List Ticket) (m : Met) (calls : List Call) (w : Worker S Q) (m' : Met) (w' : Worker S Q)
      → m.memory ≡ true → Works called asked gives ts m calls w m' w' → m'.memory ≡ true
  works_met [] m calls w m' w' is h = ap (λ (x : Met). x.memory) h.2 ∙ is
  works_met (t ∷ ts) m calls w m' w' is h = works_met ts h.3 h.1 h.2 m' w' (deals_met t m h.0 w h.3 h.2 is h.5) h.6

  works_tell : (ts : List Ticket) (m : Met) (calls : List Call) (w : Worker S Q) (m' : Met) (w' : Worker S Q)
      → Works called asked gives ts m calls w m' w' → m'.memory ≡ false → NoMemory calls
  works_tell [] m calls w m' w' h without = subst NoMemory (sym h.0) tt
  works_tell (t ∷ ts) m calls w m' w' h without = elim (either h.3.memory) [
    | inl has ↦ absurd (true≢false (sym (works_met ts h.3 h.1 h.2 m' w' has h.6) ∙ without))
    | inr other ↦ subst NoMemory (sym h.4)
        (none_both h.0 h.1 (deals_tell t m h.0 w h.3 h.2 h.5 other) (works_tell ts h.3 h.1 h.2 m' w' h.6 without))
  ]

  -- ---- what stopped what they call

  module _ (met : S → S → Type 0) (stops : S → ℕ)
      (asking : (s t : S) (user : List ℕ) (number : ℕ) (told : Result Running Refusal) → asked s user number told t → met s t)
      (by_met : (s t : S) → met s t → stops t ≡ stops s)
      (by_call : (s t : S) (event : Event) (reply : Reply) → called s event reply t → reply ≢ Refused Memory → stops t ≡ stops s) where
    works_keep : (ts : List Ticket) (m : Met) (calls : List Call) (w : Worker S Q) (m' : Met) (w' : Worker S Q)
        → Works called asked gives ts m calls w m' w' → NoMemory calls → stops w'.store ≡ stops w.store
    works_keep =
        works_along called asked gives (λ cs s t. NoMemory cs → stops t ≡ stops s) (λ s without. refl)
        (λ event reply s t call without. by_call s t event reply call without.0)
        (λ user number answer s t asks without. by_met s t (asking s t user number answer asks))
        (λ first rest s t u one two without. two (none_rest first rest without) ∙ one (none_first first rest without))

    -- one by one
    in_turn : (w : Worker S Q) (ws : List (Worker S Q)) (v : Worker S Q) (vs : List (Worker S Q)) → stops v.store ≡ stops w.store
        → stops_in stops vs ≡ stops_in stops ws → stops_in stops (v ∷ vs) ≡ stops_in stops (w ∷ ws)
    in_turn w ws v vs one rest =
        let all = sum_by-cons (λ (u : Worker S Q). stops u.store) v vs in
        let had = sum_by-cons (λ (u : Worker S Q). stops u.store) w ws in
        omega (arith, all, had, one, rest)

    shifts_keep : (ws : List (Worker S Q)) (shifts : List Shift) (vs : List (Worker S Q)) → AllWork called asked gives ws shifts vs
        → one_met_memory shifts ≡ false → stops_in stops vs ≡ stops_in stops ws
    shifts_keep [] [] [] all without = refl
    shifts_keep (w ∷ ws) (s ∷ ss) (v ∷ vs) all without =
        let both = neither_of s.met.memory (one_met_memory ss) without in
        let one : stops v.store ≡ stops w.store =
        works_keep s.took nothing_met s.calls w s.met v all.0.works (works_tell s.took nothing_met s.calls w s.met v all.0.works both.0) in
        let rest : stops_in stops vs ≡ stops_in stops ws = shifts_keep ws ss vs all.1 both.1 in
        in_turn w ws v vs one rest
    shifts_keep [] [] (v ∷ vs) all without = absurd all
    shifts_keep [] (s ∷ ss) vs all without = absurd all
    shifts_keep (w ∷ ws) [] vs all without = absurd all
    shifts_keep (w ∷ ws) (s ∷ ss) [] all without = absurd all

    -- no call of theirs did that in a round in which none met 90
    pub round_clean : (is_new : S → Type 0) → ((s : S) → is_new s → stops s ≡ 0)
        → (tickets : List Ticket) (ws vs : List (Worker S Q)) (whole memory told : Bool)
        → IsRound called asked gives tickets ws vs whole memory → AllNew is_new ws → (memory ≡ true → told ≡ true) → told ≡ false → stops_in stops vs ≡ 0
    round_clean is_new by_new tickets ws vs whole memory told round new was without = elim (either memory) [
      | inl has ↦ absurd (true≢false (sym (was has) ∙ without))
      | inr none ↦ shifts_keep ws round.shifts vs round.works (sym round.memory ∙ none) ∙ new_clean is_new stops by_new ws new
    ]
