-- Sessions that are served, their passes, and what they give.
use Rattle.std.proofs.Common.{Result, Ok, Err, inl, inr, ◌≤◌, ◌≡◌, ℕ, zero, suc, ◌+◌, ◌-◌, ◌<◌, true, false, refl, sym, ◌∙◌, ap, subst, arith, List, [], ◌∷◌, ◌++◌, length, drop, Bool, Option}
use Rattle.std.specs.Prelude.{map, sum, sum_by, get_or, take, min, All, IfOk}
use Rattle.std.proofs.lemmas.List.{length-map, length-append, map-append, append_assoc, append-nil, take_more}
use Rattle.std.proofs.lemmas.List.Elements.{All-head, All-tail, All-nil, All-cons, All-drop, All-take}
use lib.Seq.{drop-append_seam, take-append_seam}
use mathlib.Core.List.{map-map}
use Rattle.std.proofs.lemmas.List.Sums.{sum-map, sum_by-cons, sum_by-append}
use Rattle.std.specs.Global.{Vec}
use Rattle.std.specs.Io.KnownBytes.{prepend_known}
use mathlib.Core.List.{IsPrefix}
use Rattle.model.specs.declared.refusal.Refusal.{Refusal}
use Rattle.model.specs.Worlds.{Setup}
use Rattle.model.specs.Goals.{Running}
use Rattle.history.specs.Callers.{PassKnowledge, new_pass, below, rows_of, stops_of}
use Rattle.book.specs.declared.closed_history.History.{History}
use Rattle.book.specs.Closing.{rows_in}
use Rattle.teams.specs.declared.sessions.ServedSession.{ServedSession}
use Rattle.teams.specs.declared.sessions.Left.{Left}
use Rattle.teams.specs.declared.sessions.SessionOutput.{SessionOutput}
use Rattle.teams.specs.declared.sessions.Part.{Part}
use Rattle.book.specs.Asking.{IsAskedBy}
use Rattle.running.specs.Calling.{IsTold}
use Rattle.running.specs.Meeting.{HasMet, IsNew, is_stopped, stops_by}
use Rattle.teams.specs.Sessions.{Seat, first_seat, Outputs, AllOutputs}
use Rattle.teams.specs.Teams.{AllNew, stops_in}
use Rattle.running.specs.ServedSessions.{AreFirst, first_workers, workers_for, all_workers, IsSessionFor, AreSessionsFor, passes_for, passes_needed, session_passes, passes_left, all_passes, numbers_in, all_numbers, stops_left}
use Rattle.running.specs.Runs.{IsGivenBack, AreOutputs, TeamStands, TeamsStand, AreServed, IsClosed, AreResults, are_accounted}
use Rattle.teams.specs.Asked.{are_asked}
use Rattle.running.specs.declared.runs.Results.{Results}
use Rattle.history.specs.declared.row.Row.{Row}
use Rattle.history.specs.Histories.{IsLegal}
use Rattle.history.proofs.HistoryLemmas.{legal_none}
use Rattle.builder.specs.declared.runner.RunFault.{RunFault}
use Rattle.builder.specs.declared.ticket.Ticket.{Ticket}
use Rattle.builder.specs.declared.worker.Worker.{Worker}
use Rattle.running.proofs.RunLemmas.{output_ran, same_passes, team_stands}

-- ---- passes

below_length : (n : ℕ) → length (below n) ≡ n
below_length zero = refl
below_length (suc n) =
    let b : length (below n) ≡ n = below_length n in
    let e : length (below n) + 1 ≡ suc n = omega (arith, b) in
    length-append (below n) (n ∷ []) ∙ e

-- those that a new front gives are the first
pub new_first : (passes : List PassKnowledge) (n : ℕ) → passes ≡ map new_pass (below n) → (length passes ≡ n) × AreFirst passes
new_first passes n same =
    let long : length passes ≡ n = ap length same ∙ length-map (below n) new_pass ∙ below_length n in
    (long, same ∙ ap (λ k. map new_pass (below k)) (sym long))

-- lists with a last item
last_same : (xs ys : List PassKnowledge) (a b : PassKnowledge) → length xs ≡ length ys → xs ++ a ∷ [] ≡ ys ++ b ∷ [] → (xs ≡ ys) × (a ≡ b)
last_same [] [] a b long same = (refl, ap (λ (l : List PassKnowledge). get_or l 0 a) same)
last_same (x ∷ xs) (y ∷ ys) a b long same =
    let rest = last_same xs ys a b (omega (arith, long)) (ap (drop 1) same) in
    let head : x ≡ y = ap (λ (l : List PassKnowledge). get_or l 0 x) same in
    (ap (λ (l : List PassKnowledge). x ∷ l) rest.0 ∙ ap (λ (k : PassKnowledge). k ∷ ys) head, rest.1)
last_same [] (y ∷ ys) a b long same = absurd (omega (arith, long))
last_same (x ∷ xs) [] a b long same = absurd (omega (arith, long))

-- the last of the first passes, and those before it
pub first_last : (passes rest : List PassKnowledge) (p : PassKnowledge) → passes ≡ rest ++ p ∷ [] → AreFirst passes
    → (length passes ≡ length rest + 1) × (p ≡ new_pass (length rest)) × AreFirst rest
first_last passes rest p split first =
    let n : ℕ = length rest in
    let long : length passes ≡ n + 1 = ap length split ∙ length-append rest (p ∷ []) in
    let all : rest ++ p ∷ [] ≡ map new_pass (below n) ++ new_pass n ∷ [] =
    sym split ∙ first ∙ ap (λ k. map new_pass (below k)) (let e : length passes ≡ suc n = omega (arith, long) in e)
    ∙ map-append new_pass (below n) (n ∷ []) in
    let both = last_same rest (map new_pass (below n)) p (new_pass n) (sym (length-map (below n) new_pass ∙ below_length n)) all in
    (long, both.1, both.0)

-- the first workers have made no call
pub first_new : {Q : Type 0} (least : ℕ) (runners : List Q) → AllNew IsNew (first_workers least runners)
first_new least [] = tt
first_new least (runner ∷ runners) = (refl, first_new least runners)

-- one more such worker, with the pass below theirs
pub workers_more : {Q : Type 0} (least : ℕ) (runners : List Q) (runner : Q)
    → first_workers (least + 1) runners ++ record { store = new_pass least; runner = runner } ∷ [] ≡ first_workers least (runners ++ runner ∷ [])
workers_more {Q = Q} least [] runner =
    let same : least ≡ least + 0 = omega arith in
    ap (λ n. record { store = new_pass n; runner = runner } ∷ []) same
workers_more {Q = Q} least (r ∷ rs) runner =
    let long = length-append rs (runner ∷ []) in
    let same : least + 1 + length rs ≡ least + length (rs ++ runner ∷ []) = omega (arith, long) in
    ap (λ n. record { store = new_pass n; runner = r } ∷ (first_workers (least + 1) rs ++ record { store = new_pass least; runner = runner } ∷ [])) same
    ∙ ap (λ (ws : List (Worker PassKnowledge Q)). record { store = new_pass (least + length (rs ++ runner ∷ [])); runner = r } ∷ ws) (workers_more least rs runner)

pub workers_length : {Q : Type 0} (least : ℕ) (runners : List Q) → length (first_workers least runners) ≡ length runners
workers_length least [] = refl
workers_length least (runner ∷ runners) = let rest = workers_length least runners in omega (arith, rest)

-- there is none
pub first_none : (passes : List PassKnowledge) → passes ≡ [] → AreFirst passes
first_none passes none = rw none refl

-- ---- how many are needed

module _ {I Q : Type 0} where
  needed_push : (parts : List (Part I Q)) (part : Part I Q) → passes_needed (parts ++ part ∷ []) ≡ passes_needed parts + passes_for part
  needed_push [] part = omega arith
  needed_push (p ∷ ps) part = let rest = needed_push ps part in omega (arith, rest)

  -- one file more is counted, up to a greatest number
  pub count_more : (most : ℕ) (parts : List (Part I Q)) (i : ℕ) (part : Part I Q) (len count next total : ℕ) → i < length parts → part ≡ get_or parts i part
      → len ≡ length part.runners.items → count ≡ min (passes_needed (take i parts)) most → next ≡ min (count + len) most → total ≡ min (next + 1) most
      → total ≡ min (passes_needed (take (i + 1) parts)) most
  count_more most parts i part len count next total inside here long counted more one =
      let n : ℕ = passes_needed (take i parts) in
      let all : passes_needed (take (i + 1) parts) ≡ n + passes_for part =
      ap passes_needed (take_more parts i part inside ∙ ap (λ (p : Part I Q). take i parts ++ p ∷ []) (sym here)) ∙ needed_push (take i parts) part in
      omega (arith, all, long, counted, more, one)

  none_needed : (parts : List (Part I Q)) → passes_needed parts ≡ 0 → parts ≡ []
  none_needed [] none = refl
  none_needed (p ∷ ps) none = absurd (omega (arith, none))

  -- where none is counted there is no file
  pub none_counted : (most : ℕ) (parts : List (Part I Q)) → 0 < most → 0 ≡ min (passes_needed parts) most → parts ≡ []
  none_counted most parts some none = none_needed parts (omega (arith, some, none))

-- ---- what was given back

module _ {Q : Type 0} (history : History) where
  -- the passes of the workers of a session were
  pub own_back : (l : Left PassKnowledge Q) (ls : List (Left PassKnowledge Q)) → All (IsGivenBack history) (all_passes (l ∷ ls))
      → All (IsGivenBack history) (map (λ w. w.store) l.workers.items)
  own_back l ls back =
      let own : List PassKnowledge = map (λ w. w.store) l.workers.items in
      subst (All (IsGivenBack history)) (take-append_seam own (all_passes ls))
      (All-take (IsGivenBack history) (length own) (own ++ all_passes ls) (All-tail (IsGivenBack history) l.store (own ++ all_passes ls) back))

  -- and those of the sessions behind it
  pub rest_back : (l : Left PassKnowledge Q) (ls : List (Left PassKnowledge Q)) → All (IsGivenBack history) (all_passes (l ∷ ls))
      → All (IsGivenBack history) (all_passes ls)
  rest_back l ls back =
      let own : List PassKnowledge = map (λ w. w.store) l.workers.items in
      subst (All (IsGivenBack history)) (drop-append_seam own (all_passes ls))
      (All-drop (IsGivenBack history) (length own) (own ++ all_passes ls) (All-tail (IsGivenBack history) l.store (own ++ all_passes ls) back))

-- ---- sessions

module _ {I Q : Type 0} where
  -- so many passes are left behind some files
  abbrev pub left_behind : ℕ → List (Part I Q) → ℕ
  left_behind count [] = count
  left_behind count (part ∷ parts) = left_behind (count - passes_for part) parts

  pub left_push : (count : ℕ) (parts : List (Part I Q)) (part : Part I Q) → left_behind count (parts ++ part ∷ []) ≡ left_behind count parts - passes_for part
  left_push count [] part = refl
  left_push count (p ∷ ps) part = left_push (count - passes_for p) ps part

  pub sessions_push : (count : ℕ) (parts : List (Part I Q)) (part : Part I Q) (served_sessions : List (ServedSession PassKnowledge Q I)) (session : ServedSession PassKnowledge Q I)
      → AreSessionsFor (session_passes count parts) parts served_sessions → IsSessionFor (left_behind count parts - passes_for part) part session
      → AreSessionsFor (session_passes count (parts ++ part ∷ [])) (parts ++ part ∷ []) (served_sessions ++ session ∷ [])
  sessions_push count [] part [] session all one = (one, tt)
  sessions_push count (p ∷ ps) part (d ∷ ds) session all one = (all.0, sessions_push (count - passes_for p) ps part ds session all.1 one)
  sessions_push count [] part (d ∷ ds) session all one = absurd all
  sessions_push count (p ∷ ps) part [] session all one = absurd all

  -- the numbers of their passes
  pub session_numbers : (numbers : List ℕ) (parts : List (Part I Q)) (served_sessions : List (ServedSession PassKnowledge Q I))
      → AreSessionsFor numbers parts served_sessions
      → map (λ (d : ServedSession PassKnowledge Q I). d.store.caller.number) served_sessions ≡ numbers
  session_numbers [] [] [] all = refl
  session_numbers (n ∷ ns) (p ∷ ps) (d ∷ ds) all =
      ap (λ k. k ∷ map (λ (d : ServedSession PassKnowledge Q I). d.store.caller.number) ds) (ap (λ (k : PassKnowledge). k.caller.number) all.0.store)
      ∙ ap (λ ks. n ∷ ks) (session_numbers ns ps ds all.1)
  session_numbers [] [] (d ∷ ds) all = absurd all
  session_numbers [] (p ∷ ps) ds all = absurd all
  session_numbers (n ∷ ns) [] ds all = absurd all
  session_numbers (n ∷ ns) (p ∷ ps) [] all = absurd all

  -- their workers have made no call
  pub sessions_new : (numbers : List ℕ) (parts : List (Part I Q)) (served_sessions : List (ServedSession PassKnowledge Q I))
      → AreSessionsFor numbers parts served_sessions → All (λ (d : ServedSession PassKnowledge Q I). AllNew IsNew d.workers.items) served_sessions
  sessions_new [] [] [] all = All-nil (λ (d : ServedSession PassKnowledge Q I). AllNew IsNew d.workers.items)
  sessions_new (n ∷ ns) (p ∷ ps) (d ∷ ds) all =
      All-cons (λ (d : ServedSession PassKnowledge Q I). AllNew IsNew d.workers.items) d ds
      (subst (AllNew IsNew) (sym all.0.workers) (first_new (n + 1) p.runners.items)) (sessions_new ns ps ds all.1)
  sessions_new [] [] (d ∷ ds) all = absurd all
  sessions_new [] (p ∷ ps) ds all = absurd all
  sessions_new (n ∷ ns) [] ds all = absurd all
  sessions_new (n ∷ ns) (p ∷ ps) [] all = absurd all

  -- ---- what they give

  module _ (setup : Setup) (gives : Q → Running → Result (List ℕ) RunFault → Q → Type 0) (remaining : I → Option (List ℕ)) where
    abbrev AllGave : List (ServedSession PassKnowledge Q I) → List (Left PassKnowledge Q) → Type 0
    AllGave = AllOutputs (IsTold setup) (IsAskedBy setup) gives HasMet is_stopped stops_by remaining

    -- the tickets that the waits of each put
    abbrev pub all_put : (served_sessions : List (ServedSession PassKnowledge Q I)) (lefts : List (Left PassKnowledge Q)) → AllGave served_sessions lefts → List (List Ticket)
    all_put (d ∷ ds) (l ∷ ls) all = all.0.tickets ∷ all_put ds ls all.1
    all_put ds ls all = []

    -- what the sessions of files leave stands in the history of the front to which all passes were given back
    pub outputs_of : (history : History) (numbers : List ℕ) (parts : List (Part I Q)) (served_sessions : List (ServedSession PassKnowledge Q I))
        (lefts : List (Left PassKnowledge Q))
        → AreSessionsFor numbers parts served_sessions → (all : AllGave served_sessions lefts) → All (IsGivenBack history) (all_passes lefts)
        → AreOutputs setup remaining history numbers (map stops_left lefts) (all_put served_sessions lefts all) parts
        (map (λ (l : Left PassKnowledge Q). l.output) lefts)
    outputs_of history [] [] [] [] are all back = tt
    outputs_of history (n ∷ ns) (p ∷ ps) (d ∷ ds) (l ∷ ls) are all back =
        let last : Seat PassKnowledge = record { store = l.store; handed = record { put = all.0.tickets; has_told = l.has_told } } in (
          output_ran setup history n l.store all.0.tickets l.has_told (stops_in stops_by l.workers.items) all.0.clean
              (All-head (IsGivenBack history) l.store (map (λ w. w.store) l.workers.items ++ all_passes ls) back)
              (prepend_known p.bytes.items (remaining p.reader)) l.output.ended l.output.text.items
              (subst (λ (k : PassKnowledge). Outputs (IsTold setup) HasMet is_stopped (first_seat k) last (prepend_known p.bytes.items (remaining p.reader)) l.output)
              are.0.store
              (subst (λ (reader : I). Outputs (IsTold setup) HasMet is_stopped (first_seat d.store) last
              (prepend_known p.bytes.items (remaining reader)) l.output) are.0.reader
              (subst (λ bytes. Outputs (IsTold setup) HasMet is_stopped (first_seat d.store) last
              (prepend_known bytes.items (remaining d.reader)) l.output) are.0.bytes all.0.output))),
          outputs_of history ns ps ds ls are.1 all.1 (rest_back history l ls back),
        )
    outputs_of history [] [] [] (l ∷ ls) are all back = absurd all
    outputs_of history [] [] (d ∷ ds) ls are all back = absurd are
    outputs_of history [] (p ∷ ps) ds ls are all back = absurd are
    outputs_of history (n ∷ ns) [] ds ls are all back = absurd are
    outputs_of history (n ∷ ns) (p ∷ ps) [] ls are all back = absurd are
    outputs_of history (n ∷ ns) (p ∷ ps) (d ∷ ds) [] are all back = absurd all

    -- ---- their workers

    -- each session leaves the workers of its file
    pub numbers_of_all : (numbers : List ℕ) (parts : List (Part I Q)) (served_sessions : List (ServedSession PassKnowledge Q I)) (lefts : List (Left PassKnowledge Q))
        → AreSessionsFor numbers parts served_sessions → AllGave served_sessions lefts → all_numbers lefts ≡ numbers_in (all_workers numbers parts)
    numbers_of_all [] [] [] [] are all = refl
    numbers_of_all (n ∷ ns) (p ∷ ps) (d ∷ ds) (l ∷ ls) are all =
        let firsts : List (Worker PassKnowledge Q) = workers_for n p in
        ap (λ (ms : List ℕ). ms ++ all_numbers ls)
        (same_passes setup gives d.workers.items all.0.round.shifts l.workers.items all.0.round.works ∙ ap numbers_in are.0.workers)
        ∙ ap (λ (ms : List ℕ). numbers_in firsts ++ ms) (numbers_of_all ns ps ds ls are.1 all.1)
        ∙ sym (map-append (λ (w : Worker PassKnowledge Q). w.store.caller.number) firsts (all_workers ns ps))
    numbers_of_all [] [] [] (l ∷ ls) are all = absurd all
    numbers_of_all [] [] (d ∷ ds) ls are all = absurd are
    numbers_of_all [] (p ∷ ps) ds ls are all = absurd are
    numbers_of_all (n ∷ ns) [] ds ls are all = absurd are
    numbers_of_all (n ∷ ns) (p ∷ ps) [] ls are all = absurd are
    numbers_of_all (n ∷ ns) (p ∷ ps) (d ∷ ds) [] are all = absurd all

    -- and these stand in the history
    pub teams_of : (history : History) (numbers : List ℕ) (parts : List (Part I Q)) (served_sessions : List (ServedSession PassKnowledge Q I))
        (lefts : List (Left PassKnowledge Q))
        → AreSessionsFor numbers parts served_sessions → (all : AllGave served_sessions lefts) → All (IsGivenBack history) (all_passes lefts)
        → TeamsStand setup gives history numbers (all_put served_sessions lefts all) parts
    teams_of history [] [] [] [] are all back = tt
    teams_of history (n ∷ ns) (p ∷ ps) (d ∷ ds) (l ∷ ls) are all back = (
      subst (TeamStands setup gives history all.0.tickets) are.0.workers
          (team_stands setup gives history all.0.tickets d.workers.items l.workers.items all.0.is_whole all.0.has_met_memory (own_back history l ls back)
          (subst (AllNew IsNew) (sym are.0.workers) (first_new (n + 1) p.runners.items)) all.0.round),
      teams_of history ns ps ds ls are.1 all.1 (rest_back history l ls back),
    )
    teams_of history [] [] [] (l ∷ ls) are all back = absurd all
    teams_of history [] [] (d ∷ ds) ls are all back = absurd are
    teams_of history [] (p ∷ ps) ds ls are all back = absurd are
    teams_of history (n ∷ ns) [] ds ls are all back = absurd are
    teams_of history (n ∷ ns) (p ∷ ps) [] ls are all back = absurd are
    teams_of history (n ∷ ns) (p ∷ ps) (d ∷ ds) [] are all back = absurd all

-- ---- workers

module _ {Q : Type 0} where
  -- so many calls stopped the front in all
  pub stops_all : (lefts : List (Left PassKnowledge Q)) → sum_by stops_left lefts ≡ sum_by stops_by (all_passes lefts)
  stops_all [] = refl
  stops_all (l ∷ ls) =
      let own : List PassKnowledge = map (λ w. w.store) l.workers.items in
      let rest : sum_by stops_left ls ≡ sum_by stops_by (all_passes ls) = stops_all ls in
      let named : sum_by stops_by own ≡ stops_in stops_by l.workers.items =
      sym (sum-map stops_by own) ∙ ap sum (map-map stops_by (λ w. w.store) l.workers.items) ∙ sum-map (λ w. stops_by w.store) l.workers.items in
      let first = sum_by-cons stops_left l ls in
      let both = sum_by-append stops_by own (all_passes ls) in
      let all = sum_by-cons stops_by l.store (own ++ all_passes ls) in
      omega (arith, rest, named, first, both, all)

-- what a front says at its end, of each pass
pub given_back : (history : History) (passes : List PassKnowledge)
    → All (λ (p : PassKnowledge). IsPrefix p.caller.sure (rows_in history)) passes → All (λ (p : PassKnowledge). IsPrefix p.seen (rows_in history)) passes
    → All (λ (p : PassKnowledge). rows_of p.caller.number (rows_in history) ≡ p.caller.calls) passes
    → All (λ (p : PassKnowledge). p.caller.stopped ≡ true → history.stopped ≡ true) passes → All (IsGivenBack history) passes
given_back history passes sure seen each stopped = λ k d inside. record {
  sure = sure k d inside;
  seen = seen k d inside;
  each = each k d inside;
  stopped = stopped k d inside;
}

-- one session more

pub numbers_push : {Q : Type 0} (lefts : List (Left PassKnowledge Q)) (left : Left PassKnowledge Q)
    → all_numbers (lefts ++ left ∷ []) ≡ all_numbers lefts ++ numbers_in left.workers.items
numbers_push [] left = append-nil (numbers_in left.workers.items)
numbers_push (l ∷ ls) left =
    let own : List ℕ = numbers_in l.workers.items in
    ap (λ (ns : List ℕ). own ++ ns) (numbers_push ls left) ∙ sym (append_assoc own (all_numbers ls) (numbers_in left.workers.items))

pub all_push : {Q : Type 0} (lefts : List (Left PassKnowledge Q)) (left : Left PassKnowledge Q)
    → all_passes (lefts ++ left ∷ []) ≡ all_passes lefts ++ passes_left left
all_push [] left = append-nil (passes_left left)
all_push (l ∷ ls) left =
    ap (λ (ps : List PassKnowledge). passes_left l ++ ps) (all_push ls left) ∙ sym (append_assoc (passes_left l) (all_passes ls) (passes_left left))

-- ---- all files

module _ {I Q : Type 0} (setup : Setup) (gives : Q → Running → Result (List ℕ) RunFault → Q → Type 0) (remaining : I → Option (List ℕ)) where
  -- what sessions left by these sessions
  pub all_served : (numbers : List ℕ) (parts : List (Part I Q)) (served_sessions : List (ServedSession PassKnowledge Q I)) (lefts : List (Left PassKnowledge Q))
      (sessions workers : List ℕ) (passes : List PassKnowledge) (outputs : List SessionOutput)
      → AreSessionsFor numbers parts served_sessions
      → AllOutputs (IsTold setup) (IsAskedBy setup) gives HasMet is_stopped stops_by remaining served_sessions lefts
      → sessions ≡ map (λ (d : ServedSession PassKnowledge Q I). d.store.caller.number) served_sessions → workers ≡ all_numbers lefts
      → passes ≡ all_passes lefts
      → outputs ≡ map (λ (l : Left PassKnowledge Q). l.output) lefts → AreServed setup gives remaining numbers parts sessions workers passes outputs
  all_served numbers parts served_sessions lefts sessions workers passes outputs are all named numbered back gave = record {
    named = named ∙ session_numbers numbers parts served_sessions are;
    stops = map stops_left lefts;
    all = sum-map stops_left lefts ∙ stops_all lefts ∙ ap (sum_by stops_by) (sym back);
    tickets = all_put setup gives remaining served_sessions lefts all;
    outputs_are = λ history given.
        subst (λ (os : List SessionOutput). AreOutputs setup remaining history numbers (map stops_left lefts) (all_put setup gives remaining served_sessions lefts all) parts os)
        (sym gave)
        (outputs_of setup gives remaining history numbers parts served_sessions lefts are all (subst (All (IsGivenBack history)) back given));
    workers_are = numbered ∙ numbers_of_all setup gives remaining numbers parts served_sessions lefts are all;
    teams_are = λ history given.
        teams_of setup gives remaining history numbers parts served_sessions lefts are all (subst (All (IsGivenBack history)) back given);
  }

  -- and what came of them where the front was closed with all that they needed
  pub results_of : (parts : List (Part I Q)) (count : ℕ) (sessions workers : List ℕ) (passes : List PassKnowledge) (outputs : Vec SessionOutput) (results : Results)
      → count ≡ passes_needed parts
      → AreServed setup gives remaining (session_passes (passes_needed parts) parts) parts sessions workers passes outputs.items
      → IsClosed setup count sessions workers passes results.history → results.outputs ≡ outputs → AreResults setup gives remaining parts results
  results_of parts count sessions workers passes outputs results needed served closed same =
      let numbers : List ℕ = session_passes (passes_needed parts) parts in
      record {
        legal = closed.legal;
        stops = served.stops;
        tickets = served.tickets;
        outputs =
            subst (λ (os : Vec SessionOutput). AreOutputs setup remaining results.history numbers served.stops served.tickets parts os.items) (sym same)
            (served.outputs_are results.history closed.back);
        stopped = served.all ∙ closed.stopped;
        workers = served.teams_are results.history closed.back;
        others = subst (λ (ns : List ℕ). are_accounted numbers ns (rows_in results.history) ≡ true) served.workers_are
            (subst (λ (ns : List ℕ). are_accounted ns workers (rows_in results.history) ≡ true) served.named closed.others);
        asked = subst (λ (ns : List ℕ). are_asked ns (rows_in results.history) ≡ true) served.named closed.asked;
      }

  pub if_results : (parts : List (Part I Q)) (count : ℕ) (sessions workers : List ℕ) (passes : List PassKnowledge) (outputs : Vec SessionOutput)
      → count ≡ passes_needed parts
      → AreServed setup gives remaining (session_passes (passes_needed parts) parts) parts sessions workers passes outputs.items
      → (r : Result Results Refusal) → IfOk r (λ results. IsClosed setup count sessions workers passes results.history × (results.outputs ≡ outputs))
      → IfOk r (AreResults setup gives remaining parts)
  if_results parts count sessions workers passes outputs needed served (Ok results) closed =
      results_of parts count sessions workers passes outputs results needed served closed.0 closed.1
  if_results parts count sessions workers passes outputs needed served (Err why) closed = tt

  -- no file gives no output
  pub no_results : (parts : List (Part I Q)) (results : Results) → parts ≡ [] → results.outputs.items ≡ [] → rows_in results.history ≡ []
      → results.history.stopped ≡ false → AreResults setup gives remaining parts results
  no_results parts results none outputs rows going = record {
    legal = subst (IsLegal setup) (sym rows) (legal_none setup);
    stops = [];
    tickets = [];
    outputs =
        subst (λ (os : List SessionOutput). AreOutputs setup remaining results.history (session_passes (passes_needed parts) parts) [] [] parts os) (sym outputs)
        (subst (λ (ps : List (Part I Q)). AreOutputs setup remaining results.history (session_passes (passes_needed ps) ps) [] [] ps []) (sym none) tt);
    stopped = ap stops_of (sym going);
    workers =
        subst (λ (ps : List (Part I Q)). TeamsStand setup gives results.history (session_passes (passes_needed ps) ps) [] ps) (sym none) tt;
    others =
        subst (λ (rs : List Row). are_accounted (session_passes (passes_needed parts) parts)
        (numbers_in (all_workers (session_passes (passes_needed parts) parts) parts)) rs ≡ true) (sym rows) refl;
    asked = subst (λ (rs : List Row). are_asked (session_passes (passes_needed parts) parts) rs ≡ true) (sym rows) refl;
  }
