-- What a session called and read through its pass, and its workers through theirs, stands in the history of the front.
use Rattle.std.proofs.Common.{◌≡◌, ◌⊎◌, inl, inr, refl, sym, ◌∙◌, ap, subst, arith, Bool, true, false, true≢false, List, [], ◌∷◌, ◌++◌, ℕ, ◌+◌, ◌<◌, Option, Result, Ok, Err}
use Rattle.std.specs.Prelude.{◌||◌, map, All, MatchResult}
use Rattle.std.specs.List.{list_any}
use Rattle.std.proofs.lemmas.List.{append-nil, append_assoc}
use Rattle.std.proofs.lemmas.List.Elements.{All-head, All-tail}
use Rattle.model.specs.declared.refusal.Refusal.{Refusal}
use Rattle.model.specs.declared.refusal.Refusal.TheVariants as why
use Rattle.model.specs.Worlds.{Setup, Job as GoalId}
use Rattle.model.specs.Events as events
use Rattle.model.specs.Events.{is_query}
use Rattle.model.specs.Replies as replies
use Rattle.model.specs.Goals.{Running}
use Rattle.model.specs.Replies.{is_refusal, is_memory_refusal, is_stopped_refusal}
use Rattle.model.specs.Talk as talk
use Rattle.model.proofs.BoolLemmas.{either}
use Rattle.events.specs.declared.event.Event.{Event}
use Rattle.events.specs.declared.reply.Reply.{Reply}
use Rattle.events.specs.declared.reply.Reply.TheVariants.{Refused}
use Rattle.events.specs.Terms.{reply_of}
use Rattle.history.specs.declared.row.Row.{Row}
use Rattle.history.specs.Callers.{PassKnowledge, new_pass, rows_of}
use Rattle.book.specs.declared.closed_history.History.{History}
use Rattle.book.specs.Closing.{rows_in}
use Rattle.builder.specs.declared.runner.RunFault.{RunFault}
use Rattle.builder.specs.declared.worker.Worker.{Worker}
use Rattle.builder.specs.Working.{Call, nothing_met}
use Rattle.builder.specs.declared.ticket.Ticket.{Ticket}
use Rattle.builder.specs.Rounds.{Shift, WorksShift, AllWork, IsRound}
use Rattle.session.specs.Serving.{Link, Chain}
use Rattle.book.specs.Asking.{IsAskedBy}
use Rattle.running.specs.Calling.{IsTold, Stand, is_read}
use Rattle.running.specs.Meeting.{HasMet, IsNew, is_stopped, met_none, met_more, met_asking, stopped_told, stops_by}
use Rattle.teams.specs.Sessions as teams
use Rattle.teams.specs.Sessions.{Answers, Waits, Calls, Served, ServedInPart, Handed, first_seat}
use Rattle.teams.specs.Teams.{AllNew}
use Rattle.running.specs.ServedSessions.{numbers_in}
use Rattle.running.specs.Runs.{Makes, Puts, is_told, tell, is_read_told_stopped, LinesStand, Ran, RanInPart, WorkerStands, WorkersStand, TeamStands, IsGivenBack}
use Rattle.teams.proofs.WaitLemmas.{calls_behind}
use Rattle.teams.proofs.WorkerLemmas.{works_chain}
use Rattle.running.proofs.ChainLemmas.{own_longer, chain_adds, chain_counts, chain_stopped, chain_order}

-- ---- 90 and 92

told_92 : (told : Reply) → is_refusal is_stopped_refusal (reply_of told) ≡ true → told ≡ Refused why.Stopped
told_92 (Refused w) is = refused w is
  where
    refused : (w : Refusal) → is_stopped_refusal w ≡ true → Refused w ≡ Refused why.Stopped
    refused why.Stopped is = refl
    refused w is = absurd (cc)
told_92 told is = absurd (cc)

reply_92 : (reply : replies.Reply) → is_refusal is_stopped_refusal reply ≡ true → reply ≡ replies.Refused why.Stopped
reply_92 (replies.Refused w) is = refused w is
  where
    refused : (w : Refusal) → is_stopped_refusal w ≡ true → replies.Refused w ≡ replies.Refused why.Stopped
    refused why.Stopped is = refl
    refused w is = absurd (cc)
reply_92 reply is = absurd (cc)

-- one of two
either_of : (a b : Bool) → (a || b) ≡ true → (a ≡ true) ⊎ (b ≡ true)
either_of true b is = inl refl
either_of false b is = inr is

-- none of two
none_of : (a b : Bool) → (a || b) ≡ false → (a ≡ false) × (b ≡ false)
none_of true b is = absurd (true≢false is)
none_of false b is = (refl, is)

module _ (setup : Setup) where
  -- a session: its pass, and what it handed to its workers
  abbrev Seat : Type 0
  Seat = teams.Seat PassKnowledge

  -- a row is a call, or the calls of a wait, or none
  abbrev RowLink : Seat → talk.LineRow → Seat → Type 0
  RowLink = Link (Answers (IsTold setup)) (Waits (IsTold setup) HasMet is_stopped)

  abbrev CallChain : PassKnowledge → List Call → PassKnowledge → Type 0
  CallChain = Calls (IsTold setup) HasMet

  -- ---- the calls of rows

  -- no call more
  behind : (calls : List Call) (old mid new : Seat) → mid ≡ old → CallChain mid.store calls new.store → CallChain old.store calls new.store
  behind calls old mid new same chain = subst (λ (k : Seat). CallChain k.store calls new.store) same chain

  rows_calls : (rows : List talk.LineRow) (old new : Seat) → Chain RowLink old rows new → (calls : List Call) × Makes rows calls × CallChain old.store calls new.store
  rows_calls [] old new same = ([], refl, subst (λ (k : Seat). HasMet old.store k.store) (sym same) (met_none old.store))
  rows_calls (talk.Silent ∷ rows) old new chain =
      let rest = rows_calls rows chain.0 new chain.2 in (rest.0, rest.1, behind rest.0 old chain.0 new chain.1 rest.2)
  rows_calls (talk.Names users ∷ rows) old new chain =
      let rest = rows_calls rows chain.0 new chain.2 in (rest.0, rest.1, behind rest.0 old chain.0 new chain.1 rest.2)
  rows_calls (talk.Refuses w ∷ rows) old new chain =
      let rest = rows_calls rows chain.0 new chain.2 in (rest.0, rest.1, behind rest.0 old chain.0 new chain.1 rest.2)
  rows_calls (talk.Asks event reply ∷ rows) old new chain =
      let call = chain.1 in
      let rest = rows_calls rows chain.0 new chain.2 in (
        (call.0, call.1) ∷ rest.0,
        (call.0, call.1, rest.0, refl, call.2, call.3, rest.1),
        (old.store, chain.0.store, met_none old.store, call.4, rest.2),
      )
  rows_calls (talk.Waits goals reply ∷ rows) old new chain =
      let rest = rows_calls rows chain.0 new chain.2 in
      (rest.0, rest.1, calls_behind (IsTold setup) HasMet met_more old.store chain.0.store rest.0 new.store chain.1.others rest.2)

  -- ---- where the front was stopped

  stays : (rows : List talk.LineRow) (old new : Seat) → Chain RowLink old rows new → is_stopped old.store ≡ true → is_stopped new.store ≡ true
  stays rows old new chain is = let all = rows_calls rows old new chain in chain_stopped setup old.store all.0 new.store all.2 is

  -- a line that was told 92 leaves a pass that knows it
  row_stopped : (row : talk.LineRow) (old new : Seat) → RowLink old row new → is_told is_stopped_refusal row ≡ true → is_stopped new.store ≡ true
  row_stopped talk.Silent old new link is = absurd (cc)
  row_stopped (talk.Names users) old new link is = absurd (cc)
  row_stopped (talk.Refuses w) old new link is = absurd (cc)
  row_stopped (talk.Asks event reply) old new link is =
      let told : link.1 ≡ Refused why.Stopped = told_92 link.1 (ap (is_refusal is_stopped_refusal) link.3 ∙ is) in
      stopped_told setup old.store new.store link.0 (subst (λ (r : Reply). IsTold setup old.store link.0 r new.store) told link.4)
  row_stopped (talk.Waits goals reply) old new link is = link.stop (reply_92 reply is)

  rows_stopped : (rows : List talk.LineRow) (old new : Seat) → Chain RowLink old rows new → tell is_stopped_refusal rows ≡ true → is_stopped new.store ≡ true
  rows_stopped [] old new chain is = absurd (cc)
  rows_stopped (row ∷ rows) old new chain is = elim (either_of (is_told is_stopped_refusal row) (tell is_stopped_refusal rows) is) [
    | inl here ↦ stays rows chain.0 new chain.2 (row_stopped row old chain.0 chain.1 here)
    | inr later ↦ rows_stopped rows chain.0 new chain.2 later
  ]

  -- a line that asks for what is only read is not told so
  row_read : (row : talk.LineRow) (old new : Seat) → RowLink old row new → is_read_told_stopped row ≡ false
  row_read talk.Silent old new link = refl
  row_read (talk.Names users) old new link = refl
  row_read (talk.Refuses w) old new link = refl
  row_read (talk.Waits goals reply) old new link = refl
  row_read (talk.Asks event reply) old new link = elim (either (is_query event.request)) [
    | inr other ↦ rw other refl
    | inl query ↦ elim (either (is_refusal is_stopped_refusal reply)) [
      | inr going ↦ rw (query, going) refl
      | inl is ↦
          let told : link.1 ≡ Refused why.Stopped = told_92 link.1 (ap (is_refusal is_stopped_refusal) link.3 ∙ is) in
          let read : is_read link.0 ≡ true = ap (λ (e : events.Event). is_query e.request) link.2 ∙ query in
          absurd ((link.4.only_read read).1 told)
    ]
  ]

  rows_read : (rows : List talk.LineRow) (old new : Seat) → Chain RowLink old rows new → list_any is_read_told_stopped rows ≡ false
  rows_read [] old new chain = refl
  rows_read (row ∷ rows) old new chain = rw (row_read row old chain.0 chain.1) (rows_read rows chain.0 new chain.2)

  -- ---- what stopped it

  -- nothing more was stopped, and no wait more was told that a worker met 90
  abbrev IsQuiet : Seat → Seat → Type 0
  IsQuiet old new = (stops_by new.store ≡ stops_by old.store) × (new.handed.has_told ≡ true → old.handed.has_told ≡ true)

  quiet_as : (old new : Seat) → new ≡ old → IsQuiet old new
  quiet_as old new same = (ap (λ (k : Seat). stops_by k.store) same, λ is. sym (ap (λ (k : Seat). k.handed.has_told) same) ∙ is)

  quiet_more : (a b c : Seat) → IsQuiet a b → IsQuiet b c → IsQuiet a c
  quiet_more a b c first next = (next.0 ∙ first.0, λ is. first.1 (next.1 is))

  -- a line that was told something else than 90 stopped nothing
  row_quiet : (row : talk.LineRow) (old new : Seat) → RowLink old row new → is_told is_memory_refusal row ≡ false → IsQuiet old new
  row_quiet talk.Silent old new link without = quiet_as old new link
  row_quiet (talk.Names users) old new link without = quiet_as old new link
  row_quiet (talk.Refuses w) old new link without = quiet_as old new link
  row_quiet (talk.Asks event reply) old new link without = (
    link.4.no_stop (λ is. true≢false (sym (ap (λ r. is_refusal is_memory_refusal (reply_of r)) is) ∙ ap (is_refusal is_memory_refusal) link.3 ∙ without)),
    λ is. sym (ap (λ (h : Handed). h.has_told) link.5) ∙ is,
  )
  row_quiet (talk.Waits goals reply) old new link without = (
    link.others.stops,
    λ is. elim (link.told is) [
      | inl was ↦ was
      | inr memory ↦ absurd (true≢false (sym (ap (is_refusal is_memory_refusal) memory) ∙ without))
    ],
  )

  rows_quiet : (rows : List talk.LineRow) (old new : Seat) → Chain RowLink old rows new → tell is_memory_refusal rows ≡ false → IsQuiet old new
  rows_quiet [] old new chain without = quiet_as old new chain
  rows_quiet (row ∷ rows) old new chain without =
      let both = none_of (is_told is_memory_refusal row) (tell is_memory_refusal rows) without in
      quiet_more old chain.0 new (row_quiet row old chain.0 chain.1 both.0) (rows_quiet rows chain.0 new chain.2 both.1)

  -- ---- what their waits put

  rows_put : (rows : List talk.LineRow) (old new : Seat) → Chain RowLink old rows new
      → (tickets : List Ticket) × Puts rows tickets × (new.handed.put ≡ old.handed.put ++ tickets)
  rows_put [] old new same = ([], refl, ap (λ (k : Seat). k.handed.put) same ∙ sym (append-nil old.handed.put))
  rows_put (talk.Silent ∷ rows) old new chain = let rest = rows_put rows chain.0 new chain.2 in (rest.0, rest.1, rest.2 ∙ ap (λ (k : Seat). k.handed.put ++ rest.0) chain.1)
  rows_put (talk.Names users ∷ rows) old new chain = let rest = rows_put rows chain.0 new chain.2 in (rest.0, rest.1, rest.2 ∙ ap (λ (k : Seat). k.handed.put ++ rest.0) chain.1)
  rows_put (talk.Refuses w ∷ rows) old new chain = let rest = rows_put rows chain.0 new chain.2 in (rest.0, rest.1, rest.2 ∙ ap (λ (k : Seat). k.handed.put ++ rest.0) chain.1)
  rows_put (talk.Asks event reply ∷ rows) old new chain = let rest = rows_put rows chain.0 new chain.2 in (rest.0, rest.1, rest.2 ∙ ap (λ (h : Handed). h.put ++ rest.0) chain.1.5)
  rows_put (talk.Waits goals reply ∷ rows) old new chain =
      let own = chain.1.puts in
      let rest = rows_put rows chain.0 new chain.2 in (
        own.0 ++ rest.0,
        (own.0, rest.0, refl, own.1, rest.1),
        rest.2 ∙ ap (λ ts. ts ++ rest.0) own.2 ∙ append_assoc old.handed.put own.0 rest.0,
      )

  -- ---- in the history

  module _ (history : History) (number : ℕ) (last : PassKnowledge) (back : IsGivenBack history last) where
    -- calls from a pass that had made none
    pub calls_stand : (calls : List Call) → CallChain (new_pass number) calls last → Stand setup (rows_in history) number calls
    calls_stand calls chain =
        let rows : List Row = rows_in history in
        let adds = chain_adds setup (new_pass number) calls last chain in
        let counted : rows_of number last.caller.sure ≡ last.caller.calls =
        subst (λ n. rows_of n last.caller.sure ≡ last.caller.calls) adds.number (chain_counts setup (new_pass number) calls last chain refl) in
        let each : rows_of number rows ≡ last.caller.calls = subst (λ n. rows_of n rows ≡ last.caller.calls) adds.number back.each in
        record {
          own = own_longer number last.caller.sure rows back.sure (each ∙ sym counted) ∙ adds.own;
          order = chain_order setup rows number [] (new_pass number) calls last refl ([], refl) back.seen chain;
        }

  module _ (history : History) (number : ℕ) (last : PassKnowledge) (tickets : List Ticket) (told : Bool) (others : ℕ)
      (clean : told ≡ false → others ≡ 0) (back : IsGivenBack history last) where
    -- the session before its first line
    abbrev first : Seat
    first = first_seat (new_pass number)

    -- and behind its last one
    abbrev end : Seat
    end = record { store = last; handed = record { put = tickets; has_told = told } }

    -- so many calls stopped the front
    abbrev all_stops : ℕ
    all_stops = stops_by last + others

    rows_memory : (rows : List talk.LineRow) → Chain RowLink first rows end → 0 < all_stops → tell is_memory_refusal rows ≡ true
    rows_memory rows chain some = elim (either (tell is_memory_refusal rows)) [
      | inl has ↦ has
      | inr without ↦
          let quiet = rows_quiet rows first end chain without in
          let none : others ≡ 0 = elim (either told) [
            | inl is ↦ absurd (true≢false (sym (quiet.1 is)))
            | inr other ↦ clean other
          ] in
          let own : stops_by last ≡ 0 = quiet.0 in
          absurd (omega (arith, some, none, own))
    ]

    lines_stand : (rows : List talk.LineRow) → Chain RowLink first rows end → LinesStand setup history number all_stops tickets rows
    lines_stand rows chain =
        let all = rows_calls rows first end chain in
        let put = rows_put rows first end chain in
        record {
          calls = all.0;
          makes = all.1;
          puts = subst (Puts rows) (sym put.2) put.1;
          stand = calls_stand history number last back all.0 all.2;
          reads = rows_read rows first end chain;
          stopped = λ is. back.stopped (rows_stopped rows first end chain is);
          memory = rows_memory rows chain;
        }

    ran : (start : Option (List ℕ)) (text : List ℕ) → Served (IsTold setup) HasMet is_stopped first end start text
        → Ran setup history number all_stops tickets start text
    ran start text served = record {
      input = served.input;
      end = served.end;
      read = served.read;
      ended = served.ended;
      rows = served.done.rows;
      talks = served.done.talks;
      going = served.done.going;
      text = served.done.text;
      stand = lines_stand served.done.rows served.done.chain;
    }

    ran_in_part : (start : Option (List ℕ)) (text : List ℕ) (w : Refusal)
        → ServedInPart (IsTold setup) HasMet is_stopped first end start text w → RanInPart setup history number all_stops tickets start text w
    ran_in_part start text w served = record {
      input = served.input;
      end = served.end;
      read = served.read;
      rows = served.done.rows;
      done = served.done.done;
      cut = served.done.cut;
      talks = served.done.talks;
      count = served.done.count;
      text = served.done.text;
      users = served.done.users;
      told = served.done.told;
      by = served.by;
      stand = lines_stand served.done.rows served.done.chain;
    }

    pub output_ran : (start : Option (List ℕ)) (ended : Result (Unit {0}) Refusal) (text : List ℕ)
        → MatchResult ended (λ _. Served (IsTold setup) HasMet is_stopped first end start text)
        (ServedInPart (IsTold setup) HasMet is_stopped first end start text)
        → MatchResult ended (λ _. Ran setup history number all_stops tickets start text) (RanInPart setup history number all_stops tickets start text)
    output_ran start (Ok _) text served = ran start text served
    output_ran start (Err w) text served = ran_in_part start text w served

  -- ---- workers

  module _ {Q : Type 0} (gives : Q → Running → Result (List ℕ) RunFault → Q → Type 0) where
    abbrev AllDid : List (Worker PassKnowledge Q) → List Shift → List (Worker PassKnowledge Q) → Type 0
    AllDid = AllWork (IsTold setup) (IsAskedBy setup) gives

    shift_chain : (first : Worker PassKnowledge Q) (shift : Shift) (w : Worker PassKnowledge Q) → WorksShift (IsTold setup) (IsAskedBy setup) gives first shift w
        → CallChain first.store shift.calls w.store
    shift_chain first shift w did =
        works_chain (IsTold setup) (IsAskedBy setup) gives HasMet met_none met_more (met_asking setup) shift.took nothing_met shift.calls first shift.met w did.works

    -- each keeps the pass that he had
    pub same_passes : (firsts : List (Worker PassKnowledge Q)) (shifts : List Shift) (ws : List (Worker PassKnowledge Q)) → AllDid firsts shifts ws
        → numbers_in ws ≡ numbers_in firsts
    same_passes [] [] [] did = refl
    same_passes (f ∷ fs) (s ∷ ss) (w ∷ ws) did =
        ap (λ n. n ∷ numbers_in ws) (chain_adds setup f.store s.calls w.store (shift_chain f s w did.0)).number
        ∙ ap (λ ns. f.store.caller.number ∷ ns) (same_passes fs ss ws did.1)
    same_passes [] [] (w ∷ ws) did = absurd did
    same_passes [] (s ∷ ss) ws did = absurd did
    same_passes (f ∷ fs) [] ws did = absurd did
    same_passes (f ∷ fs) (s ∷ ss) [] did = absurd did

    module _ (history : History) where
      worker_stands : (first : Worker PassKnowledge Q) (shift : Shift) (w : Worker PassKnowledge Q) → IsGivenBack history w.store → IsNew first.store
          → WorksShift (IsTold setup) (IsAskedBy setup) gives first shift w → WorkerStands setup gives history first shift
      worker_stands first shift w back new did = record {
        last = w;
        works = did;
        stand = calls_stand history first.store.caller.number w.store back shift.calls
            (subst (λ (k : PassKnowledge). CallChain k shift.calls w.store) new (shift_chain first shift w did));
        back = back;
      }

      workers_stand : (firsts : List (Worker PassKnowledge Q)) (shifts : List Shift) (ws : List (Worker PassKnowledge Q))
          → All (IsGivenBack history) (map (λ w. w.store) ws) → AllNew IsNew firsts → AllDid firsts shifts ws → WorkersStand setup gives history firsts shifts
      workers_stand [] [] [] back new did = tt
      workers_stand (f ∷ fs) (s ∷ ss) (w ∷ ws) back new did = (
        worker_stands f s w (All-head (IsGivenBack history) w.store (map (λ v. v.store) ws) back) new.0 did.0,
        workers_stand fs ss ws (All-tail (IsGivenBack history) w.store (map (λ v. v.store) ws) back) new.1 did.1,
      )
      workers_stand [] [] (w ∷ ws) back new did = absurd did
      workers_stand [] (s ∷ ss) ws back new did = absurd did
      workers_stand (f ∷ fs) [] ws back new did = absurd did
      workers_stand (f ∷ fs) (s ∷ ss) [] back new did = absurd did

      -- the workers of a session, who worked in one round
      pub team_stands : (tickets : List Ticket) (firsts ws : List (Worker PassKnowledge Q)) (whole memory : Bool)
          → All (IsGivenBack history) (map (λ w. w.store) ws) → AllNew IsNew firsts
          → IsRound (IsTold setup) (IsAskedBy setup) gives tickets firsts ws whole memory → TeamStands setup gives history tickets firsts
      team_stands tickets firsts ws whole memory back new round = record {
        shifts = round.shifts;
        workers = workers_stand firsts round.shifts ws back new round.works;
        log = round.log;
        own_of_each = round.own_of_each;
        of_hands = round.of_hands;
        begins = round.begins;
      }
