-- What a session over a text in memory gives.
use Rattle.std.proofs.Common.{◌≡◌, ◌⊎◌, inl, inr, ap, refl, sym, subst, arith, List, [], ◌∷◌, ◌++◌, length, ℕ, suc, ◌<◌, Option, Some, Result, Ok, Err}
use Rattle.std.specs.Prelude.{Bool, true, false, slice_index_or, OnOk, IfOk, IfErr, MatchResult}
use Rattle.std.specs.Io.KnownBytes.{Consumes, IsAtEnd, prepend_known}
use Rattle.std.proofs.lemmas.Bool.{false≢true}
use Rattle.model.specs.declared.mode.Mode.TheVariants.{Run}
use Rattle.model.specs.declared.refusal.Refusal.{Refusal}
use Rattle.model.specs.declared.refusal.Refusal.TheVariants.{BadUsers, Memory, InputFault, OutputFault}
use Rattle.model.specs.Goals.{Running}
use Rattle.model.specs.Lines.{lines_of}
use Rattle.events.specs.declared.event.Event.{Event}
use Rattle.events.specs.declared.reply.Reply.{Reply}
use Rattle.builder.specs.declared.runner.RunFault.{RunFault}
use Rattle.session.specs.Serving.{Link, Finished, EndedEarly, IsOwn}
use Rattle.session.proofs.RowLemmas.{appends-none, consumes-none, consumes-behind}
use Rattle.teams.specs.declared.sessions.SessionOutput.{SessionOutput}
use Rattle.teams.specs.declared.sessions.ServedSession.{ServedSession}
use Rattle.teams.specs.declared.sessions.Left.{Left}
use Rattle.teams.specs.declared.sessions.SessionEnd.{SessionEnd}
use Rattle.builder.specs.declared.ticket.Ticket.{Ticket}
use Rattle.builder.specs.declared.worker.Worker.{Worker}
use Rattle.builder.specs.declared.rounds.RoundEnd.{RoundEnd}
use Rattle.builder.specs.Rounds.{IsRound, IsRoundOf}
use Rattle.builder.proofs.TakenLemmas.{no_round}
use Rattle.teams.specs.Teams.{stops_in}
use Rattle.std.specs.Global.{Vec}
use Rattle.teams.specs.Sessions.{Seat, Answers, Waits, Served, ServedInPart, Outputs, OutputOf, AllOutputs, AllLeave, IsLeftBy, first_seat, EndsBy, kept_fault}

module _ {S : Type 0} (called : S → Event → Reply → S → Type 0) (met : S → S → Type 0) (stopped : S → Bool) where
  -- no line of users is refused by want of memory
  kept_early : (first last : Seat S) (text input : List ℕ) (at_end : Type 0) (why : Refusal)
      → EndedEarly Run (Link (Answers called) (Waits called met stopped)) first last (Some []) (Some text) input at_end why
      → EndedEarly Run (Link (Answers called) (Waits called met stopped)) first last (Some []) (Some text) input at_end (kept_fault why)
  kept_early first last text input at_end OutputFault e = record {
    rows = e.rows;
    done = e.done;
    cut = e.cut;
    talks = e.talks;
    chain = e.chain;
    count = e.count;
    text = e.text;
    users = λ is. absurd (cc);
    told = λ h. absurd (let is : OutputFault ≡ BadUsers = e.told h in cc);
  }
  kept_early first last text input at_end why e = e

  kept_why : (why : Refusal) → (why ≡ InputFault) ⊎ IsOwn why → EndsBy (kept_fault why)
  kept_why why (inl fault) = inl (ap kept_fault fault)
  kept_why why (inr (inl output)) = inr (inr (ap kept_fault output))
  kept_why why (inr (inr (inl memory))) = inr (inr (ap kept_fault memory))
  kept_why why (inr (inr (inr users))) = inr (inl (ap kept_fault users))

  served : (first last : Seat S) (start end : Option (List ℕ)) (text : List ℕ) (ended kept : Result (Unit {0}) Refusal)
      → OnOk ended ((input : List ℕ) × Consumes start end input × IsAtEnd end
      × Finished Run (Link (Answers called) (Waits called met stopped)) first last (Some []) (Some text) (lines_of input))
      → IfErr ended (λ why. (input : List ℕ) × Consumes start end input
      × EndedEarly Run (Link (Answers called) (Waits called met stopped)) first last (Some []) (Some text) input (IsAtEnd end) why)
      → IfErr ended (λ why. (why ≡ InputFault) ⊎ IsOwn why)
      → MatchResult ended (λ _. kept ≡ Ok tt) (λ why. kept ≡ Err (kept_fault why))
      → MatchResult kept (λ _. Served called met stopped first last start text) (ServedInPart called met stopped first last start text)
  served first last start end text (Ok _) kept ok err by is =
      subst (λ (k : Result (Unit {0}) Refusal). MatchResult k (λ _. Served called met stopped first last start text) (ServedInPart called met stopped first last start text)) (sym is)
      (record { input = ok.0; end = end; read = ok.1; ended = ok.2; done = ok.3 })
  served first last start end text (Err why) kept ok err by is =
      subst (λ (k : Result (Unit {0}) Refusal). MatchResult k (λ _. Served called met stopped first last start text) (ServedInPart called met stopped first last start text)) (sym is)
      (record { input = err.0; end = end; read = err.1; done = kept_early first last text err.0 (IsAtEnd end) why err.2; by = kept_why why by })

  -- what was read, and what was written to
  pub served_lines : (first last : Seat S) (bytes : List ℕ) (start end : Option (List ℕ)) (text : List ℕ) (blank written : Option (List ℕ))
      (ended kept : Result (Unit {0}) Refusal)
      → blank ≡ Some [] → written ≡ Some text
      → OnOk ended ((input : List ℕ) × Consumes start end input × IsAtEnd end
      × Finished Run (Link (Answers called) (Waits called met stopped)) first last blank written (lines_of (bytes ++ input)))
      → IfErr ended (λ why. (input : List ℕ) × Consumes start end input
      × EndedEarly Run (Link (Answers called) (Waits called met stopped)) first last blank written (bytes ++ input) (IsAtEnd end) why)
      → IfErr ended (λ why. (why ≡ InputFault) ⊎ IsOwn why)
      → MatchResult ended (λ _. kept ≡ Ok tt) (λ why. kept ≡ Err (kept_fault why))
      → MatchResult kept (λ _. Served called met stopped first last (prepend_known bytes start) text) (ServedInPart called met stopped first last (prepend_known bytes start) text)
  served_lines first last bytes start end text blank written (Ok u) kept none all ok err by is =
      served first last (prepend_known bytes start) end text (Ok u) kept
      (bytes ++ ok.0, consumes-behind bytes start end ok.0 ok.1, ok.2, (rw (← none, ← all) ok.3)) tt tt is
  served_lines first last bytes start end text blank written (Err why) kept none all ok err by is =
      served first last (prepend_known bytes start) end text (Err why) kept tt
      (bytes ++ err.0, consumes-behind bytes start end err.0 err.1, (rw (← none, ← all) err.2)) by is

  -- no line of it was answered
  pub none_served : (first : Seat S) (start : Option (List ℕ)) (output : SessionOutput) → output.text.items ≡ []
      → output.ended ≡ Err Memory → Outputs called met stopped first first start output
  none_served first start output empty ended = rw (ended, empty) (record {
    input = [];
    end = start;
    read = consumes-none start;
    done = record {
      rows = [];
      done = [];
      cut = λ more end. (lines_of more, refl);
      talks = tt;
      chain = refl;
      count = 0;
      text = appends-none (Some []);
      users = λ is. absurd (cc);
      told = λ h. absurd (false≢true h.0);
    };
    by = inr (inr refl);
  })

-- ---- outputs that threads gave

module _ {S Q I : Type 0} (called : S → Event → Reply → S → Type 0) (asked : S → List ℕ → ℕ → Result Running Refusal → S → Type 0)
    (gives : Q → Running → Result (List ℕ) RunFault → Q → Type 0) (met : S → S → Type 0) (stopped : S → Bool) (stops : S → ℕ)
    (remaining : I → Option (List ℕ)) where
  -- what a session leaves whose lines were served in one round
  pub left_output : (session : ServedSession S Q I) (end : RoundEnd (SessionEnd S) S Q) (r : Result (Left S Q) Refusal) → IfOk r (λ left. IsLeftBy end left)
      → IsRoundOf called asked gives
      (λ tickets. Outputs called met stopped (first_seat session.store) (record { store = end.left.store; handed = record { put = tickets; has_told = end.left.has_told } })
      (prepend_known session.bytes.items (remaining session.reader)) end.left.output)
      session.workers.items end.workers.items end.is_whole end.has_met_memory
      → ((tickets : List Ticket) (told : Bool) → IsRound called asked gives tickets session.workers.items end.workers.items end.is_whole end.has_met_memory
      → (end.has_met_memory ≡ true → told ≡ true) → told ≡ false → stops_in stops end.workers.items ≡ 0)
      → IfOk r (OutputOf called asked gives met stopped stops remaining session)
  left_output session end (Err why) is round clean = tt
  left_output session end (Ok left) is round clean = record {
    tickets = round.tickets;
    output =
        subst (λ (x : S × Bool × SessionOutput). Outputs called met stopped (first_seat session.store)
        (record { store = x.0; handed = record { put = round.tickets; has_told = x.1 } }) (prepend_known session.bytes.items (remaining session.reader)) x.2)
        (λ i. (sym is.store i, sym is.has_told i, sym is.output i)) round.gives_them;
    is_whole = end.is_whole;
    has_met_memory = end.has_met_memory;
    round =
        subst (λ (ws : Vec (Worker S Q)). IsRound called asked gives round.tickets session.workers.items ws.items end.is_whole end.has_met_memory)
        (sym is.workers) round.round;
    clean = λ untold.
        subst (λ (ws : Vec (Worker S Q)). stops_in stops ws.items ≡ 0) (sym is.workers) (clean round.tickets left.has_told round.round is.told untold);
  }

  -- and one that could not begin
  pub idle_output : (session : ServedSession S Q I) (left : Left S Q) → left.store ≡ session.store → left.has_told ≡ false → left.workers ≡ session.workers
      → left.output.text.items ≡ [] → left.output.ended ≡ Err Memory → stops_in stops session.workers.items ≡ 0
      → OutputOf called asked gives met stopped stops remaining session left
  idle_output session left store untold workers empty ended clean = record {
    tickets = [];
    output =
        subst (λ (x : S × Bool). Outputs called met stopped (first_seat session.store) (record { store = x.0; handed = record { put = []; has_told = x.1 } })
        (prepend_known session.bytes.items (remaining session.reader)) left.output) (λ i. (sym store i, sym untold i))
        (none_served called met stopped (first_seat session.store) (prepend_known session.bytes.items (remaining session.reader)) left.output empty ended);
    is_whole = false;
    has_met_memory = false;
    round =
        subst (λ (ws : Vec (Worker S Q)). IsRound called asked gives [] session.workers.items ws.items false false) (sym workers)
        (no_round called asked gives session.workers.items);
    clean = λ _. subst (λ (ws : Vec (Worker S Q)). stops_in stops ws.items ≡ 0) (sym workers) clean;
  }

  -- where each place has what its session leaves, all have
  pub each_output : (served_sessions : List (ServedSession S Q I)) (results : List (Result (Left S Q) Refusal)) (lefts : List (Left S Q))
      → length results ≡ length served_sessions
      → ((i : ℕ) (d : Result (Left S Q) Refusal) → i < length served_sessions
      → (session : ServedSession S Q I) × ((e : ServedSession S Q I) → slice_index_or served_sessions i e ≡ session)
      × IfOk (slice_index_or results i d) (OutputOf called asked gives met stopped stops remaining session))
      → AllLeave results lefts
      → AllOutputs called asked gives met stopped stops remaining served_sessions lefts
  each_output [] [] [] same each leave = tt
  each_output (d ∷ ds) (r ∷ rs) (l ∷ ls) same each leave =
      let first = each 0 r (omega arith) in (
        subst (λ (session : ServedSession S Q I). OutputOf called asked gives met stopped stops remaining session l) (sym (first.1 d))
            (subst (λ (x : Result (Left S Q) Refusal). IfOk x (OutputOf called asked gives met stopped stops remaining first.0)) leave.0 first.2),
        each_output ds rs ls (omega (arith, same)) (λ i e inside. each (suc i) e (omega (arith, inside))) leave.1,
      )
  each_output [] (r ∷ rs) ls same each leave = absurd (omega (arith, same))
  each_output (d ∷ ds) [] ls same each leave = absurd (omega (arith, same))
  each_output [] [] (l ∷ ls) same each leave = absurd leave
  each_output (d ∷ ds) (r ∷ rs) [] same each leave = absurd leave

  pub each_left : (served_sessions : List (ServedSession S Q I)) (results : List (Result (Left S Q) Refusal)) (r : Result (Vec (Left S Q)) Refusal)
      → length results ≡ length served_sessions
      → ((i : ℕ) (d : Result (Left S Q) Refusal) → i < length served_sessions
      → (session : ServedSession S Q I) × ((e : ServedSession S Q I) → slice_index_or served_sessions i e ≡ session)
      × IfOk (slice_index_or results i d) (OutputOf called asked gives met stopped stops remaining session))
      → IfOk r (λ lefts. AllLeave results lefts.items)
      → IfOk r (λ lefts. AllOutputs called asked gives met stopped stops remaining served_sessions lefts.items)
  each_left served_sessions results (Ok lefts) same each leave = each_output served_sessions results lefts.items same each leave
  each_left served_sessions results (Err why) same each leave = tt

-- one more leaves something
pub leave_push : {S Q : Type 0} (results : List (Result (Left S Q) Refusal)) (lefts : List (Left S Q)) (result : Result (Left S Q) Refusal) (left : Left S Q)
    → AllLeave results lefts → result ≡ Ok left → AllLeave (results ++ result ∷ []) (lefts ++ left ∷ [])
leave_push [] [] result left all is = (is, tt)
leave_push (r ∷ rs) (l ∷ ls) result left all is = (all.0, leave_push rs ls result left all.1 is)
leave_push [] (l ∷ ls) result left all is = absurd all
leave_push (r ∷ rs) [] result left all is = absurd all
