-- What is put, and what the workers of a round do, one more each time.
use Rattle.std.proofs.Common.{◌≡◌, ℕ, ◌+◌, Bool, true, false, true≢false, List, [], ◌∷◌, ◌++◌, refl, sym, ap, ◌∙◌, subst, append_assoc, length-append, arith}
use Rattle.std.specs.Prelude.{◌&&◌, ◌||◌, Option, Result, Ok, Err, IfOk, IfErr, MatchResult}
use Rattle.std.proofs.lemmas.List.{append-nil}
use Rattle.model.specs.declared.refusal.Refusal.{Refusal}
use Rattle.model.specs.Goals.{Running}
use Rattle.events.specs.declared.event.Event.{Event}
use Rattle.events.specs.declared.reply.Reply.{Reply}
use Rattle.atomic_table.specs.Seated.{TableId}
use Rattle.atomic_table.specs.declared.badge.Badge.{Badge}
use Rattle.crossbeam_channel.specs.declared.flavors.array.Key.{Key}
use Rattle.crossbeam_channel.specs.declared.flavors.array.Rows.{Rows}
use Rattle.crossbeam_channel.specs.declared.flavors.array.Doing.{Doing}
use Rattle.crossbeam_channel.specs.Claims.{Pass, view, IsSeatAt}
use Rattle.builder.specs.declared.ticket.Ticket.{Ticket}
use Rattle.builder.specs.declared.ticket.Ticket.TheVariants.{Goal, Stop}
use Rattle.builder.specs.declared.queue.QueueEnd.{QueueEnd}
use Rattle.builder.specs.declared.runner.RunFault.{RunFault}
use Rattle.builder.specs.declared.met.Met.{Met}
use Rattle.builder.specs.declared.tally.Tally.{Tally}
use Rattle.builder.specs.declared.worker.Worker.{Worker}
use Rattle.builder.specs.Queue.{producer, consumer, Puts}
use Rattle.builder.specs.Tickets.{AreGoals, AreStops, has_stop}
use Rattle.builder.specs.Rounds.{IsProducer, PutStops, Shift, backwards, tickets_of, one_stopped, one_met_memory, tally_of, WorksShift, AllWork, Returned, Serves}
use Rattle.builder.specs.Sources.{IsFilling, FedAndStopped}

-- ---- what is put

pub keeps : (v : QueueEnd) → IsProducer v → v.keeps ≡ true
keeps v is = ap (λ (h : QueueEnd). h.keeps) is

pub stops_none : (v : QueueEnd) → IsProducer v → PutStops v v
stops_none v is = record { stops = []; are = tt; put = is ∙ ap (λ (ts : List Ticket). producer ts v.out v.back) (sym (append-nil v.put)) }

stops_push : (ts : List Ticket) → AreStops ts → AreStops (ts ++ Stop ∷ [])
stops_push [] are = (refl, tt)
stops_push (t ∷ ts) are = (are.0, stops_push ts are.1)

next_put : (old v w : QueueEnd) (some : List Ticket) (t : Ticket) → v ≡ producer (old.put ++ some) old.out old.back → Puts v t w
    → w ≡ producer (old.put ++ (some ++ t ∷ [])) old.out old.back
next_put old v w some t was puts =
    puts
    ∙ ap (λ (h : QueueEnd). producer (h.put ++ t ∷ []) h.out h.back) was
    ∙ ap (λ (ts : List Ticket). producer ts old.out old.back) (append_assoc old.put some (t ∷ []))

-- a Stop more, where the queue took it
pub stops_more : {A B : Type 0} (done : Result A B) (old v w : QueueEnd) (E : B → Type 0) → PutStops old v
    → MatchResult done (λ _. Puts v Stop w) (λ back. E back × (w ≡ v)) → PutStops old w
stops_more (Ok u) old v w E h puts = record { stops = h.stops ++ Stop ∷ []; are = stops_push h.stops h.are; put = next_put old v w h.stops Stop h.put puts }
stops_more (Err back) old v w E h puts = record { stops = h.stops; are = h.are; put = puts.1 ∙ h.put }

-- the hand keeps the queue afterwards
pub stops_keeps : (old v : QueueEnd) → PutStops old v → IsProducer v
stops_keeps old v h = h.put ∙ (λ i. producer ((sym (ap (λ (x : QueueEnd). x.put) h.put)) i) ((sym (ap (λ (x : QueueEnd). x.out) h.put)) i) ((sym (ap (λ (x : QueueEnd). x.back) h.put)) i))

-- a queue with a goal more has goals alone
pub goals_push : (ts : List Ticket) (user : List ℕ) (number : ℕ) → AreGoals ts → AreGoals (ts ++ Goal user number ∷ [])
goals_push [] user number are = (tt, tt)
goals_push (t ∷ ts) user number are = (are.0, goals_push ts user number are.1)

-- the queue of a source, in which a ticket more was put, or none
pub filling : {Q M L A T B : Type 0} (table : TableId) (key : Badge (Key Ticket)) (out : ℕ) (ring : Rows (Badge (Key Ticket)) (Doing Ticket QueueEnd) Q M (Key Ticket) L A) (old new : Pass Ticket QueueEnd)
    (user : List ℕ) (number : ℕ) (done : Result T B) (E : B → Type 0) → IsFilling table key out ring old → IsSeatAt ring new
    → MatchResult done (λ _. Puts (view old) (Goal user number) (view new)) (λ back. E back × (view new ≡ view old)) → IsFilling table key out ring new
filling table key out ring old new user number (Ok u) E h seat puts = record {
  seat = seat;
  table_is = seat.0 ∙ sym h.seat.0 ∙ h.table_is;
  key_is = seat.1 ∙ sym h.seat.1 ∙ h.key_is;
  producer_is = puts ∙ (λ i. producer ((sym (ap (λ (v : QueueEnd). v.put) puts)) i) ((ap (λ (v : QueueEnd). v.out) h.producer_is) i) ((ap (λ (v : QueueEnd). v.back) h.producer_is) i));
  goals = subst AreGoals (sym (ap (λ (v : QueueEnd). v.put) puts)) (goals_push (view old).put user number h.goals);
}
filling table key out ring old new user number (Err back) E h seat same = record {
  seat = seat;
  table_is = seat.0 ∙ sym h.seat.0 ∙ h.table_is;
  key_is = seat.1 ∙ sym h.seat.1 ∙ h.key_is;
  producer_is = subst (λ (v : QueueEnd). v ≡ producer v.put out []) (sym same.1) h.producer_is;
  goals = subst (λ (v : QueueEnd). AreGoals v.put) (sym same.1) h.goals;
}

-- what a source gave, and then Stops
pub fed : (gave : List Ticket → Type 0) (tickets : List Ticket) (old between new : QueueEnd) (out : ℕ) → old ≡ producer [] out [] → gave tickets
    → AreGoals tickets → between ≡ producer tickets out [] → PutStops between new → FedAndStopped gave old new
fed gave tickets old between new out empty gives goals is stops = record {
  tickets = tickets;
  gives = gives;
  goals = goals;
  stops = stops.stops;
  are = stops.are;
  put = stops.put
      ∙ ap (λ (v : QueueEnd). producer (v.put ++ stops.stops) v.out v.back) is
      ∙ ap (λ (n : ℕ). producer (tickets ++ stops.stops) n []) (sym (ap (λ (v : QueueEnd). v.out) empty));
}

-- ---- all workers

backwards_push : (tss : List (List Ticket)) (ts : List Ticket) → backwards (tss ++ ts ∷ []) ≡ ts ∷ backwards tss
backwards_push [] ts = refl
backwards_push (x ∷ xs) ts = ap (λ (l : List (List Ticket)). l ++ x ∷ []) (backwards_push xs ts)

tickets_of_push : (ss : List Shift) (s : Shift) → tickets_of (ss ++ s ∷ []) ≡ tickets_of ss ++ s.took ∷ []
tickets_of_push [] s = refl
tickets_of_push (x ∷ ss) s = ap (λ (l : List (List Ticket)). x.took ∷ l) (tickets_of_push ss s)

or_assoc : (a b c : Bool) → ((a || b) || c) ≡ (a || (b || c))
or_assoc true b c = refl
or_assoc false b c = refl

or_false : (a : Bool) → (a || false) ≡ a
or_false true = refl
or_false false = refl

stopped_push : (ss : List Shift) (s : Shift) → one_stopped (ss ++ s ∷ []) ≡ (one_stopped ss || has_stop s.took)
stopped_push [] s = or_false (has_stop s.took)
stopped_push (x ∷ ss) s = ap (λ b. has_stop x.took || b) (stopped_push ss s) ∙ sym (or_assoc (has_stop x.took) (one_stopped ss) (has_stop s.took))

met_push : (ss : List Shift) (s : Shift) → one_met_memory (ss ++ s ∷ []) ≡ (one_met_memory ss || s.met.memory)
met_push [] s = or_false s.met.memory
met_push (x ∷ ss) s = ap (λ b. x.met.memory || b) (met_push ss s) ∙ sym (or_assoc x.met.memory (one_met_memory ss) s.met.memory)

-- what one worker more has come to
tally_push : (took_stop : Bool) (ss : List Shift) (s : Shift) (old new : Tally) → old ≡ tally_of ss → took_stop ≡ has_stop s.took
    → new.whole ≡ (old.whole || took_stop) → new.memory ≡ (old.memory || s.met.memory) → new ≡ tally_of (ss ++ s ∷ [])
tally_push took_stop ss s old new was took whole memory =
    let w : new.whole ≡ one_stopped (ss ++ s ∷ []) = whole ∙ (λ i. (was i).whole || took i) ∙ sym (stopped_push ss s) in
    let m : new.memory ≡ one_met_memory (ss ++ s ∷ []) = memory ∙ ap (λ (t : Tally). t.memory || s.met.memory) was ∙ sym (met_push ss s) in
    λ i. record { whole = w i; memory = m i }

pub if_both : {H B : Type 0} (r : Result H B) (X Y Z : H → Type 0) → IfOk r X → IfOk r Y → ((h : H) → X h → Y h → Z h) → IfOk r Z
if_both (Ok h) X Y Z x y f = f h x y
if_both (Err b) X Y Z x y f = tt

pub pick : {H B : Type 0} (r : Result H B) (b : B) (P : B → Type 0) (K : H → B → Type 0) → IfOk r (λ h. K h b → P b) → IfErr r P
    → MatchResult r (λ h. K h b) (λ x. b ≡ x) → P b
pick (Ok h) b P K f e m = f m
pick (Err x) b P K f e m = subst P (sym m) e

module _ {S Q : Type 0} (called : S → Event → Reply → S → Type 0) (asked : S → List ℕ → ℕ → Result Running Refusal → S → Type 0) (gives : Q → Running → Result (List ℕ) RunFault → Q → Type 0) where
  work_push : (ws : List (Worker S Q)) (ss : List Shift) (vs : List (Worker S Q)) (w : Worker S Q) (s : Shift) (v : Worker S Q)
      → AllWork called asked gives ws ss vs → WorksShift called asked gives w s v
      → AllWork called asked gives (ws ++ w ∷ []) (ss ++ s ∷ []) (vs ++ v ∷ [])
  work_push [] [] [] w s v all works = (works, tt)
  work_push (a ∷ ws) (b ∷ bs) (c ∷ cs) w s v all works = (all.0, work_push ws bs cs w s v all.1 works)
  work_push [] [] (c ∷ cs) w s v all works = absurd all
  work_push [] (b ∷ bs) vs w s v all works = absurd all
  work_push (a ∷ ws) [] vs w s v all works = absurd all
  work_push (a ∷ ws) (b ∷ bs) [] w s v all works = absurd all

  pub serves_none : (gave : List Ticket → Type 0) (left old : List (Worker S Q)) (k k' : QueueEnd) (tally : Tally) → left ≡ []
      → FedAndStopped gave k k' → tally ≡ tally_of [] → Serves called asked gives gave left old old k k' tally
  serves_none gave left old k k' tally none h counts = record {
    tickets = h.tickets;
    gives_them = h.gives;
    goals = h.goals;
    stops = h.stops;
    are = h.are;
    after = [];
    shifts = [];
    done = sym (append-nil old);
    works = subst (λ (ws : List (Worker S Q)). AllWork called asked gives ws [] []) (sym none) tt;
    keeps = h.put;
    counts = counts;
  }

  pub serves_more : (gave : List Ticket → Type 0) (left rest old mid new : List (Worker S Q)) (w v : Worker S Q) (k k1 k2 k3 : QueueEnd) (hand hand' : Pass Ticket QueueEnd) (met : Met) (took_stop : Bool) (inner_tally tally : Tally)
      → left ≡ rest ++ w ∷ [] → k1 ≡ producer k.put (k.out + 1) k.back
      → Serves called asked gives gave rest old mid k1 k2 inner_tally
      → view hand ≡ consumer k.out [] → Returned called asked gives w hand v hand' met took_stop
      → k3 ≡ producer k2.put (view hand').number ((view hand').taken ∷ k2.back) → new ≡ mid ++ v ∷ []
      → tally.whole ≡ (inner_tally.whole || took_stop) → tally.memory ≡ (inner_tally.memory || met.memory)
      → Serves called asked gives gave left old new k k3 tally
  serves_more gave left rest old mid new w v k k1 k2 k3 hand hand' met took_stop inner_tally tally popped out inner is_hand returned back pushed whole memory =
      let shift : Shift = record { took = (view hand').taken; calls = returned.calls; met = met } in
      let number : (view hand').number ≡ k.out = ap (λ (h : QueueEnd). h.number) returned.took ∙ ap (λ (h : QueueEnd). h.number) is_hand in record {
        tickets = inner.tickets;
        gives_them = inner.gives_them;
        goals = inner.goals;
        stops = inner.stops;
        are = inner.are;
        after = inner.after ++ v ∷ [];
        shifts = inner.shifts ++ shift ∷ [];
        done = pushed ∙ ap (λ (l : List (Worker S Q)). l ++ v ∷ []) inner.done ∙ append_assoc old inner.after (v ∷ []);
        works = subst (λ (ws : List (Worker S Q)). AllWork called asked gives ws (inner.shifts ++ shift ∷ []) (inner.after ++ v ∷ [])) (sym popped)
            (work_push rest inner.shifts inner.after w shift v inner.works (record { works = returned.works; last = returned.last }));
        keeps = back
            ∙ ap (λ (h : QueueEnd). producer h.put (view hand').number (shift.took ∷ h.back)) inner.keeps
            ∙ (λ i. producer (inner.tickets ++ inner.stops) (number i) (sym (ap backwards (tickets_of_push inner.shifts shift) ∙ backwards_push (tickets_of inner.shifts) shift.took) i));
        counts = tally_push took_stop inner.shifts shift inner_tally tally inner.counts returned.stop whole memory;
      }
