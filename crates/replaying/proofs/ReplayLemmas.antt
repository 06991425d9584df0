-- The events that the one pass of a store is told are one history.
use Rattle.std.proofs.Common.{◌≡◌, Bool, true, false, List, [], ◌∷◌, ◌++◌, map, refl, sym, ap, ◌∙◌, subst, append_assoc}
use Rattle.std.specs.Prelude.{not, ◌||◌, filter, All}
use Rattle.std.specs.List.{list_any}
use Rattle.std.proofs.lemmas.List.{map_push, append-nil}
use Rattle.std.proofs.lemmas.List.Elements.{All-nil, All-cons}
use Rattle.model.specs.Worlds.{Setup}
use Rattle.model.specs.Events.{is_query, Event}
use Rattle.model.specs.Replies.{Reply, is_unrecorded}
use Rattle.model.specs.Talk as talk
use Rattle.model.specs.Talk.{Silent, Names, Refuses, Asks, Waits, asked_in}
use Rattle.session.specs.Serving.{Chain}
use Rattle.history.specs.declared.row.Row.{Row}
use Rattle.history.specs.Histories.{event_in, unrecorded, IsLegal}
use Rattle.replaying.specs.OnlyPass.{Only, unasked, lacks_memory, says_stopped, history_after, IsOnlyAnswer}
use Rattle.replaying.specs.Replaying.{pair_of, AreOfOneStore, LinksOnly}
use Rattle.replaying.proofs.ReadRowLemmas.{WithReads, no_reads, row_more, query_more}

-- ---- those that are recorded

abbrev recorded : List (Event × Reply) → List (Event × Reply)
recorded pairs = filter (λ p. not (is_unrecorded p.1)) pairs

left_out : (p : Event × Reply) (pairs : List (Event × Reply)) → is_unrecorded p.1 ≡ true → recorded (p ∷ pairs) ≡ recorded pairs
left_out p pairs is = rw is refl

kept_in : (p : Event × Reply) (pairs : List (Event × Reply)) → is_unrecorded p.1 ≡ false → recorded (p ∷ pairs) ≡ p ∷ recorded pairs
kept_in p pairs is = rw is refl

-- an event is told 90 or 92, unless it is a query
abbrev IsLost : Event × Reply → Type 0
IsLost p = is_query p.0.request ≡ false → is_unrecorded p.1 ≡ true

either_of : (a b c : Bool) → ((a || b) || c) ≡ true → (a || (b || c)) ≡ true
either_of true b c h = refl
either_of false b c h = h

module _ (setup : Setup) where
  -- each of some events was told its reply, one after another
  abbrev IsTold : Only → List (Event × Reply) → Only → Type 0
  IsTold old [] new = new ≡ old
  IsTold old (p ∷ pairs) new = (mid : Only) × IsOnlyAnswer setup old p.0 p.1 mid × IsTold mid pairs new

  -- so were those of lines
  told_of : (old new : Only) (rows : List talk.LineRow) → Chain (LinksOnly setup) old rows new → IsTold old (asked_in rows) new
  told_of old new [] h = h
  told_of old new (Silent ∷ rows) h = subst (λ (o : Only). IsTold o (asked_in rows) new) h.1 (told_of h.0 new rows h.2)
  told_of old new (Names users ∷ rows) h = subst (λ (o : Only). IsTold o (asked_in rows) new) h.1 (told_of h.0 new rows h.2)
  told_of old new (Refuses why ∷ rows) h = subst (λ (o : Only). IsTold o (asked_in rows) new) h.1 (told_of h.0 new rows h.2)
  told_of old new (Waits goals reply ∷ rows) h = subst (λ (o : Only). IsTold o (asked_in rows) new) h.1.0 (told_of h.0 new rows h.2)
  told_of old new (Asks event reply ∷ rows) h = (h.0, h.1, told_of h.0 new rows h.2)

  -- ---- the history

  -- a legal history goes on with the events that were told something
  record GoesOn (all : List Row) (pairs : List (Event × Reply)) : Type 0 where
    history : List Row
    is : map pair_of history ≡ map pair_of all ++ recorded pairs
    legal : IsLegal setup history

  -- the row of an event goes into the history, or is put in beside it
  with_row : (rows all : List Row) (event : Event) (r : Row) (b : Bool) → is_query event.request ≡ b → event_in r ≡ event → unrecorded r.reply ≡ false
      → WithReads setup rows all → IsLegal setup (rows ++ r ∷ []) → WithReads setup (history_after rows event r) (all ++ r ∷ [])
  with_row rows all event r true is of_event some before legal =
      rw is (query_more setup rows all r before legal (ap (λ (e : Event). is_query e.request) of_event ∙ is) some)
  with_row rows all event r false is of_event some before legal = rw is (row_more setup rows all r before legal some)

  one_more : (old mid : Only) (p : Event × Reply) (pairs : List (Event × Reply)) (all : List Row) (b : Bool) → is_unrecorded p.1 ≡ b
      → IsOnlyAnswer setup old p.0 p.1 mid → WithReads setup old.sure all → ((next : List Row) → WithReads setup mid.sure next → GoesOn next pairs)
      → GoesOn all (p ∷ pairs)
  one_more old mid p pairs all true is answer before rest =
      let more = rest all (subst (λ (rows : List Row). WithReads setup rows all) (sym (answer.kept is)) before) in
      record {
        history = more.history;
        is = more.is ∙ ap (λ (t : List (Event × Reply)). map pair_of all ++ t) (sym (left_out p pairs is));
        legal = more.legal;
      }
  one_more old mid p pairs all false is answer before rest =
      let a = answer.row is in
      let r : Row = a.0 in
      let pair : pair_of r ≡ p = λ i. (a.1 i, a.2 i) in
      let next : WithReads setup (history_after old.sure p.0 r) (all ++ r ∷ []) =
      with_row old.sure all p.0 r (is_query p.0.request) refl a.1 (ap is_unrecorded a.2 ∙ is) before a.3 in
      let more = rest (all ++ r ∷ []) (subst (λ (rows : List Row). WithReads setup rows (all ++ r ∷ [])) (sym a.4) next) in
      record {
        history = more.history;
        is = more.is
            ∙ (ap (λ (t : List (Event × Reply)). t ++ recorded pairs) (map_push pair_of all r ∙ ap (λ (q : Event × Reply). map pair_of all ++ q ∷ []) pair)
            ∙ (append_assoc (map pair_of all) (p ∷ []) (recorded pairs) ∙ ap (λ (t : List (Event × Reply)). map pair_of all ++ t) (sym (kept_in p pairs is))));
        legal = more.legal;
      }

  goes_on : (old new : Only) (pairs : List (Event × Reply)) (all : List Row) → IsTold old pairs new → WithReads setup old.sure all → GoesOn all pairs
  goes_on old new [] all h before = record { history = all; is = sym (append-nil (map pair_of all)); legal = before.legal }
  goes_on old new (p ∷ pairs) all h before =
      one_more old h.0 p pairs all (is_unrecorded p.1) refl h.1 before (λ next with. goes_on h.0 new pairs next h.2 with)

  -- ---- that the store is stopped

  -- where it was told, the next events are lost
  lost_then : (old new : Only) (pairs : List (Event × Reply)) → IsTold old pairs new → old.has_stopped ≡ true → All IsLost pairs
  lost_then old new [] h was = All-nil IsLost
  lost_then old new (p ∷ pairs) h was =
      let still = h.1.remains was in
      All-cons IsLost p pairs still.1 (lost_then h.0 new pairs h.2 still.0)

  -- what is so where it is told, if memory may have been refused before these events
  record IsStoppedAfter (lacked : Bool) (before : List (Event × Reply)) (event : Event) (later : List (Event × Reply)) : Type 0 where
    called : is_query event.request ≡ false
    cause : (lacked || list_any (λ p. lacks_memory p.0 p.1) before) ≡ true
    remains : All IsLost later

  stops : (old new : Only) (pairs before later : List (Event × Reply)) (event : Event) (reply : Reply) → IsTold old pairs new
      → pairs ≡ before ++ (event, reply) ∷ later → says_stopped reply ≡ true → IsStoppedAfter old.has_lacked before event later
  stops old new [] [] later event reply h cut says = cc
  stops old new [] (b ∷ before) later event reply h cut says = cc
  stops old new (p ∷ pairs) [] later event reply h cut says =
      let same : p ≡ (event, reply) = cc in
      let rest : pairs ≡ later = cc in
      let now = h.1.stopped (ap (λ (q : Event × Reply). says_stopped q.1) same ∙ says) in
      record {
        called = ap (λ (q : Event × Reply). is_query q.0.request) (sym same) ∙ now.0;
        cause = rw now.1 refl;
        remains = subst (All IsLost) rest (lost_then h.0 new pairs h.2 now.2);
      }
  stops old new (p ∷ pairs) (b ∷ before) later event reply h cut says =
      let same : p ≡ b = cc in
      let rest : pairs ≡ before ++ (event, reply) ∷ later = cc in
      let s = stops h.0 new pairs before later event reply h.2 rest says in
      let lacked : h.0.has_lacked ≡ (old.has_lacked || lacks_memory b.0 b.1) =
      h.1.lacked ∙ ap (λ (q : Event × Reply). old.has_lacked || lacks_memory q.0 q.1) same in
      record {
        called = s.called;
        cause =
            either_of old.has_lacked (lacks_memory b.0 b.1) (list_any (λ p. lacks_memory p.0 p.1) before)
            (subst (λ (x : Bool). (x || list_any (λ p. lacks_memory p.0 p.1) before) ≡ true) lacked s.cause);
        remains = s.remains;
      }

  -- ---- all lines

  -- what the lines were told by the one pass of a store that was asked nothing before
  pub one_store : (old new : Only) (rows : List talk.LineRow) → old ≡ unasked → Chain (LinksOnly setup) old rows new → AreOfOneStore setup rows
  one_store old new rows none h =
      let told : IsTold unasked (asked_in rows) new = subst (λ (o : Only). IsTold o (asked_in rows) new) none (told_of old new rows h) in
      let one = goes_on unasked new (asked_in rows) [] told (no_reads setup) in
      record {
        recorded = record { history = one.history; is = one.is; legal = one.legal };
        stopped = λ before later event reply cut says.
            let s = stops unasked new (asked_in rows) before later event reply told cut says in
            record { called = s.called; cause = s.cause; remains = s.remains };
      }
