-- Queries as rows of a history: put in where they were read, they leave the history legal.
use Rattle.std.proofs.Common.{◌≡◌, ℕ, true, false, List, [], ◌∷◌, ◌++◌, refl, sym, ap, ◌∙◌, subst}
use Rattle.std.specs.Prelude.{All, Contains}
use Rattle.std.proofs.lemmas.List.{same_from_push}
use Rattle.std.proofs.lemmas.List.Elements.{All-contains, All-append, All-weaker, All-contains_itself, Contains-append_left, Contains-append_right, Contains-push}
use Rattle.model.specs.Paths.{NoClash}
use Rattle.model.specs.Worlds.{Setup, World, nothing}
use Rattle.model.specs.Events.{is_query, Event}
use Rattle.model.specs.WellFormed.{IsWellFormed, AreWellFormed}
use Rattle.model.specs.Replies.{Answer}
use Rattle.model.specs.Steps.{world_after, after, answers, reply_to}
use Rattle.model.specs.HashedTexts.{hashed, texts_of_event}
use Rattle.model.specs.GivenClosures.{GivesGoodClosure, KeepsGoodClosure, GiveGoodClosures}
use Rattle.laws.proofs.KnowledgeLemmas.{world_after-push}
use Rattle.laws.proofs.QueryLemmas.{no_change}
use Rattle.laws.proofs.StrikeLemmas.{isolated}
use Rattle.laws.proofs.TimedLemmas.{timed}
use Rattle.events.specs.Terms.{reply_of}
use Rattle.history.specs.declared.row.Row.{Row}
use Rattle.history.specs.Histories.{event_in, events_of, answers_of, unrecorded, IsLegal, IsToldAfter}
use Rattle.history.proofs.HistoryLemmas.{answers_push, hashed_push, events_push, rows_push, legal_none}
use Rattle.publishing.proofs.LegalLemmas.{legal_with}
use Rattle.publishing.proofs.FollowLemmas.{good_last}

-- where no two of some texts clash, no two of texts among them do
clean_among : (xs ys : List (List ℕ)) → All (Contains ys) xs → NoClash ys → NoClash xs
clean_among xs ys inside clean x y has_x has_y same =
    clean x y (All-contains (Contains ys) xs x inside has_x) (All-contains (Contains ys) xs y inside has_y) same

-- texts that are among others still are with more texts behind both
more_among : (xs ys own : List (List ℕ)) → All (Contains ys) xs → All (Contains (ys ++ own)) (xs ++ own)
more_among xs ys own inside =
    All-append (Contains (ys ++ own)) xs own
    (All-weaker (Contains ys) (Contains (ys ++ own)) (λ x has. Contains-append_left ys own x has) xs inside)
    (All-weaker (Contains own) (Contains (ys ++ own)) (λ x has. Contains-append_right ys own x has) own (All-contains_itself own))

module _ (setup : Setup) where
  -- all rows with queries among them are a legal history; without the queries their events lead to the same desks, and hash no other texts
  pub record WithReads (rows all : List Row) : Type 0 where
    pub legal : IsLegal setup all
    pub world : world_after setup nothing (events_of all) ≡ world_after setup nothing (events_of rows)
    pub texts : All (Contains (hashed setup nothing (events_of all))) (hashed setup nothing (events_of rows))

  pub no_reads : WithReads [] []
  no_reads = record { legal = legal_none setup; world = refl; texts = All-contains_itself (hashed setup nothing (events_of [])) }

  -- the last row of a legal history tells what the model does
  module _ (rows : List Row) (r : Row) (legal : IsLegal setup (rows ++ r ∷ [])) where
    abbrev events_with : List Event
    events_with = events_of rows ++ event_in r ∷ []

    last_well_formed : IsWellFormed (event_in r).request
    last_well_formed =
        All-contains (λ (e : Event). IsWellFormed e.request) (events_of rows ++ event_in r ∷ []) (event_in r)
        (subst AreWellFormed (events_push rows r) legal.well_formed) (Contains-push (events_of rows) (event_in r))

    last_told : IsToldAfter setup rows (event_in r) (reply_of r.reply)
    last_told = record {
      same = λ clean.
          let told : Answer = record { actor = r.event.actor; reply = reply_to setup (world_after setup nothing (events_of rows)) (event_in r) } in
          let all : answers_of rows ++ record { actor = r.event.actor; reply = reply_of r.reply } ∷ [] ≡ answers setup nothing (events_of rows) ++ told ∷ [] =
          sym (rows_push rows r)
          ∙ ((legal.private (subst (λ (es : List Event). NoClash (hashed setup nothing es)) (sym (events_push rows r)) clean)).same
          ∙ (ap (answers setup nothing) (events_push rows r) ∙ answers_push setup nothing (events_of rows) (event_in r))) in
          let last = same_from_push (answers_of rows) (answers setup nothing (events_of rows)) _ told all in
          ap (λ (a : Answer). a.reply) last.1;
      good = λ clean.
          good_last setup nothing (events_of rows) (event_in r)
          (subst (λ (es : List Event). GiveGoodClosures setup nothing es) (events_push rows r)
          (legal.private (subst (λ (es : List Event). NoClash (hashed setup nothing es)) (sym (events_push rows r)) clean)).good);
    }

  module _ (rows all : List Row) (r : Row) (before : WithReads rows all) (legal : IsLegal setup (rows ++ r ∷ [])) where
    own_texts : texts_of_event setup (world_after setup nothing (events_of all)) (event_in r)
        ≡ texts_of_event setup (world_after setup nothing (events_of rows)) (event_in r)
    own_texts = ap (λ (w : World). texts_of_event setup w (event_in r)) before.world

    -- the texts with one row more
    texts_with : All (Contains (hashed setup nothing (events_of all ++ event_in r ∷ []))) (hashed setup nothing (events_of rows ++ event_in r ∷ []))
    texts_with =
        rw (hashed_push setup nothing (events_of all) (event_in r), hashed_push setup nothing (events_of rows) (event_in r), own_texts)
        (more_among (hashed setup nothing (events_of rows)) (hashed setup nothing (events_of all))
        (texts_of_event setup (world_after setup nothing (events_of rows)) (event_in r)) before.texts)

    -- what it tells is so behind all rows as well
    told_with : IsToldAfter setup all (event_in r) (reply_of r.reply)
    told_with =
        let told = last_told rows r legal in
        let clean_of =
        clean_among (hashed setup nothing (events_of rows ++ event_in r ∷ [])) (hashed setup nothing (events_of all ++ event_in r ∷ [])) texts_with in
        record {
          same = λ clean. told.same (clean_of clean) ∙ ap (λ (w : World). reply_to setup w (event_in r)) (sym before.world);
          good = λ clean.
              subst (λ (w : World). GivesGoodClosure setup w (event_in r) × KeepsGoodClosure setup w (event_in r)) (sym before.world)
              (told.good (clean_of clean));
        }

    -- so it is legal there
    pub legal_behind : unrecorded r.reply ≡ false → IsLegal setup (all ++ r ∷ [])
    legal_behind some = legal_with setup all r before.legal told_with isolated timed (last_well_formed rows r legal) some

    -- a row that both have
    pub row_more : unrecorded r.reply ≡ false → WithReads (rows ++ r ∷ []) (all ++ r ∷ [])
    row_more some = record {
      legal = legal_behind some;
      world =
          ap (world_after setup nothing) (events_push all r) ∙ (world_after-push setup nothing (events_of all) (event_in r)
          ∙ (ap (λ (w : World). after setup w (event_in r)) before.world
          ∙ sym (ap (world_after setup nothing) (events_push rows r) ∙ world_after-push setup nothing (events_of rows) (event_in r))));
      texts = rw (events_push all r, events_push rows r) texts_with;
    }

    -- a query is a row of all alone
    pub query_more : is_query (event_in r).request ≡ true → unrecorded r.reply ≡ false → WithReads rows (all ++ r ∷ [])
    query_more asks some = record {
      legal = legal_behind some;
      world =
          ap (world_after setup nothing) (events_push all r) ∙ (world_after-push setup nothing (events_of all) (event_in r)
          ∙ (no_change setup (world_after setup nothing (events_of all)) (event_in r) asks ∙ before.world));
      texts =
          rw (events_push all r, hashed_push setup nothing (events_of all) (event_in r))
          (All-weaker (Contains (hashed setup nothing (events_of all)))
          (Contains (hashed setup nothing (events_of all) ++ texts_of_event setup (world_after setup nothing (events_of all)) (event_in r)))
          (λ x has.
          Contains-append_left (hashed setup nothing (events_of all)) (texts_of_event setup (world_after setup nothing (events_of all)) (event_in r)) x has)
          (hashed setup nothing (events_of rows)) before.texts);
    }
