-- A legal history with one row more.
use Rattle.std.proofs.Common.{◌≡◌, ℕ, false, List, [], ◌∷◌, ◌++◌, ap, subst}
use Rattle.std.proofs.lemmas.List.Elements.{All-push, Contains-append_left}
use Rattle.model.specs.Paths.{NoClash}
use Rattle.model.specs.Worlds.{Setup, nothing}
use Rattle.model.specs.Events.{Event}
use Rattle.model.specs.WellFormed.{IsWellFormed}
use Rattle.model.specs.Steps.{world_after, answers, reply_to}
use Rattle.model.specs.HashedTexts.{hashed, texts_of_event}
use Rattle.model.specs.Laws.{IsIsolated, IsTimelyIsolated}
use Rattle.laws.proofs.PrivateLemmas.{are_private}
use Rattle.events.specs.Terms.{reply_of}
use Rattle.schedule.proofs.RunLemmas.{good_push}
use Rattle.history.specs.declared.row.Row.{Row}
use Rattle.history.specs.Histories.{event_in, events_of, answers_of, unrecorded, IsLegal, IsToldAfter}
use Rattle.history.proofs.HistoryLemmas.{answers_push, hashed_push, events_push, rows_push}

-- where no two of some texts clash, no two of the first of them do
pub front_clean : (xs ys : List (List ℕ)) → NoClash (xs ++ ys) → NoClash xs
front_clean xs ys clean x y has_x has_y same = clean x y (Contains-append_left xs ys x has_x) (Contains-append_left xs ys y has_y) same

module _ (setup : Setup) (rows : List Row) (r : Row) where
  -- the texts that the events of rows and one event more hash
  clean_with : NoClash (hashed setup nothing (events_of (rows ++ r ∷ []))) → NoClash (hashed setup nothing (events_of rows ++ event_in r ∷ []))
  clean_with clean = subst (λ (es : List Event). NoClash (hashed setup nothing es)) (events_push rows r) clean

  clean_before : NoClash (hashed setup nothing (events_of rows ++ event_in r ∷ [])) → NoClash (hashed setup nothing (events_of rows))
  clean_before clean =
      front_clean (hashed setup nothing (events_of rows)) (texts_of_event setup (world_after setup nothing (events_of rows)) (event_in r))
      (subst NoClash (hashed_push setup nothing (events_of rows) (event_in r)) clean)

  module _ (legal : IsLegal setup rows) (told : IsToldAfter setup rows (event_in r) (reply_of r.reply)) where
    same_with : NoClash (hashed setup nothing (events_of (rows ++ r ∷ []))) → answers_of (rows ++ r ∷ []) ≡ answers setup nothing (events_of (rows ++ r ∷ []))
    same_with clean =
        let es : List Event = events_of rows in
        rw (rows_push rows r, events_push rows r, answers_push setup nothing es (event_in r), told.same (clean_with clean))
        (ap (λ xs. xs ++ record { actor = r.event.actor; reply = reply_to setup (world_after setup nothing es) (event_in r) } ∷ [])
        (legal.private (clean_before (clean_with clean))).same)

    -- a legal history is so with a row more, whose event is well formed and whose reply is the model's after it
    pub legal_with : IsIsolated → IsTimelyIsolated → IsWellFormed (event_in r).request → unrecorded r.reply ≡ false → IsLegal setup (rows ++ r ∷ [])
    legal_with isolated timed well some = record {
      well_formed = rw (events_push rows r) (All-push (λ (e : Event). IsWellFormed e.request) (events_of rows) (event_in r) legal.well_formed well);
      answered = All-push (λ (one : Row). unrecorded one.reply ≡ false) rows r legal.answered some;
      private = λ clean.
          let now = told.good (clean_with clean) in
          let before = legal.private (clean_before (clean_with clean)) in
          are_private isolated timed setup (events_of (rows ++ r ∷ [])) (answers_of (rows ++ r ∷ [])) (same_with clean)
          (rw (events_push rows r) (good_push setup nothing (events_of rows) (event_in r) before.good now.0 now.1));
    }
