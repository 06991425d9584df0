-- One row more in a history.
use Rattle.std.proofs.Common.{Bool, true, false, ◌≡◌, ℕ, List, [], ◌∷◌, ◌++◌, refl, sym, ap, ◌∙◌, append_assoc, append-nil}
use Rattle.std.specs.Prelude.{All}
use Rattle.std.proofs.lemmas.List.{map_push}
use Rattle.std.proofs.lemmas.List.Elements.{All-head, All-tail, All-nil, All-cons}
use Rattle.model.specs.Replies.{is_memory, is_memory_refusal, is_stopped_refusal, Answer}
use Rattle.model.specs.Worlds.{Setup, World}
use Rattle.model.specs.Events.{Event}
use Rattle.model.specs.WellFormed.{IsWellFormed}
use Rattle.model.specs.Steps.{world_after, answers, after, reply_to, replies_to}
use Rattle.model.specs.HashedTexts.{hashed, texts_of_event}
use Rattle.model.specs.GivenClosures.{GiveGoodClosures}
use Rattle.model.specs.Timed.{kept_from}
use Rattle.events.specs.declared.reply.Reply.{Reply}
use Rattle.events.specs.declared.reply.Reply.TheVariants.{Refused}
use Rattle.events.specs.Terms.{reply_of}
use Rattle.history.specs.declared.row.Row.{Row}
use Rattle.history.specs.Histories.{event_in, answer_in, events_of, answers_of, unrecorded, IsLegal}

pub all_front : (P : List ℕ → Type 0) (xs ys : List (List ℕ)) → All P (xs ++ ys) → All P xs
all_front P [] ys h = All-nil P
all_front P (x ∷ xs) ys h = All-cons P x xs (All-head P x (xs ++ ys) h) (all_front P xs ys (All-tail P x (xs ++ ys) h))

-- ---- replies

or_front : (a b : Bool) → Rattle.std.specs.Prelude.◌||◌ a b ≡ false → a ≡ false
or_front true b h = cc
or_front false b h = refl

-- a reply that has a row is no want of memory
pub some_memory : (reply : Reply) → unrecorded reply ≡ false → is_memory (reply_of reply) ≡ false
some_memory (Refused why) h = or_front (is_memory_refusal why) (is_stopped_refusal why) h
some_memory reply h = refl

-- ---- one event more

pub answers_push : (setup : Setup) (w : World) (events : List Event) (e : Event)
    → answers setup w (events ++ e ∷ []) ≡ answers setup w events ++ record { actor = e.actor; reply = reply_to setup (world_after setup w events) e } ∷ []
unfolding world_after answers
answers_push setup w [] e = refl
answers_push setup w (x ∷ events) e = ap (λ (rest : List Answer). record { actor = x.actor; reply = reply_to setup w x } ∷ rest) (answers_push setup (after setup w x) events e)

pub hashed_push : (setup : Setup) (w : World) (events : List Event) (e : Event)
    → hashed setup w (events ++ e ∷ []) ≡ hashed setup w events ++ texts_of_event setup (world_after setup w events) e
unfolding world_after hashed
hashed_push setup w [] e = append-nil (texts_of_event setup w e)
hashed_push setup w (x ∷ events) e =
    ap (λ (rest : List (List ℕ)). texts_of_event setup w x ++ rest) (hashed_push setup (after setup w x) events e)
    ∙ sym (append_assoc (texts_of_event setup w x) (hashed setup (after setup w x) events) (texts_of_event setup (world_after setup (after setup w x) events) e))

-- ---- one row more

pub events_push : (rows : List Row) (r : Row) → events_of (rows ++ r ∷ []) ≡ events_of rows ++ event_in r ∷ []
events_push rows r = map_push event_in rows r

pub rows_push : (rows : List Row) (r : Row) → answers_of (rows ++ r ∷ []) ≡ answers_of rows ++ answer_in r ∷ []
rows_push rows r = map_push answer_in rows r

-- ---- no row

pub legal_none : (setup : Setup) → IsLegal setup []
unfolding answers replies_to kept_from GiveGoodClosures
legal_none setup = record {
  well_formed = All-nil (λ (e : Event). IsWellFormed e.request);
  answered = All-nil (λ (r : Row). unrecorded r.reply ≡ false);
  private = λ _. record { same = refl; isolated = λ u. refl; timed = λ u. refl; good = tt };
}
