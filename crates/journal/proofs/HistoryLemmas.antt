-- Histories that grow.
use Rattle.std.proofs.Common.{◌≡◌, ℕ, Bool, true, false, ◌||◌, List, [], ◌∷◌, ◌++◌, drop, get_or, refl, sym, ◌∙◌, ap, subst, append_assoc}
use Rattle.std.specs.List.{list_any}
use Rattle.std.proofs.lemmas.List.{append-nil}
use Rattle.std.proofs.lemmas.List.Concat.{flat_map-append}
use Rattle.sha2.specs.Sha256.{sha256}
use Rattle.journal.specs.Rows.{row_text, rows_text}
use Rattle.journal.specs.Openings.{IsBroken}
use Rattle.journal.specs.Seals.{header_row, seal_of, seal_row, IsDigest, is_comment, AreEvents, sealed, IsEntry, AreEntries, is_closed, IsBegun, IsHistory}

pub rows_text-both : (rows more : List (List ℕ)) → rows_text (rows ++ more) ≡ rows_text rows ++ rows_text more
rows_text-both rows more = flat_map-append row_text rows more

pub rows_text-more : (rows : List (List ℕ)) (row : List ℕ) → rows_text (rows ++ row ∷ []) ≡ rows_text rows ++ row_text row
rows_text-more rows row = rows_text-both rows (row ∷ []) ∙ ap (λ (l : List ℕ). rows_text rows ++ l) (append-nil (row_text row))

-- ---- entries

pub entries-both : (before rows more : List (List ℕ)) → AreEntries before rows → AreEntries (before ++ rows) more → AreEntries before (rows ++ more)
entries-both before [] more are also = subst (λ (rs : List (List ℕ)). AreEntries rs more) (append-nil before) also
entries-both before (row ∷ rows) more are also = (
  are.0,
  entries-both (before ++ row ∷ []) rows more are.1
      (subst (λ (rs : List (List ℕ)). AreEntries rs more) (sym (append_assoc before (row ∷ []) rows)) also),
)

or_first : (a b : Bool) → (a || b) ≡ false → a ≡ false
or_first false b is = refl
or_first true b is = absurd (cc is)

or_second : (a b : Bool) → (a || b) ≡ false → b ≡ false
or_second false b is = is
or_second true b is = absurd (cc is)

no_seal : (b : Bool) → b ≡ false → b ≡ true → ⊥
no_seal true is not = absurd (cc is)
no_seal false is not = absurd (cc not)

pub event_entry : (text row : List ℕ) → is_comment row ≡ false → IsEntry text row
event_entry text row is = λ yes. absurd (no_seal (is_comment row) is yes)

pub events_entries : (before rows : List (List ℕ)) → AreEvents rows → AreEntries before rows
events_entries before [] are = tt
events_entries before (row ∷ rows) are = (
  event_entry (rows_text before) row (or_first (is_comment row) (list_any is_comment rows) are),
  events_entries (before ++ row ∷ []) rows
      (or_second (is_comment row) (list_any is_comment rows) are),
)

pub closed-both : (closed : Bool) (rows more : List (List ℕ)) → is_closed closed (rows ++ more) ≡ is_closed (is_closed closed rows) more
closed-both closed [] more = refl
closed-both closed (row ∷ rows) more = closed-both (is_comment row) rows more

-- ---- whole histories

-- one row more
pub begun_more : (rows : List (List ℕ)) (row : List ℕ) (closed now : Bool) → IsBegun rows closed → IsEntry (rows_text rows) row → now ≡ is_comment row
    → IsBegun (rows ++ row ∷ []) now
begun_more rows row closed now begun entry is = record {
  settings = begun.settings;
  entries = begun.entries ++ row ∷ [];
  header = ap (λ (rs : List (List ℕ)). rs ++ row ∷ []) begun.header;
  sealed = entries-both (header_row begun.settings ∷ []) begun.entries (row ∷ []) begun.sealed
      (subst (λ (rs : List (List ℕ)). IsEntry (rows_text rs) row) begun.header entry, tt);
  ends = is ∙ sym (closed-both true begun.entries (row ∷ []));
}

-- a group more
pub history_grows : (rows events : List (List ℕ)) (replies : List ℕ) → IsHistory rows → AreEvents events → IsDigest replies
    → IsHistory (rows ++ sealed rows events replies)
history_grows rows events replies history are digest =
    let seal = seal_row (rows_text (rows ++ events)) replies in
    let group : AreEntries rows (sealed rows events replies) = entries-both rows events (seal ∷ []) (events_entries rows events are)
    (λ yes. (replies, digest, refl), tt) in
    record {
      settings = history.settings;
      entries = history.entries ++ sealed rows events replies;
      header = ap (λ (rs : List (List ℕ)). rs ++ sealed rows events replies) history.header;
      sealed = entries-both (header_row history.settings ∷ []) history.entries (sealed rows events replies) history.sealed
          (subst (λ (rs : List (List ℕ)). AreEntries rs (sealed rows events replies)) history.header group);
      ends = sym (closed-both true history.entries (sealed rows events replies) ∙ closed-both (is_closed true history.entries) events (seal ∷ []));
    }

-- a header alone
pub history_begins : (settings : List ℕ) → IsHistory (header_row settings ∷ [])
history_begins settings = record { settings = settings; entries = []; header = refl; sealed = tt; ends = refl }

-- ---- what is written behind a history

module _ (before more added : List (List ℕ)) (piece digest seal row replies : List ℕ) (text : piece ≡ rows_text more) (is_row : row ≡ seal)
    (is_added : added ≡ more ++ row ∷ []) where
  pub sealed_is : digest ≡ sha256 (rows_text before ++ piece) → seal ≡ seal_of digest replies → added ≡ sealed before more replies
  sealed_is is_digest is_seal =
      let is : row ≡ seal_row (rows_text (before ++ more)) replies =
      is_row ∙ is_seal ∙ ap (λ (d : List ℕ). seal_of d replies) (is_digest
      ∙ ap sha256 (ap (λ (l : List ℕ). rows_text before ++ l) text ∙ sym (rows_text-both before more))) in
      is_added ∙ ap (λ (r : List ℕ). more ++ r ∷ []) is

  pub text_is : (rows_text before ++ piece) ++ row_text seal ≡ rows_text (before ++ added)
  text_is =
      ap (λ (l : List ℕ). (rows_text before ++ l) ++ row_text seal) text ∙ ap (λ (l : List ℕ). l ++ row_text seal) (sym (rows_text-both before more))
      ∙ sym (rows_text-more (before ++ more) seal) ∙ ap (λ (r : List ℕ). rows_text ((before ++ more) ++ r ∷ [])) (sym is_row)
      ∙ ap rows_text (append_assoc before more (row ∷ []) ∙ ap (λ (rs : List (List ℕ)). before ++ rs) (sym is_added))

-- ---- a history is not refused

-- the entries behind others
pub entries-behind : (before rows more : List (List ℕ)) → AreEntries before (rows ++ more) → AreEntries (before ++ rows) more
entries-behind before [] more are = subst (λ (rs : List (List ℕ)). AreEntries rs more) (sym (append-nil before)) are
entries-behind before (row ∷ rows) more are = subst (λ (rs : List (List ℕ)). AreEntries rs more) (append_assoc before (row ∷ []) rows)
    (entries-behind (before ++ row ∷ []) rows more are.1)

module _ (before rows : List (List ℕ)) (closed : Bool) (begun : IsBegun before closed) (history : IsHistory (before ++ rows)) where
  heads : header_row begun.settings ∷ (begun.entries ++ rows) ≡ header_row history.settings ∷ history.entries
  heads = sym (ap (λ (rs : List (List ℕ)). rs ++ rows) begun.header) ∙ history.header

  later : begun.entries ++ rows ≡ history.entries
  later = ap (λ (rs : List (List ℕ)). drop 1 rs) heads

  pub entries_left : AreEntries before rows
  entries_left =
      let head : header_row history.settings ≡ header_row begun.settings = ap (λ (rs : List (List ℕ)). get_or rs 0 []) (sym heads) in
      let all = subst (λ (r : List ℕ). AreEntries (r ∷ []) (begun.entries ++ rows)) head
      (subst (λ (rs : List (List ℕ)). AreEntries (header_row history.settings ∷ []) rs) (sym later) history.sealed) in
      subst (λ (rs : List (List ℕ)). AreEntries rs rows) (sym begun.header) (entries-behind (header_row begun.settings ∷ []) begun.entries rows all)

  pub closed_left : is_closed closed rows ≡ true
  closed_left =
      ap (λ (b : Bool). is_closed b rows) begun.ends ∙ sym (closed-both true begun.entries rows) ∙ ap (is_closed true) later ∙ sym history.ends

broken_by : (before rows : List (List ℕ)) (closed : Bool) → AreEntries before rows → is_closed closed rows ≡ true → IsBroken (rows_text before) closed rows → ⊥
broken_by before [] closed are shut broken = no_seal closed broken shut
broken_by before (row ∷ rows) closed are shut broken = let seal = are.0 broken.0 in broken.1 seal.0 seal.1 seal.2

pub unbroken : (before rows : List (List ℕ)) (closed : Bool) → IsBegun before closed → IsHistory (before ++ rows) → IsBroken (rows_text before) closed rows → ⊥
unbroken before rows closed begun history = broken_by before rows closed (entries_left before rows closed begun history)
    (closed_left before rows closed begun history)
