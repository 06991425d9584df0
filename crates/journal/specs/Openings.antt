-- A history that is read to be opened.
use Rattle.std.specs.Prelude.{◌≡◌, ℕ, Bool, true, false, List, [], ◌∷◌, ◌++◌, length}
use Rattle.journal.specs.LogFile.{Only}
use Rattle.journal.specs.Rows.{rows_in, rows_text, at_rest}
use Rattle.journal.specs.Pieces.{rows_read, rows_left, HasRead, IsAtGate}
use Rattle.journal.specs.Seals.{header_row, is_comment, seal_row, IsDigest, IsBegun, IsHistory}
use Rattle.journal.specs.TextDigests.{HasTaken}
use Rattle.journal.specs.declared.opening.OpenError.{OpenError}
use Rattle.journal.specs.declared.opening.OpenError.TheVariants.{Log, NotAHistory, OtherSettings, Broken}
use Rattle.journal.specs.declared.opening.Part.{Part}
use Rattle.journal.specs.declared.opening.Part.TheVariants.{Event, Seal}
use Rattle.journal.specs.declared.opening.Opening.{Opening}

-- ---- how far it is read

-- nothing was read
pub record IsUnread {D : Type 0} (seen : D → List ℕ) (may_leave : D → List ℕ → Type 0) (opening : Opening D) : Type 0 where
  pub gate : IsAtGate seen may_leave opening.reading
  pub begin : opening.reading.end ≡ 0
  pub text : HasTaken opening.text []

-- the rows that were read begin a history
pub record IsOpening {D : Type 0} (seen : D → List ℕ) (may_leave : D → List ℕ → Type 0) (opening : Opening D) : Type 0 where
  pub gate : IsAtGate seen may_leave opening.reading
  pub text : HasTaken opening.text (rows_text (rows_read seen opening.reading))
  pub begun : IsBegun (rows_read seen opening.reading) opening.closed

-- all rows were read, and they are a history
pub record IsAllRead {D : Type 0} (seen : D → List ℕ) (may_leave : D → List ℕ → Type 0) (opening : Opening D) : Type 0 where
  pub has_read : HasRead seen may_leave opening.reading
  pub none : rows_left seen opening.reading ≡ []
  pub text : HasTaken opening.text (rows_text (rows_read seen opening.reading))
  pub history : IsHistory (rows_read seen opening.reading)

-- the file was shut behind them
pub record IsShut {D : Type 0} (seen : D → List ℕ) (may_leave : D → List ℕ → Type 0) (opening : Opening D) : Type 0 where
  pub file : seen opening.reading.pieces.file ≡ at_rest (rows_in (seen opening.reading.pieces.file))
  pub end : opening.reading.end ≡ length (rows_text (rows_in (seen opening.reading.pieces.file)))
  pub durable : Only (seen opening.reading.pieces.file) (may_leave opening.reading.pieces.file)
  pub text : HasTaken opening.text (rows_text (rows_in (seen opening.reading.pieces.file)))
  pub history : IsHistory (rows_in (seen opening.reading.pieces.file))

-- ---- what is read

-- what a row behind a text is
abbrev pub IsPart : List ℕ → List ℕ → Part → Type 0
IsPart text row (Event event) = (event.items ≡ row) × (is_comment row ≡ false)
IsPart text row (Seal replies) = IsDigest replies × (row ≡ seal_row text replies)

-- a row more was read, which is this part
pub record HasReadPart {D : Type 0} (seen : D → List ℕ) (may_leave : D → List ℕ → Type 0) (old new : Opening D) (next : Part) : Type 0 where
  pub row : List ℕ
  pub part : IsPart (rows_text (rows_read seen old.reading)) row next
  pub left : rows_left seen old.reading ≡ row ∷ rows_left seen new.reading
  pub read : rows_read seen new.reading ≡ rows_read seen old.reading ++ row ∷ []
  pub opening : IsOpening seen may_leave new

-- ---- why it is refused

-- what is wrong with the first row
abbrev pub IsHeaderFault : List ℕ → List (List ℕ) → OpenError → Type 0
IsHeaderFault settings rows (Log error) = Unit {0}
IsHeaderFault settings rows NotAHistory = (other : List ℕ) (later : List (List ℕ)) → rows ≡ header_row other ∷ later → ⊥
IsHeaderFault settings rows OtherSettings = (other : List ℕ) × (later : List (List ℕ)) × (rows ≡ header_row other ∷ later) × ((other ≡ settings) → ⊥)
IsHeaderFault settings rows (Broken place) = ⊥

-- a group ends without a seal, or a comment behind a text is no seal of it
abbrev pub IsBroken : List ℕ → Bool → List (List ℕ) → Type 0
IsBroken text closed [] = closed ≡ false
IsBroken text closed (row ∷ rows) = (is_comment row ≡ true) × ((replies : List ℕ) → IsDigest replies → row ≡ seal_row text replies → ⊥)

-- what is wrong with a row at a place
abbrev pub IsRowFault : ℕ → List ℕ → Bool → List (List ℕ) → OpenError → Type 0
IsRowFault at text closed rows (Log error) = Unit {0}
IsRowFault at text closed rows NotAHistory = ⊥
IsRowFault at text closed rows OtherSettings = ⊥
IsRowFault at text closed rows (Broken place) = (place ≡ at) × IsBroken text closed rows
