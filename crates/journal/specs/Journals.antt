-- What a journal keeps.
use Rattle.std.specs.Prelude.{ℕ, List}
use Rattle.journal.specs.Rows.{rows_in, rows_text}
use Rattle.journal.specs.RowFiles.{IsSettled}
use Rattle.journal.specs.Seals.{IsHistory}
use Rattle.journal.specs.TextDigests.{HasTaken}
use Rattle.journal.specs.declared.journal.Journal.{Journal}

-- the file is a history, all of it on the disk; the digest has taken the text of its rows
pub record IsJournal {D : Type 0} (seen : D → List ℕ) (may_leave : D → List ℕ → Type 0) (journal : Journal D) : Type 0 where
  pub rows : IsSettled seen may_leave journal.rows
  pub text : HasTaken journal.text (rows_text (rows_in (seen journal.rows.file)))
  pub history : IsHistory (rows_in (seen journal.rows.file))
