-- What the lines of a file mean for the store of the program where its reader failed.
use Rattle.std.specs.Prelude.{◌≡◌, ℕ, List, Option, Some}
use Rattle.std.specs.Io.KnownBytes.{Appends, Consumes}
use Rattle.model.specs.declared.mode.Mode.TheVariants.{Service}
use Rattle.model.specs.Worlds.{Setup}
use Rattle.model.specs.Talk.{LineRow, text_from}
use Rattle.session.specs.Serving.{WholeLines, AnsweredSoFar}
use Rattle.replaying.specs.OnlyPass.{Only, unasked}
use Rattle.replaying.specs.Replaying.{AreAnswered, LinksOnly}

-- so much of the file was read, but for what is left; the lines that were read whole were answered, and all of their text was written
pub record ReplayedSoFar (charge : ℕ) (blank written : Option (List ℕ)) (all : List ℕ) (left : Option (List ℕ)) : Type 0 where
  pub input : List ℕ
  pub read : Consumes (Some all) left input
  pub rows : List LineRow
  pub lines : WholeLines Service input rows
  pub text : Appends blank written (text_from 1 rows)
  pub answered : AreAnswered charge rows

-- ---- on the way there

-- the whole lines of what a reader gave were answered by a new store, through its one pass
pub record ServedSoFar (setup : Setup) (start end blank written : Option (List ℕ)) : Type 0 where
  pub input : List ℕ
  pub read : Consumes start end input
  pub first : Only
  pub last : Only
  pub new : first ≡ unasked
  pub done : AnsweredSoFar Service (LinksOnly setup) first last blank written input
