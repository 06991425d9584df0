-- What a writer has of replies that are explained.
use Rattle.std.specs.Prelude.{◌≡◌, ◌⊎◌, ℕ, Bool, false, List, drop, Option}
use Rattle.std.specs.Io.KnownBytes.{append_known}
use Rattle.messages.specs.declared.explaining.Explained.{Explained}
use Rattle.messages.specs.declared.explaining.Unwritten.{Unwritten}
use Rattle.messages.specs.Comments.{known_without_comments, IsComment}

-- what it has, and the comment that is yet to be written, but for comments, where that is known: the writer is to have whole lines, and
-- what is begun of one
abbrev pub replies_of : {W B : Type 0} → (W → Option (List ℕ)) → Explained W B → Option (List ℕ)
replies_of contents explained = known_without_comments explained.is_begun
    (append_known (contents explained.writer) (drop explained.comment.written explained.comment.text.items))

-- what is yet to be written stays so, or a line is ended, and it is a comment
abbrev pub StaysOrComments : (is_begun : Bool) (old new : Unwritten) → Type 0
StaysOrComments is_begun old new = (new ≡ old) ⊎ ((is_begun ≡ false) × (new.written ≡ 0) × IsComment new.text.items)
