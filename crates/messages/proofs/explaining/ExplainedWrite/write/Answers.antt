use Rattle.std.proofs.Common.{sym, ◌∙◌, subst, List, [], ℕ, drop, take}
use Rattle.std.specs.Io.KnownBytes.{Appends, append_known}
use Rattle.messages.specs.Comments.{known_without_comments}
use Rattle.messages.specs.Explaining.{replies_of}
use Rattle.messages.proofs.CommentLemmas.{front_written, keeps_then_appends, still_behind}
use Rattle.messages.proofs.explaining.ExplainedWrite.write.Goals as goal

pub returns-clause-bytes : goal.returns-clause-bytes
returns-clause-bytes g c =
    let contents = g.W.Write.contents in
    let part = c.line_part-part.result.now in
    let count = c.in_ok-count.count in
    let before = c.write_comment.new.self in
    let after = c.take_note.new.self in
    let none = c.in_ok-write_comment.ensures.done in
    let rest = drop after.comment.written after.comment.text.items in
    keeps_then_appends (replies_of contents c.args.self.now) (replies_of contents before) (replies_of contents after) (take count c.args.bytes.now)
    c.in_ok-write_comment.ensures.kept
    (subst (λ (l : List ℕ). Appends (known_without_comments before.is_begun (append_known (contents before.writer) l)) (replies_of contents after)
    (take count c.args.bytes.now)) (sym none)
    (subst (λ w. Appends (known_without_comments before.is_begun (append_known (contents before.writer) []))
    (known_without_comments after.is_begun (append_known (contents w) rest)) (take count c.args.bytes.now)) (sym c.take_note.ensures.writer)
    (front_written before.is_begun after.is_begun (contents before.writer) (contents c.write.new.self) part c.args.bytes.now rest count
    c.in_ok-count.ensures.bound c.line_part-part.ensures.front c.line_part-part.ensures.one_line
    (sym c.begins_comment.ensures ∙ c.if-begins_comment.false)
    c.take_note.ensures.begun
    (still_behind after.is_begun before.comment after.comment none c.take_note.ensures.comment)
    c.in_ok-count.ensures.bytes)))
