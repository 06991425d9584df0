use Rattle.std.proofs.Common.{◌≡◌, ◌-◌, drop, vec_len}
use Rattle.std.specs.Io.KnownBytes.{Keeps, append_known}
use Rattle.messages.proofs.explaining.Explained.write_comment.Given as goal

-- what is written, and what is yet to be of the comment, stays the same together
abbrev pub invariant-loop-self : goal.invariant-loop-self
invariant-loop-self g l =
    Keeps (append_known (g.W.Write.contents l.initial.self.writer) (drop l.initial.self.comment.written l.initial.self.comment.text.items))
    (append_known (g.W.Write.contents l.self.writer) (drop l.self.comment.written l.self.comment.text.items))
    × (l.self.is_begun ≡ l.initial.self.is_begun)

abbrev pub decreases-loop-self : goal.decreases-loop-self
decreases-loop-self g l = vec_len l.self.comment.text - l.self.comment.written
