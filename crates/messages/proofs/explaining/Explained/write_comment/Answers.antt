use Rattle.std.proofs.Common.{subst, ℕ, List, drop, take}
use Rattle.std.specs.Io.KnownBytes.{Keeps, Appends, append_known}
use Rattle.std.proofs.lemmas.List.{drop-drop}
use Rattle.messages.proofs.CommentLemmas.{moved}
use Rattle.messages.proofs.explaining.Explained.write_comment.Goals as goal

pub loop-self-preserved : goal.loop-self-preserved
loop-self-preserved g c =
    let contents = g.W.Write.contents in
    let comment = c.loop-self.self.comment in
    let count = c.in_ok-count.count in
    let first = append_known (contents c.args.self.now.writer) (drop c.args.self.now.comment.written c.args.self.now.comment.text.items) in
    let rest = drop comment.written comment.text.items in (
      subst (λ (l : List ℕ). Keeps first (append_known (contents c.write.new.self) l)) (drop-drop count comment.written comment.text.items)
          (moved first (contents c.loop-self.self.writer) (contents c.write.new.self) count rest c.loop-self.invariant.0
          (subst (λ (l : List ℕ). Appends (contents c.loop-self.self.writer) (contents c.write.new.self) (take count l)) c.rest.ensures
          c.in_ok-count.ensures.bytes)),
      c.loop-self.invariant.1,
    )
