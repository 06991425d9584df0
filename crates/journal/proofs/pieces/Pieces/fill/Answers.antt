use Rattle.std.proofs.Common.{◌≡◌, not, false, true, ℕ, List, length, drop, ◌∙◌, ap, arith}
use Rattle.std.proofs.lemmas.Bool.Decides.{nat_tests}
use Rattle.journal.proofs.PieceLemmas.{ended_piece, same_piece, not_false}
use Rattle.journal.proofs.pieces.Pieces.fill.Goals as goal

pub returns-clause-ended : goal.returns-clause-ended
returns-clause-ended g c = λ e h.
    let seen = g.D.LogFile.seen c.args.self.now.file in
    let place = c.args.self.now.window.place in
    let same : drop c.fill.new.self.place (g.D.LogFile.seen c.read.new.self) ≡ drop place seen =
    ap (λ (n : ℕ). drop n (g.D.LogFile.seen c.read.new.self)) c.fill.ensures.place ∙ ap (λ (s : List ℕ). drop place s) c.read.ensures.seen in
    let no_more : not c.is_empty-more.result ≡ false = cc e in
    let empty : c.is_empty-more.result ≡ true = not_false c.is_empty-more.result no_more in
    let k = c.is_empty-more.ensures in
    let none : length c.in_ok-piece.piece.items ≡ 0 = grind (arith, nat_tests, k, empty, c.in_ok-piece.piece.ok) in
    ended_piece c.in_ok-piece.piece.items _ _ 65536 (omega arith) (c.in_ok-piece.ensures.bytes h) same none

pub returns-clause-ahead : goal.returns-clause-ahead
returns-clause-ahead g c = λ h was.
    let place = c.args.self.now.window.place in
    let same : drop c.fill.new.self.place (g.D.LogFile.seen c.read.new.self) ≡ drop place (g.D.LogFile.seen c.args.self.now.file) =
    ap (λ (n : ℕ). drop n (g.D.LogFile.seen c.read.new.self)) c.fill.ensures.place ∙ ap (λ (s : List ℕ). drop place s) c.read.ensures.seen in
    same_piece _ _ _ 65536 (c.in_ok-fill.ensures.at_hand ∙ c.in_ok-piece.ensures.bytes h) same
