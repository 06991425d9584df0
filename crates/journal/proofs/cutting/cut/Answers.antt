use Rattle.std.proofs.Common.{arith}
use Rattle.journal.proofs.CutLemmas.{cut-none, cut-some}
use Rattle.journal.proofs.cutting.cut.Goals as goal

pub returns-in_err-at : goal.returns-in_err-at
returns-in_err-at c = rw c.from_residual.ensures (cut-none c.args.byte c.args.text.now (λ k lt. c.in_err-at.ensures k (omega arith) lt))

pub returns : goal.returns
returns c =
    let found = cut-some c.args.byte c.args.text.now c.in_ok-at.at c.in_ok-at.ensures.0.high c.in_ok-at.ensures.1
    (λ k lt. c.in_ok-at.ensures.0.before k (omega arith) lt) in
    rw (c.split_at.ensures.front, c.split_at-2.ensures.back, c.split_at.ensures.back) found
