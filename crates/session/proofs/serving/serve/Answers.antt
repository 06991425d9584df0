use Rattle.std.proofs.Common.{rules, inl, inr}
use Rattle.session.specs.Serving.{Link}
use Rattle.session.proofs.RowLemmas.{err-is}
use Rattle.session.proofs.ProgressLemmas.{not-shown}
use Rattle.session.proofs.serving.serve.Goals as goal
use Rattle.session.proofs.serving.serve.Goals.{in_default, in-Ok, in-Ok-2}

pub returns-in_err-flush-clause-err : goal.returns-in_err-flush-clause-err
returns-in_err-flush-clause-err g c = err-is _ _ _ c.from_residual.ensures.1 (
    not-shown (Link g.A.Answer.answers g.A.Answer.waited) _ _ _ _ _ _ _ _ _ c.serve_behind-ended.result
    (elim c.match-matches.branch [ in_default w ↦ absurd (search rules) | in-Ok w ↦ inl (search rules) | in-Ok-2 w ↦ inr (search rules) ])
    c.serve_behind-ended.ensures.ok c.serve_behind-ended.ensures.err c.in_err-flush.ensures.fault.0 c.in_err-flush.ensures.kept)
