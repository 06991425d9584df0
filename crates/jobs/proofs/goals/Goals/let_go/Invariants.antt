use Rattle.std.proofs.Common.{◌≡◌}
use Rattle.jobs.proofs.ForgettingLemmas.{letting_go}
use Rattle.jobs.proofs.goals.Goals.let_go.Given as goal

abbrev pub invariant-loop-place : goal.invariant-loop-place
invariant-loop-place l = l.self ≡ letting_go l.class l.path l.fn.self l.place
