use Rattle.std.proofs.Common.{◌≡◌, subst, ℕ, List, Some}
use Rattle.std.specs.Prelude.{IfErr}
use Rattle.model.specs.declared.refusal.Refusal.TheVariants.{InputFault}
use Rattle.replaying.specs.WholeLines.{ReplayedSoFar}
use Rattle.app.proofs.ToldLemmas.{told_ok, told_err, told_counts}
use Rattle.app.proofs.actions.run_lines.Goals as goal

pub returns-in-Replay-clause-failed : goal.returns-in-Replay-clause-failed
returns-in-Replay-clause-failed g c = λ _.
    told_err c.replay.result c.nothing_told.result _ c.nothing_told.ensures
    (subst (λ (charge : ℕ). IfErr c.replay.result (λ why. why ≡ InputFault → (all : List ℕ) → g.R.Read.remaining c.args.reader.now ≡ Some all
    → ReplayedSoFar charge (g.W.Write.contents c.args.writer.now) (g.W.Write.contents c.replay.new.writer) all (g.R.Read.remaining c.replay.new.reader)))
    c.limits_of-limits.ensures c.replay.ensures.failed)

pub returns-in-Replay-clause-counts : goal.returns-in-Replay-clause-counts
returns-in-Replay-clause-counts g c = told_counts c.replay.result c.nothing_told.result _ _ _ _ c.nothing_told.ensures c.replay.ensures.counts

pub returns-in-Replay-clause-shown : goal.returns-in-Replay-clause-shown
returns-in-Replay-clause-shown g c = told_ok c.replay.result c.nothing_told.result _ c.nothing_told.ensures c.replay.ensures.shown
