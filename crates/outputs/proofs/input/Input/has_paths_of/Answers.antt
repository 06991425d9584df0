use Rattle.std.proofs.Common.{sym, ◌∙◌}
use Rattle.outputs.proofs.OutputLemmas.{are_same, has_paths}
use Rattle.outputs.proofs.input.Input.has_paths_of.Goals as goal

pub returns-then-eq-clause-same : goal.returns-then-eq-clause-same
returns-then-eq-clause-same c all =
    has_paths c.args.self.now c.args.other.now (sym c.eq.ensures ∙ c.if-eq.true) (sym c.eq-then-eq.ensures ∙ all)

pub returns-then-eq-clause-other : goal.returns-then-eq-clause-other
returns-then-eq-clause-other c same = c.eq-then-eq.ensures ∙ are_same c.args.self.now.sources c.args.other.now.sources same.sources

pub returns-else-eq-clause-other : goal.returns-else-eq-clause-other
returns-else-eq-clause-other c same = c.eq.ensures ∙ are_same c.args.self.now.others.items c.args.other.now.others.items same.others
