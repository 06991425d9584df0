use Rattle.std.proofs.Common.{ap, ◌∙◌}
use Rattle.std.proofs.lemmas.Result.{MatchResult-weaker}
use Rattle.model.specs.Classes.{Known}
use Rattle.model.specs.References.{is_input_class}
use Rattle.outputs.proofs.BelowLemmas.{below_are}
use Rattle.outputs.proofs.below.records_below.Goals as goal

pub returns : goal.returns
returns c =
    MatchResult-weaker c.all_steps.result c.all_steps.ensures
    (λ found are. below_are c.args.desk.now.known c.args.derivation.now c.args.desk.now.records found.items c.in_ok-inputs.inputs.keys
    (λ class. c.in_ok-inputs.ensures class ∙ ap (λ (k : Known). is_input_class k c.args.derivation.now class) c.known.ensures) are) (λ e memory. memory)
