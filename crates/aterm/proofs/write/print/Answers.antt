use Rattle.std.proofs.Common.{ap, ◌∙◌}
use Rattle.std.proofs.lemmas.Result.{MatchResult-weaker}
use Rattle.model.specs.Derivations.{derivation_text}
use Rattle.aterm.proofs.write.print.Goals as goal

pub returns : goal.returns
returns c = MatchResult-weaker c.print_parts.result c.print_parts.ensures (λ text is. is ∙ ap derivation_text c.parts.ensures.parts) (λ e memory. memory)
