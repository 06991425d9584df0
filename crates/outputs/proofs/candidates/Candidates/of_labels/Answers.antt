use Rattle.std.proofs.Common.{ap, ◌∙◌}
use Rattle.outputs.specs.Outputs.{candidates_of}
use Rattle.outputs.proofs.CandidateLemmas.{in_order_already}
use Rattle.outputs.proofs.candidates.Candidates.of_labels.Goals as goal

pub returns : goal.returns
returns c = ap (λ sources. candidates_of sources c.args.labels.items) c.new.ensures ∙ in_order_already c.args.labels.items c.requires
