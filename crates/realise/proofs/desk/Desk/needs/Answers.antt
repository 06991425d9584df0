use Rattle.std.proofs.Common.{◌∙◌, ap}
use Rattle.realise.specs.Holdings.{Holdings, is_needed}
use Rattle.realise.proofs.desk.Desk.needs.Goals as goal

pub returns : goal.returns
returns c = c.need.ensures ∙ ap (λ (d : Holdings). is_needed c.args.class.now c.args.path.now d) c.self.view_is
