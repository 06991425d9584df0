use Rattle.std.proofs.Common.{◌∙◌, subst}
use Rattle.std.proofs.lemmas.Result.{MatchResult-weaker}
use Rattle.realise.specs.Held.{paths_held, IsSetOf}
use Rattle.realise.specs.Holdings.{Holdings, paths_of}
use Rattle.realise.proofs.HoldingLemmas.{charged_entries}
use Rattle.realise.proofs.desk.Desk.charged_for_all.Goals as goal

pub returns : goal.returns
returns c =
    let held = paths_held c.self.inside.holding.archives in
    let set : IsSetOf held (paths_of c.args.self.now) = subst (λ (d : Holdings). IsSetOf held (paths_of d)) c.self.view_is c.self.invariant.held in
    MatchResult-weaker c.charged_for_all.result c.charged_for_all.ensures
    (λ more is. is ∙ charged_entries c.args.entries.now held c.args.self.now set) (λ e memory. memory)
