use Rattle.std.proofs.Common.{inr, ◌∙◌, sym, ap}
use Rattle.std.specs.Option.{option_copied}
use Rattle.resolving.specs.Resolving.{path_in}
use Rattle.resolving.proofs.ResolvingLemmas.{served_none, served_some}
use Rattle.resolving.proofs.served.served_by.Goals as goal

pub returns-in_default : goal.returns-in_default
returns-in_default c =
    inr (served_none (path_in c.args.paths.now.entries) c.args.class.now (sym c.get.ensures.value ∙ ap option_copied c.in_default.is))

pub returns : goal.returns
returns c =
    served_some (path_in c.args.paths.now.entries) c.args.class.now c.in-Some.path.now c.in_ok-class.class c.in_ok-path.path
    (sym c.get.ensures.value ∙ ap option_copied c.in-Some.is) c.in_ok-class.ensures.cases c.in_ok-path.ensures.cases
