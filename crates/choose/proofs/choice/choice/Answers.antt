use Rattle.std.proofs.Common.{◌∙◌, sym, ap}
use Rattle.std.specs.Prelude.{option_copied}
use Rattle.std.specs.Option.{option_or}
use Rattle.model.specs.Orders.{least}
use Rattle.choose.specs.Visible.{recorded_before, of_class}
use Rattle.choose.proofs.ChoosingLemmas.{all_there}
use Rattle.choose.proofs.choice.choice.Goals as goal

pub returns-in-None : goal.returns-in-None
returns-in-None c =
    let rs = of_class c.args.class.now c.args.desks.now in
    c.least_of.ensures ∙ ap (least recorded_before) (all_there rs)
    ∙ ap (λ o. option_or o (least recorded_before rs)) (ap option_copied (sym c.in-None.is) ∙ c.pinned_choice.ensures)
