use Rattle.std.proofs.Common.{◌∙◌, sym, ap}
use Rattle.std.specs.Prelude.{option_copied, filter}
use Rattle.model.specs.Orders.{least}
use Rattle.choose.specs.Visible.{desks_of, recorded_before, is_recorded_pinned, records_on}
use Rattle.choose.proofs.ChoosingLemmas.{no_pin, those_pinned}
use Rattle.choose.proofs.choice.pinned_choice.Goals as goal

pub returns-in-Some : goal.returns-in-Some
returns-in-Some c =
    let rs = records_on c.args.class.now (desks_of c.args.desks.now) in
    let some = sym c.get.ensures ∙ ap option_copied c.in-Some.is in
    c.least_of.ensures ∙ ap (least recorded_before) (those_pinned c.in-Some.path.now rs)
    ∙ ap (λ pin. least recorded_before (filter (is_recorded_pinned pin) rs)) (sym some)

pub returns-in-None : goal.returns-in-None
returns-in-None c =
    let rs = records_on c.args.class.now (desks_of c.args.desks.now) in
    let none = sym c.get.ensures ∙ ap option_copied c.in-None.is in
    no_pin rs ∙ ap (λ pin. least recorded_before (filter (is_recorded_pinned pin) rs)) (sym none)
