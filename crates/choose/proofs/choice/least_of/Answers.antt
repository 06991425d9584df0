use Rattle.std.proofs.Common.{◌+◌, ◌∙◌, sym, ap, drop}
use Rattle.std.specs.Prelude.{option_copied}
use Rattle.model.specs.Orders.{least_from}
use Rattle.choose.specs.Visible.{recorded_before, desks_of, records_on, is_any_or_at, those_at}
use Rattle.std.proofs.lemmas.List.{drop_all}
use Rattle.records.proofs.LoopLemmas.{drop_next}
use Rattle.choose.proofs.ChoosingLemmas.{least_end, least_desk}
use Rattle.choose.proofs.choice.least_of.Goals as goal

pub loop-desk-preserved : goal.loop-desk-preserved
loop-desk-preserved c =
    let desks = c.args.desks.now in
    let k = c.loop-desk.desk-index in
    let class = c.args.class.now in
    let path = option_copied c.args.path in
    let best = option_copied c.loop-desk.best in
    let step = drop_next desks k c.desk-item.result c.loop-desk-test.true c.desk-item.is in
    let after = those_at path (records_on class (desks_of (drop (k + 1) desks))) in
    ap (λ b. least_from recorded_before b after)
    (c.least_from-best.ensures ∙ ap (λ rs. least_from recorded_before best (those_at path rs)) c.records_of.ensures)
    ∙ least_desk (is_any_or_at path) best class c.desk-item.result (drop (k + 1) desks) (drop k desks) step ∙ c.loop-desk.invariant

pub returns : goal.returns
returns c =
    let desks = c.args.desks.now in
    let k = c.loop-desk.desk-index in
    let path = option_copied c.args.path in
    sym (least_end recorded_before (option_copied c.loop-desk.best) (those_at path (records_on c.args.class.now (desks_of (drop k desks))))
    (ap (λ ds. those_at path (records_on c.args.class.now (desks_of ds))) (drop_all k desks c.loop-desk-test.false))) ∙ c.loop-desk.invariant
