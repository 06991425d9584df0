use Rattle.std.proofs.Common.{◌∙◌, refl, sym, ap, None, Some}
use Rattle.std.specs.Option.{option_copied}
use Rattle.model.specs.Outlooks as model
use Rattle.trust.specs.Trusting.{trusts}
use Rattle.choose.specs.Visible.{desks_of}
use Rattle.jobs.specs.declared.outlook.Next.TheVariants.{Ready, Lacks}
use Rattle.handlers.proofs.ClosureLemmas.{view_complete}
use Rattle.handlers.proofs.StateLemmas.{complete_desks}
use Rattle.goals.proofs.OutlookLemmas.{by_inputs}
use Rattle.goals.proofs.outlooks.next_by_inputs.Goals as goal

pub new-view-requires-clause-stored : goal.new-view-requires-clause-stored
new-view-requires-clause-stored c =
    let s = c.args.state.now in
    (view_complete (trusts s.trust) c.args.place s.table.sources s.desks.items (desks_of c.in_ok-seen.seen.items) (complete_desks s)
    c.in_ok-seen.ensures).stored

pub new-view-requires-clause-closed : goal.new-view-requires-clause-closed
new-view-requires-clause-closed c =
    let s = c.args.state.now in
    (view_complete (trusts s.trust) c.args.place s.table.sources s.desks.items (desks_of c.in_ok-seen.seen.items) (complete_desks s)
    c.in_ok-seen.ensures).closed

pub returns-in-Some-clause-value : goal.returns-in-Some-clause-value
returns-in-Some-clause-value c =
    by_inputs c.args.state.now c.args.place c.requires (desks_of c.in_ok-seen.seen.items) c.new-view.result c.args.classes.now
    (Lacks c.in_ok-clone-in-Some.field-0) (Some c.in-Some.class.now) c.in_ok-seen.ensures c.new-view.ensures
    (ap option_copied (sym c.in-Some.is) ∙ c.first_lacking.ensures) (ap model.Lacks c.in_ok-clone-in-Some.ensures.cases)

pub returns-clause-value : goal.returns-clause-value
returns-clause-value c =
    by_inputs c.args.state.now c.args.place c.requires (desks_of c.in_ok-seen.seen.items) c.new-view.result c.args.classes.now Ready None
    c.in_ok-seen.ensures c.new-view.ensures (ap option_copied (sym c.in-None.is) ∙ c.first_lacking.ensures) refl
