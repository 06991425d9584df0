use Rattle.std.proofs.Common.{◌≡◌, List, length, arith}
use Rattle.std.specs.Prelude.{map}
use Rattle.std.proofs.lemmas.Result.{IfOk-weaker}
use Rattle.trust.specs.Trusting.{holds, trusts}
use Rattle.trust.proofs.UsersLemmas.{few_users}
use Rattle.realise.specs.Holdings.{Holdings}
use Rattle.handlers.specs.Viewing.{places_of, desk_at, desks_of, IsView}
use Rattle.handlers.proofs.ViewLemmas.{is_view}
use Rattle.handlers.proofs.StateLemmas.{few_desks, has_desk}
use Rattle.handlers.proofs.view.desks_in_view.Goals as goal

pub desks_at-requires : goal.desks_at-requires
desks_at-requires c = rw c.as_slice.ensures.value (few_desks c.args.state.now)

pub closure-requires : goal.closure-requires
closure-requires c =
    let few = few_users c.args.state.now.users c.args.state.now.run.listed in
    omega (arith, c.requires, few)

pub returns : goal.returns
returns c =
    let s = c.args.state.now in
    let desks : List Holdings = s.desks.items in
    IfOk-weaker c.desks_at.result
    (λ found. desks_of found.items ≡ map (desk_at desks) (places_of (holds c.closure.result) (length desks)))
    (λ found. IsView (trusts s.trust) c.args.place desks (desks_of found.items))
    (λ found held.
    is_view (trusts s.trust) c.args.place desks (desks_of found.items) (holds c.closure.result)
    (has_desk s c.args.place c.requires) c.closure.ensures held)
    (rw c.as_slice.ensures.value at c.desks_at.ensures)
