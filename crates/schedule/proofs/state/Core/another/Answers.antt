use Rattle.std.proofs.Common.{◌≡◌, ℕ, List, ap, ◌∙◌, subst}
use Rattle.std.specs.Prelude.{IfOk}
use Rattle.model.specs.Worlds.{Setup}
use Rattle.schedule.specs.Standing.{setup_of}
use Rattle.schedule.proofs.state.Core.another.Goals as goal

pub empty-requires : goal.empty-requires
empty-requires c = rw (c.in_ok-users.ensures ∙ c.as_slice.ensures.value) c.args.self.now.state.run.listed

pub returns-clause-setup : goal.returns-clause-setup
unfolding setup_of
returns-clause-setup c =
    let core = c.args.self.now in
    let users : c.in_ok-users.users.items ≡ core.state.users = c.in_ok-users.ensures ∙ c.as_slice.ensures.value in
    subst (λ (s : Setup). IfOk c.empty.result (λ made. setup_of made ≡ s)) (ap (λ (us : List (List ℕ)). record { users = us; charge = core.state.limits.charge }) users) c.empty.ensures.setup
