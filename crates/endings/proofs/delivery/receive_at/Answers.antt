use Rattle.std.proofs.Common.{◌≤◌, arith, length}
use Rattle.trust.proofs.UsersLemmas.{few_users}
use Rattle.endings.proofs.delivery.receive_at.Goals as goal
use Rattle.model.specs.Limits.{most_users}

pub closure-requires : goal.closure-requires
closure-requires c =
    let few : length c.args.state.now.users ≤ most_users = few_users c.args.state.now.users c.args.state.now.run.listed in
    omega (arith, few, c.requires.of_run)

pub has_place-reached-requires : goal.has_place-reached-requires
has_place-reached-requires c =
    let few : length c.args.state.now.users ≤ most_users = few_users c.args.state.now.users c.args.state.now.run.listed in
    omega (arith, few, c.requires.leader)
