use Rattle.std.proofs.Common.{◌≤◌, rules, sym, length}
use Rattle.std.proofs.iter.Serving.{serving}
use Rattle.std.proofs.lemmas.Fn.{filter_same}
use Rattle.trust.specs.Trusting.{holds, trusts}
use Rattle.trust.specs.Naming.{names}
use Rattle.trust.proofs.UsersLemmas.{few_users}
use Rattle.events.proofs.EverLemmas.{found_below, struck, told_where, stranger_untold}
use Rattle.events.proofs.striking.strike.Goals as goal
use Rattle.model.specs.Limits.{most_users}

pub returns-in_default-clause-refused : goal.returns-in_default-clause-refused
returns-in_default-clause-refused c = stranger_untold c.args.users.now c.args.user.now (sym c.if-not-are_users.ensures) (sym c.in_default.ensures)

pub closure-reached-requires : goal.closure-reached-requires
closure-reached-requires c = (found_below c.args.users.now c.args.user.now c.in-Some.place (sym c.if-not-are_users.ensures) (sym c.in-Some.ensures)).1

pub retain-requires : goal.retain-requires
retain-requires c = let few : length c.args.users.now ≤ most_users = few_users c.args.users.now (sym c.if-not-are_users.ensures) in grind serving

pub returns-clause-value : goal.returns-clause-value
returns-clause-value c charge =
    let users = c.args.users.now in
    let set = holds c.closure-reached.result in
    struck users c.args.events.items c.retain.new.self.items c.args.user.now c.in-Some.place (trusts c.trust_ever-trust.result) set charge
    (sym c.if-not-are_users.ensures) (sym c.in-Some.ensures) (rw c.as_slice.ensures.value at c.trust_ever-trust.ensures) c.closure-reached.ensures
    (filter_same _ (λ e. names users set e.actor) _ (λ x b f' k. search rules) _ _ c.retain.ensures.filtered)

pub returns-clause-ok : goal.returns-clause-ok
returns-clause-ok c = told_where c.args.users.now c.args.user.now c.in-Some.place (sym c.if-not-are_users.ensures) (sym c.in-Some.ensures)
