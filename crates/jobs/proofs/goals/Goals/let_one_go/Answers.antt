use Rattle.std.proofs.Common.{◌≡◌, false, refl, sym, ◌∙◌, ap, subst}
use Rattle.std.specs.Prelude.{◌&&◌, option_copied}
use Rattle.model.specs.Worlds.{Goal}
use Rattle.model.specs.Goals.{with_goal_at, is_building}
use Rattle.model.specs.ForgetRequests.{is_built_from, let_go}
use Rattle.jobs.specs.Owned.{with_goals}
use Rattle.jobs.proofs.ForgettingLemmas.{some_is, put_back}
use Rattle.jobs.proofs.goals.Goals.let_one_go.Goals as goal

pub returns-else-is_built_with : goal.returns-else-is_built_with
returns-else-is_built_with c g at =
    let class = c.args.class.now in
    let path = c.args.path.now in
    let n = c.args.number in
    let same : c.in-Some.goal.now ≡ g = some_is c.in-Some.goal.now g (ap option_copied (sym c.in-Some.is) ∙ c.get.ensures ∙ at) in
    let stays : (is_building g.status && is_built_from class path g.resolved) ≡ false =
    subst (λ (x : Goal). (is_building x.status && is_built_from class path x.resolved) ≡ false) same (sym c.is_built_with.ensures ∙ c.if-is_built_with.false) in
    let kept : let_go class path g ≡ g = rw stays refl in
    let all = ap (λ (x : Goal). with_goal_at n x c.args.self.now.goals) kept ∙ put_back n g c.args.self.now.goals at in
    ap (λ gs. with_goals gs c.args.self.now) (sym all)
