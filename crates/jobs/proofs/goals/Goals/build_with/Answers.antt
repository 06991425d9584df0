use Rattle.std.proofs.Common.{◌≡◌, ◌∙◌, ℕ, List, Some, Bool, true, false, sym, ap, slice_index_or}
use Rattle.std.proofs.Math.ListN.{drop_of_length-le}
use Rattle.std.proofs.lemmas.List.Folds.{list_any_at}
use Rattle.std.specs.List.{list_any}
use Rattle.std.specs.Prelude.{option_copied}
use Rattle.model.specs.Worlds.{Goal}
use Rattle.model.specs.Goals.{goal_at}
use Rattle.model.specs.ForgetRequests.{builds_with}
use Rattle.trust.specs.Trusting.{holds}
use Rattle.trust.specs.Naming.{names}
use Rattle.jobs.proofs.ForgettingLemmas.{passes, any_built}
use Rattle.jobs.proofs.goals.Goals.build_with.Goals as goal

pub returns-then-builds_with : goal.returns-then-builds_with
returns-then-builds_with c =
    let gs : List Goal = c.args.self.now.goals in
    let reach : List ℕ → Bool = names c.args.users.now (holds c.args.reached) in
    let test : Goal → Bool = builds_with reach c.args.class.now c.args.path.now in
    let ns : List ℕ = c.building-number-items.result.now in
    let i : ℕ = c.loop-number.number-index in
    let there : goal_at (slice_index_or ns i 0) gs ≡ Some c.in-Some.goal.now = sym c.get.ensures ∙ ap option_copied c.in-Some.is in
    let is : passes test (goal_at (slice_index_or ns i 0) gs) ≡ true = ap (passes test) there ∙ sym c.builds_with.ensures ∙ c.if-builds_with.true in
    sym (list_any_at (λ n. passes test (goal_at n gs)) ns i 0 c.loop-number-test.true is)
    ∙ ap (list_any (λ n. passes test (goal_at n gs))) c.building-number-items.ensures ∙ any_built reach c.args.class.now c.args.path.now gs

pub returns : goal.returns
returns c =
    let gs : List Goal = c.args.self.now.goals in
    let reach : List ℕ → Bool = names c.args.users.now (holds c.args.reached) in
    let test : Goal → Bool = builds_with reach c.args.class.now c.args.path.now in
    ap (list_any (λ n. passes test (goal_at n gs)))
    (sym (drop_of_length-le c.building-number-items.result.now c.loop-number-test.false))
    ∙ c.loop-number.invariant
    ∙ ap (list_any (λ n. passes test (goal_at n gs))) c.building-number-items.ensures ∙ any_built reach c.args.class.now c.args.path.now gs
