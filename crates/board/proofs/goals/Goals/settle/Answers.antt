use Rattle.std.proofs.Common.{rules, ◌<◌, length, slice_set, ap, refl, subst, sym}
use Rattle.board.specs.declared.stage.Goal.{Goal}
use Rattle.board.specs.Stages.{at_stage, reaching, goal_at, no_goal}
use Rattle.board.specs.Boards.{IsWithin, AreKept}
use Rattle.board.proofs.StageLemmas.{waits_on_none}
use Rattle.board.proofs.KeptLemmas.{kept_set}
use Rattle.board.proofs.goals.Goals.settle.Goals as goal

pub invariant_of-self : goal.invariant_of-self
invariant_of-self c =
    let old = c.self.inside.table.goals in
    let topics = c.self.inside.topics.items in
    let lasts = c.self.inside.lasts.items in
    let at = c.args.place in
    let g = reaching c.args.reached (at_stage c.args.stage (goal_at old at)) in
    let same = ap (λ v. v.goals) c.self.view_is in
    let lt : at < length old = search rules in
    let w = c.self.invariant.within at no_goal lt in
    let within : IsWithin (length lasts) g = record { user = w.user; job = w.job; class = w.class } in
    let kept : AreKept (slice_set old at g) topics lasts = kept_set old topics lasts at g c.self.invariant within
    (λ topic. waits_on_none topic c.args.stage c.requires.unfiled) refl refl in
    let P : Goal → Type 0 = λ one. AreKept (slice_set old at (reaching c.args.reached (at_stage c.args.stage one))) topics lasts in
    rw (ap (λ t. t.goals) c.set.ensures) (subst P (sym c.goal-goal.ensures.goal) kept)
