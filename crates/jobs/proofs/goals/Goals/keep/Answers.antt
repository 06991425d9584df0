use Rattle.std.proofs.Common.{◌≡◌, ◌∙◌, ◌<◌, ◌-◌, ℕ, true, refl, ap, arith, length, length-set, List, Some}
use Rattle.std.specs.Prelude.{is_some}
use Rattle.model.specs.Worlds.{Goal}
use Rattle.model.specs.Goals.{goal_at}
use Rattle.jobs.specs.Owned.{Owned}
use Rattle.jobs.specs.Numbers.{finished, undone}
use Rattle.jobs.specs.Statuses.{planned_with}
use Rattle.jobs.proofs.NumberLemmas.{found, changed, got, in_range}
use Rattle.jobs.proofs.IndexedLemmas.{indexed_alike, indexed_planned}
use Rattle.jobs.proofs.FinishedLemmas.{finished_written}
use Rattle.jobs.proofs.goals.Goals.keep.Goals as goal

pub invariant_of-self : goal.invariant_of-self
invariant_of-self c =
    let old = c.self.inside.indexes in
    let new = c.finish.new.self in
    rw (
      c.finish.ensures.building,
      c.in-Err.ensures.building,
      c.undo.ensures.building,
      c.finish.ensures.jobs,
      c.in-Err.ensures.jobs,
      c.undo.ensures.jobs,
      c.finish.ensures.leading,
      c.in-Err.ensures.leading,
      c.undo.ensures.leading,
      c.finish.ensures.built,
    ) (
      c.self.invariant.0,
      indexed_alike c.self.inside.owner c.self.inside.goals.items old.building.numbers.items old.building.numbers.items
          old.of_jobs.entries old.of_jobs.entries old.leading.entries old.leading.entries
          old.built.entries c.plan.new.self.built.entries old.done.entries new.done.entries refl (λ k. refl) (λ p. refl)
          (rw c.undo.ensures.built at c.in-Err.ensures.built.1) (rw c.as_slice-in-Err.ensures.value at c.finish.ensures.done)
          (rw c.finish.ensures.built at c.finish.ensures.room) c.self.invariant.1,
    )

pub index-requires-2 : goal.index-requires-2
index-requires-2 c =
    let gs : List Goal = c.self.inside.goals.items in
    let same : gs ≡ c.args.self.now.goals = ap (λ (v : Owned). v.goals) c.self.view_is in
    let there : is_some (goal_at c.args.number gs) ≡ true = rw same c.requires in
    let below : c.args.number - 1 < length gs = in_range c.args.number gs there in
    omega (arith, below, c.self.inside.goals.ok.0)

pub index_mut-requires : goal.index_mut-requires
index_mut-requires c =
    let gs : List Goal = c.self.inside.goals.items in
    let same : gs ≡ c.args.self.now.goals = ap (λ (v : Owned). v.goals) c.self.view_is in
    let there : is_some (goal_at c.args.number gs) ≡ true = rw same c.requires in
    let below : c.args.number - 1 < length gs = in_range c.args.number gs there in
    omega (arith, below, c.self.inside.goals.ok.0)

pub invariant_of-self-2 : goal.invariant_of-self-2
invariant_of-self-2 c =
    let gs : List Goal = c.self.inside.goals.items in
    let n : ℕ = c.args.number in
    let x : Goal = c.index-2.result.now in
    let same : gs ≡ c.args.self.now.goals = ap (λ (v : Owned). v.goals) c.self.view_is in
    let there : is_some (goal_at n gs) ≡ true = rw same c.requires in
    let at : goal_at n gs ≡ Some x = found n gs x c.index-2.ensures there in
    let planned : c.index.result.now ≡ x = got n gs c.index.result.now x c.index.ensures at in
    let written : c.index_mut.result.now ≡ x = got n gs c.index_mut.result.now x c.index_mut.ensures.value at in
    let is : c.keep.new.self ≡ planned_with c.shared-resolved.result x = c.keep.ensures ∙ ap (planned_with c.shared-resolved.result) written in
    let old = c.self.inside.indexes in
    let plan = c.plan.new.self in
    let new = c.leave.new.self in (
      rw (length-set {A = Goal}) c.self.invariant.0,
      rw (is, c.leave.ensures.built, c.leave.ensures.done)
          (indexed_planned c.self.inside.owner gs n x at c.shared-resolved.result old.building.numbers.items new.building.numbers.items
          old.of_jobs.entries new.of_jobs.entries old.leading.entries new.leading.entries old.built.entries plan.built.entries old.done.entries plan.done.entries
          (rw (c.in_default.ensures.building, c.undo.ensures.building) at c.leave.ensures.building)
          (rw (c.in_default.ensures.jobs, c.undo.ensures.jobs) at c.leave.ensures.jobs)
          (rw (c.in_default.ensures.leading, c.undo.ensures.leading) at c.leave.ensures.leading)
          (rw (planned, c.undo.ensures.built) at c.in_default.ensures.built)
          (λ p. c.in_default.ensures.done p ∙ c.undo.ensures.done p ∙ ap (λ us. finished p (undone n us)) c.as_slice.ensures.value
          ∙ finished_written gs n x (planned_with c.shared-resolved.result x) at refl p)
          c.in_default.ensures.room c.self.invariant.1),
    )

pub returns-clause-planned : goal.returns-clause-planned
returns-clause-planned c =
    changed c.args.self.now c.self.inside.owner c.self.inside.goals.items c.args.number c.index_mut.result.now c.keep.new.self
    (planned_with c.args.resolved) c.self.view_is
    c.index_mut.ensures.value (c.keep.ensures ∙ ap (λ r. planned_with r c.index_mut.result.now) c.shared-resolved.ensures)
