use Rattle.std.proofs.Common.{◌≡◌, ◌∙◌, ◌<◌, ◌-◌, ℕ, true, refl, ap, arith, length, length-set, List}
use Rattle.std.specs.Prelude.{is_some}
use Rattle.model.specs.Worlds.{Goal, Building}
use Rattle.model.specs.Goals.{goal_at, in_status}
use Rattle.jobs.specs.Numbers.{finished, undone}
use Rattle.jobs.proofs.NumberLemmas.{changed, got, in_range}
use Rattle.jobs.proofs.IndexedLemmas.{indexed_entered, listed_nowhere, idle_at}
use Rattle.jobs.proofs.FinishedLemmas.{finished_written}
use Rattle.jobs.proofs.goals.Goals.enter.Goals as goal

pub enter-requires : goal.enter-requires
enter-requires c =
    let lists = c.self.inside.indexes in
    let is = idle_at c.args.self.now c.self.inside.owner c.self.inside.goals.items c.args.number c.index.result.now c.self.view_is
    c.index.ensures c.requires in
    listed_nowhere c.self.inside.owner c.self.inside.goals.items c.args.number c.index.result.now is.0 c.args.job lists.building.numbers.items
    lists.of_jobs.entries lists.leading.entries lists.built.entries lists.done.entries is.1 c.self.invariant.1

pub index_mut-requires : goal.index_mut-requires
index_mut-requires c =
    let gs : List Goal = c.self.inside.goals.items in
    let is = idle_at c.args.self.now c.self.inside.owner gs c.args.number c.index.result.now c.self.view_is c.index.ensures c.requires in
    let there : is_some (goal_at c.args.number gs) ≡ true = rw is.0 refl in
    let below : c.args.number - 1 < length gs = in_range c.args.number gs there in
    omega (arith, below, c.self.inside.goals.ok.0)

pub invariant_of-self-2 : goal.invariant_of-self-2
invariant_of-self-2 c =
    let gs : List Goal = c.self.inside.goals.items in
    let n : ℕ = c.args.number in
    let x : Goal = c.index.result.now in
    let job = c.args.job in
    let is = idle_at c.args.self.now c.self.inside.owner gs n x c.self.view_is c.index.ensures c.requires in
    let written : c.index_mut.result.now ≡ x = got n gs c.index_mut.result.now x c.index_mut.ensures.value is.0 in
    let entered : c.set_status.new.self ≡ in_status (Building job) x = c.set_status.ensures ∙ ap (in_status (Building job)) written in
    let old = c.self.inside.indexes in
    let mid = c.enter.new.self in
    let new = c.undo.new.self in (
      rw (length-set {A = Goal}) c.self.invariant.0,
      rw (entered, c.undo.ensures.building, c.undo.ensures.jobs, c.undo.ensures.leading, c.undo.ensures.built, c.in_ok-enter.ensures.built)
          (indexed_entered c.self.inside.owner gs n x is.0 job
          old.building.numbers.items mid.building.numbers.items old.of_jobs.entries mid.of_jobs.entries
          old.leading.entries mid.leading.entries old.built.entries old.done.entries new.done.entries
          is.1 c.in_ok-enter.ensures.building c.in_ok-enter.ensures.jobs c.in_ok-enter.ensures.leading
          (λ p. c.undo.ensures.done p ∙ ap (λ us. finished p (undone n us)) c.as_slice.ensures.value
          ∙ finished_written gs n x (in_status (Building job) x) is.0 refl p)
          (rw (c.undo.ensures.built, c.in_ok-enter.ensures.built) at c.undo.ensures.room) c.self.invariant.1),
    )

pub returns-clause-entered : goal.returns-clause-entered
returns-clause-entered c =
    changed c.args.self.now c.self.inside.owner c.self.inside.goals.items c.args.number c.index_mut.result.now c.set_status.new.self
    (in_status (Building c.args.job))
    c.self.view_is c.index_mut.ensures.value c.set_status.ensures
