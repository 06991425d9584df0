use Rattle.std.proofs.Common.{◌≡◌, ◌∙◌, ℕ, true, sym, ap, length-set, List, Some}
use Rattle.std.specs.Prelude.{is_some}
use Rattle.model.specs.Worlds.{Goal}
use Rattle.model.specs.Goals.{goal_at, in_status}
use Rattle.jobs.specs.Owned.{Owned}
use Rattle.jobs.specs.Numbers.{finished, undone}
use Rattle.events.specs.Statuses.{status_of}
use Rattle.jobs.proofs.NumberLemmas.{found, changed, got}
use Rattle.jobs.proofs.IndexedLemmas.{indexed_left, built_kept}
use Rattle.jobs.proofs.FinishedLemmas.{undone_written}
use Rattle.jobs.proofs.goals.Goals.set_status.Goals as goal

pub finish-requires-clause-built : goal.finish-requires-clause-built
finish-requires-clause-built c =
    let gs : List Goal = c.self.inside.goals.items in
    let n : ℕ = c.args.number in
    let x : Goal = c.index_mut.result.now in
    let same : gs ≡ c.args.self.now.goals = ap (λ (v : Owned). v.goals) c.self.view_is in
    let there : is_some (goal_at n gs) ≡ true = rw same c.requires.there in
    let at : goal_at n gs ≡ Some x = found n gs x c.index_mut.ensures.value there in
    rw (c.as_slice-2.ensures.value, c.set_status.ensures, c.undo.ensures.built, c.leave.ensures.built)
    (built_kept c.self.inside.owner gs n x at (status_of c.args.status) c.self.inside.indexes.built.entries c.self.invariant.1.of_built)

pub finish-requires-clause-done : goal.finish-requires-clause-done
finish-requires-clause-done c p =
    let gs : List Goal = c.self.inside.goals.items in
    let n : ℕ = c.args.number in
    let x : Goal = c.index_mut.result.now in
    let same : gs ≡ c.args.self.now.goals = ap (λ (v : Owned). v.goals) c.self.view_is in
    let there : is_some (goal_at n gs) ≡ true = rw same c.requires.there in
    let at : goal_at n gs ≡ Some x = found n gs x c.index_mut.ensures.value there in
    c.undo.ensures.done p ∙ ap (λ us. finished p (undone n us)) c.as_slice.ensures.value
    ∙ undone_written gs n x c.set_status.new.self at p ∙ ap (λ us. finished p (undone n us)) (sym c.as_slice-2.ensures.value)

pub invariant_of-self : goal.invariant_of-self
invariant_of-self c =
    let gs : List Goal = c.self.inside.goals.items in
    let n : ℕ = c.args.number in
    let x : Goal = c.index.result.now in
    let same : gs ≡ c.args.self.now.goals = ap (λ (v : Owned). v.goals) c.self.view_is in
    let there : is_some (goal_at n gs) ≡ true = rw same c.requires.there in
    let at : goal_at n gs ≡ Some x = found n gs x c.index.ensures there in
    let one : c.index_mut.result.now ≡ x = got n gs c.index_mut.result.now x c.index_mut.ensures.value at in
    let is : c.set_status.new.self ≡ in_status (status_of c.args.status) x = c.set_status.ensures ∙ ap (in_status (status_of c.args.status)) one in
    let old = c.self.inside.indexes in
    let mid = c.leave.new.self in
    let new = c.finish.new.self in (
      rw (length-set {A = Goal}) c.self.invariant.0,
      rw (
        is,
        c.finish.ensures.building,
        c.undo.ensures.building,
        c.finish.ensures.jobs,
        c.undo.ensures.jobs,
        c.finish.ensures.leading,
        c.undo.ensures.leading,
        c.finish.ensures.built,
        c.undo.ensures.built,
        c.leave.ensures.built,
      )
          (indexed_left c.self.inside.owner gs n x at (status_of c.args.status) old.building.numbers.items mid.building.numbers.items
          old.of_jobs.entries mid.of_jobs.entries old.leading.entries mid.leading.entries
          old.built.entries old.done.entries new.done.entries c.requires.status c.leave.ensures.building c.leave.ensures.jobs c.leave.ensures.leading
          (rw (c.as_slice-2.ensures.value, is) at c.finish.ensures.done)
          (rw (c.finish.ensures.built, c.undo.ensures.built, c.leave.ensures.built) at c.finish.ensures.room) c.self.invariant.1),
    )

pub returns : goal.returns
returns c =
    changed c.args.self.now c.self.inside.owner c.self.inside.goals.items c.args.number c.index_mut.result.now c.set_status.new.self
    (in_status (status_of c.args.status)) c.self.view_is
    c.index_mut.ensures.value c.set_status.ensures
