use Rattle.std.proofs.Common.{◌≡◌, ◌+◌, sym, ◌∙◌, ap, subst, List, ◌∷◌, [], ◌++◌, ℕ, length, arith}
use Rattle.std.proofs.lemmas.List.{length-append, map-id}
use Rattle.std.proofs.lemmas.Iterator.Adapters.{YieldsList-from_vec}
use Rattle.std.proofs.lemmas.Iterator.Consumers.{YieldsList-end}
use Rattle.history.specs.Callers.{new_pass}
use Rattle.running.specs.ServedSessions.{first_workers}
use Rattle.running.proofs.ServedSessionLemmas.{workers_more}
use Rattle.running.proofs.pass_lists.workers_with.Goals as goal

pub loop-runner-preserved : goal.loop-runner-preserved
loop-runner-preserved g c =
    let ys = c.loop-runner.yielded in
    let runner = c.in-Some.runner in
    let n : ℕ = length c.next_pass.new.passes.items in
    let before = c.loop-runner.invariant.1 in
    let taken = c.in_ok-pass.ensures.count in
    let one = length-append ys (runner ∷ []) in
    let least : length c.loop-runner.passes.items ≡ n + 1 = taken in (
      c.in_ok-pass.ensures.left,
      omega (arith, before, taken, one),
      c.in_ok-push.ensures.items
          ∙ ap (λ ws. ws ++ record { store = c.in_ok-pass.pass; runner = runner } ∷ []) (c.loop-runner.invariant.2 ∙ ap (λ k. first_workers k ys) least)
          ∙ ap (λ pass. first_workers (n + 1) ys ++ record { store = pass; runner = runner } ∷ []) c.in_ok-pass.ensures.pass ∙ workers_more n ys runner,
    )

pub returns-clause-workers : goal.returns-clause-workers
returns-clause-workers g c =
    let given = c.into_iter-runner-iterator.ensures.into_iter_gives in
    let list = YieldsList-from_vec {s = c.into_iter-runner-iterator.result} c.args.runners.items given.0 (given.1 ∙ c.args.runners.ok.0) in
    let all = YieldsList-end list c.loop-runner.yielded c.loop-runner.runner-iterator c.loop-runner.yielded_by c.next.result c.next.new.self c.in-None.is c.next.ensures.steps in
    subst (λ runners. c.loop-runner.workers.items ≡ first_workers (length c.loop-runner.passes.items) runners) (sym (map-id c.loop-runner.yielded) ∙ all.0)
    c.loop-runner.invariant.2
