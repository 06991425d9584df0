use Rattle.std.proofs.Common.{◌≡◌, ◌∙◌, ℕ, List, Option, Some, Result, Ok, Err, rules, subst, sym}
use Rattle.std.specs.Prelude.{IfOk}
use Rattle.std.proofs.lemmas.Option.{same_Some}
use Rattle.model.specs.declared.refusal.Refusal.{Refusal}
use Rattle.model.specs.Archives.{Tree}
use Rattle.model.specs.Goals.{goal_at}
use Rattle.model.specs.Worlds.{Goal, Job}
use Rattle.realise.specs.Holdings.{Holdings}
use Rattle.handlers.specs.Parts.{goals_of}
use Rattle.handlers.specs.Viewing.{desk_at}
use Rattle.outputs.specs.declared.input.Input.{Input}
use Rattle.outputs.specs.declared.settlement.Settlement.{Settlement}
use Rattle.outputs.specs.Kept.{HasNeeded}
use Rattle.endings.specs.Built.{HasBuilt}
use Rattle.endings.specs.Preparing.{HasLedOutput, HasNeededFor}
use Rattle.handlers.proofs.StateLemmas.{has_desk}
use Rattle.endings.proofs.MadeLemmas.{at_place}
use Rattle.endings.proofs.preparing.input_for_finish.Goals as goal

-- what an output needs for the goal that was found, it needs for the job
led : (result : Result (Option Input) Refusal) (d : Holdings) (job : Job) (goals : List Goal) (g : Goal) → goal_at job.number goals ≡ Some g
    → IfOk result (λ input. (tree : Tree) (settled : List Settlement) → HasNeeded settled input tree → HasBuilt d.known g tree settled)
    → IfOk result (λ input. (output : List ℕ) (settled : List Settlement) → HasNeededFor output settled input → HasLedOutput d job goals output settled)
led (Ok input) d job goals g at needed = λ output settled has other tree at-other leads is.
    subst (λ (x : Goal). HasBuilt d.known x tree settled) (same_Some g other (sym at ∙ at-other)) (needed tree settled (has tree is))
led (Err why) d job goals g at needed = tt

pub leads-requires-clause-of_run : goal.leads-requires-clause-of_run
leads-requires-clause-of_run c = rw c.as_slice.ensures.value c.requires

pub leads-requires-clause-with_goals : goal.leads-requires-clause-with_goals
leads-requires-clause-with_goals c = rw c.as_slice.ensures.value c.args.state.now.run.with_goals

pub returns-in-Some-clause-needed : goal.returns-in-Some-clause-needed
returns-in-Some-clause-needed c =
    let s = c.args.state.now in
    let g : Goal = c.in-Some.goal.now in
    let goals = goals_of s.jobs.goals c.args.place in
    let desk : c.index.result.now ≡ desk_at s.desks.items c.args.place =
    at_place s.desks.items c.args.place c.index.result.now (has_desk s c.args.place c.requires) c.index.ensures in
    let at : goal_at c.args.number goals ≡ Some g = search rules in
    let needed = subst (λ (d : Holdings). IfOk c.input_for_goal.result (λ input. (tree : Tree) (settled : List Settlement)
    → HasNeeded settled input tree → HasBuilt d.known g tree settled)) desk c.input_for_goal.ensures.needed in
    led c.input_for_goal.result (desk_at s.desks.items c.args.place) _ goals g at needed
