-- A state keeps its facts, whether a goal is added or not.
use Rattle.std.proofs.Common.{◌≡◌, ℕ, ◌+◌, ◌≤◌, get_or, true, List, ◌∷◌, ◌++◌, [], length, refl, sym, ◌∙◌, ap, subst, Result, Ok, Err}
use Rattle.std.specs.Prelude.{IfOk, OnOk, OnErr, is_some}
use Rattle.model.specs.declared.refusal.Refusal.{Refusal}
use Rattle.model.specs.Limits.{most_goals}
use Rattle.model.specs.Classes.{known_at}
use Rattle.model.specs.Worlds.{Goal}
use Rattle.model.specs.Goals.{new_goal}
use Rattle.model.specs.Events as events
use Rattle.events.specs.declared.reply.Reply.TheVariants.{Goal as GoalReply}
use Rattle.realise.specs.Holdings.{Holdings}
use Rattle.jobs.specs.Owned.{OwnedByAll, goals_at, with_goals_at}
use Rattle.handlers.specs.declared.state.State.{State}
use Rattle.handlers.specs.States.{parts_of, HasPlace}
use Rattle.handlers.specs.Runs.{IsRun}
use Rattle.handlers.proofs.RunLemmas.{still_run, by_goals_of}
use Rattle.goals.proofs.AskingLemmas.{build_done}

abbrev more : State → ℕ → List ℕ → List Goal
more s place path = goals_at place s.jobs ++ new_goal path ∷ []

pub run_added : (s : State) (place : ℕ) → HasPlace s place → (d : Holdings) (path : List ℕ) → d ≡ get_or s.desks.items place d
    → is_some (known_at d.known path) ≡ true → (result : Result ℕ Refusal) (new : OwnedByAll)
    → OnOk result (new ≡ with_goals_at place (more s place path) s.jobs) → IfOk result (λ n. n ≡ length (goals_at place s.jobs) + 1)
    → IfOk result (λ n. n ≤ most_goals) → OnErr result (new ≡ s.jobs) → IsRun (record (parts_of s) { goals = new.goals })
run_added s place below d path here known (Ok n) new added number most kept =
    still_run (parts_of s) (record (parts_of s) { goals = new.goals }) place (events.Build path) (Ok (GoalReply n)) s.run below
    (by_goals_of (parts_of s) place d (events.Build path) (Ok (GoalReply n)) (more s place path) new.goals s.run
    (ap (λ (j : OwnedByAll). j.goals) added) here
    (build_done d (goals_at place s.jobs) path known (more s place path) n (GoalReply n) refl number most refl))
run_added s place below d path here known (Err why) new added number most kept =
    subst (λ (j : OwnedByAll). IsRun (record (parts_of s) { goals = j.goals })) (sym kept) s.run

pub owned_added : (s : State) (place : ℕ) (path : List ℕ) (result : Result ℕ Refusal) (new : OwnedByAll)
    → OnOk result (new ≡ with_goals_at place (more s place path) s.jobs) → OnErr result (new ≡ s.jobs) → new.users ≡ s.users
owned_added s place path (Ok n) new added kept = ap (λ (j : OwnedByAll). j.users) added ∙ s.owned
owned_added s place path (Err why) new added kept = ap (λ (j : OwnedByAll). j.users) kept ∙ s.owned
