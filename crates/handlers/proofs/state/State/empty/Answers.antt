use Rattle.std.proofs.Common.{◌≡◌, ℕ, Bool, false, List, length, sym, ◌∙◌, ap, subst}
use Rattle.std.specs.Prelude.{All}
use Rattle.std.proofs.lemmas.List.Elements.{All-weaker}
use Rattle.model.specs.Worlds.{Goal, nothing}
use Rattle.trust.specs.Trusting.{trusts}
use Rattle.trust.specs.Naming.{trusted_at, IsWithin}
use Rattle.trust.proofs.NameLemmas.{trusted_by_nobody, within_nobody}
use Rattle.handlers.specs.Sound.{Beside, IsEmpty, IsSound, AreGoalsSound}
use Rattle.handlers.specs.Parts.{goals_of, beside_at, parts, world_in}
use Rattle.handlers.specs.Runs.{IsRun}
use Rattle.jobs.specs.Owned.{OwnedByAll}
use Rattle.handlers.proofs.DeskLemmas.{empty_sound}
use Rattle.handlers.proofs.GoalLemmas.{none_of, no_goals, none_counted, none_sound}
use Rattle.handlers.proofs.SupportLemmas.{none_supported}
use Rattle.trust.proofs.UsersLemmas.{few_users}
use Rattle.handlers.proofs.WorldLemmas.{empty_world, same_world}
use Rattle.handlers.proofs.state.State.empty.Goals as goal

pub new-requires : goal.new-requires
new-requires c =
    rw c.as_slice.ensures.value (few_users c.args.users.items c.requires)

pub invariant_of-result : goal.invariant_of-result
invariant_of-result c =
    let named : List (List ℕ) = c.args.users.items in
    let users : c.in_ok-users.users ≡ named = c.in_ok-users.ensures in
    let table = c.new-4.result.sources in
    let are = rw c.as_slice.ensures.value at c.in_ok-jobs.ensures.value in
    let none : c.in_ok-jobs.jobs.goals ≡ none_of named = ap (λ (j : OwnedByAll). j.goals) are in
    let run : IsRun (parts named c.args.limits.charge (trusts c.new-3.result) c.in_ok-jobs.jobs.goals table c.in_ok-desks.desks.items) = record {
      paired = sym c.in_ok-desks.desks.ok.0 ∙ c.in_ok-desks.ensures.value.1 ∙ c.len.ensures ∙ c.args.users.ok.0;
      listed = c.requires;
      within = subst (IsWithin (length named)) (sym c.new-3.ensures) (within_nobody (length named));
      sound = All-weaker IsEmpty (IsSound table c.args.limits.charge) (empty_sound table c.args.limits.charge) c.in_ok-desks.desks.items
          c.in_ok-desks.ensures.value.0;
      with_goals = ap (λ (goals : List (List Goal)). length goals) none ∙ none_counted named;
      goals_sound = subst (All (AreGoalsSound table)) (sym none) (none_sound table named);
      supported = none_supported c.in_ok-desks.desks.items c.in_ok-jobs.jobs.goals
          (λ place. ap (λ (goals : List (List Goal)). goals_of goals place) none ∙ no_goals named place);
    } in
    record {
      run = subst (λ us. IsRun (parts us c.args.limits.charge (trusts c.new-3.result) c.in_ok-jobs.jobs.goals table c.in_ok-desks.desks.items)) (sym users) run;
      owned = ap (λ (j : OwnedByAll). j.users) are ∙ sym users;
    }

pub returns-clause-world : goal.returns-clause-world
returns-clause-world c =
    let named : List (List ℕ) = c.args.users.items in
    let none : c.in_ok-jobs.jobs.goals ≡ none_of named = ap (λ (j : OwnedByAll). j.goals) (rw c.as_slice.ensures.value at c.in_ok-jobs.ensures.value) in
    let nobody : (place : ℕ) → trusted_at named (trusts c.new-3.result) place ≡ λ name. false =
    λ place. rw c.new-3.ensures (trusted_by_nobody named place) in
    let B : (List ℕ → Bool) → List Goal → Beside = λ trusted goals. record { trusted = trusted; goals = goals } in
    subst (λ us. world_in (parts us c.args.limits.charge (trusts c.new-3.result) c.in_ok-jobs.jobs.goals c.new-4.result.sources c.in_ok-desks.desks.items) ≡ nothing)
    (sym c.in_ok-users.ensures)
    (same_world (empty_world (beside_at named (trusts c.new-3.result) c.in_ok-jobs.jobs.goals) c.new-4.result.sources named c.in_ok-desks.desks.items
    (λ place i. B (nobody place i) ((ap (λ (goals : List (List Goal)). goals_of goals place) none ∙ no_goals named place) i)) c.in_ok-desks.ensures.value.0))
