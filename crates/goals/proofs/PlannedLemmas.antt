-- What becomes of a goal of a user of a state that is planned.
use Rattle.std.proofs.Common.{◌≡◌, ◌≢◌, ◌⊎◌, ℕ, Bool, true, false, List, refl, sym, ◌∙◌, ap, subst, Option, Some, Result, Ok, Err}
use Rattle.std.specs.Borrow.{Bor}
use Rattle.std.specs.Prelude.{All, MatchResult, IfOk, IfSome, IfNone, OnOk, OnErr, map}
use Rattle.model.specs.declared.refusal.Refusal.{Refusal}
use Rattle.model.specs.declared.refusal.Refusal.TheVariants.{Memory}
use Rattle.model.specs.Derivations.{Derivation}
use Rattle.model.specs.Classes.{Admission}
use Rattle.model.specs.Worlds.{Source, Planned, Failed, Resolved, Goal}
use Rattle.model.specs.Goals.{goal_at, with_goal_at, in_status}
use Rattle.model.specs.Events as events
use Rattle.model.specs.Replies as replies
use Rattle.trust.specs.Trusting.{IsReach, trusts}
use Rattle.trust.specs.Naming.{names, name_at}
use Rattle.trust.proofs.PlaceLemmas.{place_found}
use Rattle.trust.proofs.UsersLemmas.{distinct_users}
use Rattle.model.specs.GoalRequests.{plan}
use Rattle.model.specs.Choices.{Plan}
use Rattle.model.specs.Outcomes.{Observation, observation_of}
use Rattle.store.specs.Stored.{put_all}
use Rattle.events.specs.declared.reply.Reply as Rust
use Rattle.events.specs.declared.reply.Reply.TheVariants as reply
use Rattle.events.specs.declared.status.Status.TheVariants as status
use Rattle.events.specs.Terms.{reply_of}
use Rattle.realise.specs.Holdings.{Holdings}
use Rattle.closure_laws.specs.RepairLaws.{ServedAreMade}
use Rattle.repair.specs.AtHand.{MadeRepairs}
use Rattle.repair.specs.Prepared.{HasRepaired, HasRepairedIf}
use Rattle.jobs.specs.Owned.{OwnedByAll, goals_at, with_goals_at, ChangesGoal}
use Rattle.jobs.specs.Statuses.{planned_with}
use Rattle.handlers.specs.declared.state.State.{State}
use Rattle.handlers.specs.States.{parts_of, HasPlace, Handles, observation_at}
use Rattle.handlers.specs.Runs.{IsRun}
use Rattle.handlers.specs.Stored.{source_of_entry}
use Rattle.handlers.specs.Sound.{IsClosure, IsStored}
use Rattle.handlers.specs.Viewing.{desk_at}
use Rattle.handlers.specs.Handling.{IsHandledByAll}
use Rattle.handlers.proofs.RunLemmas.{still_run}
use Rattle.handlers.specs.Serving.{AtPlace}
use Rattle.handlers.proofs.PlannedLemmas.{IsPlanOf, of_him, needed_by}
use Rattle.goals.specs.Planning.{plan_to_build, IsPlannedToBuildAt, HasRepairedForGoal, IsResolvedFor, IsNotResolvedFor, IsToPlan, TellsToPlan, HasNoneToPlan, fails, IsNotKept}
use Rattle.goals.proofs.StateLemmas.{left_so, goals_so}
use Rattle.goals.proofs.PlanLemmas.{one_derivation, told_of_him, none_of_him, own_there, not_to_plan, not_kept, not_resolved, failed, planned, goal_there}

-- ---- what is planned

-- what a derivation needs is planned for the one who is at the place
planned_for_him : (s : State) (place : ℕ) (d : Derivation) (result : Result Plan Refusal) → HasPlace s place
    → IsPlannedToBuildAt (trusts s.trust) s.table.sources s.desks.items place d result → IsPlanOf (plan_to_build (observation_at s place) d) result
planned_for_him s place d (Ok p) inside planned =
    of_him s place (λ setup w u. plan_to_build (observation_of setup w u) d ≡ Ok p) inside planned
planned_for_him s place d (Err why) inside planned =
    of_him s place (λ setup w u. (why ≡ Memory) ⊎ (plan_to_build (observation_of setup w u) d ≡ Err why)) inside planned

-- what is repaired for the plan of a goal's derivation is what is repaired for the goal
for_goal : (s : Observation) (n : ℕ) (d : Derivation) (found : Result (Option Plan) Refusal) → IsToPlan s n d
    → IfOk found (λ o. (made : MadeRepairs) → HasRepairedIf o made → (p : Plan) → plan_to_build s d ≡ Ok p → HasRepaired p made)
    → IfOk found (λ o. (made : MadeRepairs) → HasRepairedIf o made → HasRepairedForGoal s n made)
for_goal s n d (Ok o) own needed = λ made has e it p is.
    needed made has p (subst (λ x. plan_to_build s x ≡ Ok p) (one_derivation s n e d it own) is)
for_goal s n d (Err why) own needed = tt

pub goal_needed : (s : State) (place n : ℕ) (d : Derivation) (planned : Result Plan Refusal) (found : Result (Option Plan) Refusal) → HasPlace s place
    → IsToPlan (observation_at s place) n d → IsPlannedToBuildAt (trusts s.trust) s.table.sources s.desks.items place d planned
    → IfOk found (λ o. IfSome o (λ p. planned ≡ Ok p)) → IfOk found (λ o. IfNone o ((why : Refusal) × (planned ≡ Err why) × (why ≢ Memory)))
    → IfOk found (λ o. (made : MadeRepairs) → HasRepairedIf o made → HasRepairedForGoal (observation_at s place) n made)
goal_needed s place n d planned found inside own are some none =
    for_goal (observation_at s place) n d found own
    (needed_by (plan_to_build (observation_at s place) d) planned found (planned_for_him s place d planned inside are) some none)

module _ (s : State) (place n : ℕ) (set : ℕ → Bool) (reach : IsReach (trusts s.trust) place set) where
  abbrev own : List Goal
  own = goals_at place s.jobs

  abbrev desk : Holdings
  desk = desk_at s.desks.items place

  abbrev old : List Source
  old = s.table.sources

  -- what is told of a goal is told of what the user at the place sees
  pub told_so : HasPlace s place → (result : Result (Bor Admission) Refusal) → TellsToPlan own desk.known (names s.users set) n result
      → MatchResult result (λ d. IsToPlan (observation_at s place) n d.now.derivation) (λ why. plan (observation_at s place) n ≡ Err why)
  told_so inside result tells =
      told_of_him s.users s.limits.charge (trusts s.trust) s.jobs.goals old s.desks.items place n s.run.listed s.run.paired s.run.within s.run.sound
      s.run.goals_sound (name_at s.users place) (place_found s.users place (distinct_users s.users s.run.listed) inside) set result reach tells

  -- where no goal is to be planned, none is of what he sees
  pub none_so : HasPlace s place → HasNoneToPlan own desk.known (names s.users set) n → (d : Derivation) → IsToPlan (observation_at s place) n d → ⊥
  none_so inside none = none_of_him s.users s.limits.charge (trusts s.trust) s.jobs.goals old s.desks.items place n s.run.listed s.run.paired s.run.within s.run.sound
      s.run.goals_sound (name_at s.users place) (place_found s.users place (distinct_users s.users s.run.listed) inside) set reach none

  -- it is none that is to be planned
  pub untimely_so : (why : Refusal) → TellsToPlan own desk.known (names s.users set) n (Err why) → Handles s place (events.Plan n) (Err why) s
  untimely_so why tells = left_so s place (events.Plan n) (Err why) (λ actor found.
      not_to_plan s.users s.limits.charge (trusts s.trust) s.jobs.goals old s.desks.items place n s.run.listed s.run.paired s.run.within s.run.sound
      s.run.goals_sound actor found why
      (told_of_him s.users s.limits.charge (trusts s.trust) s.jobs.goals old s.desks.items place n s.run.listed s.run.paired s.run.within s.run.sound
      s.run.goals_sound actor found set (Err why) reach tells))

  module _ (d : Bor Admission) (tells : TellsToPlan own desk.known (names s.users set) n (Ok d)) where
    its : (g : Goal) × (goal_at n own ≡ Some g)
    its = goal_there own desk.known (names s.users set) n d tells

    -- it is not resolved
    pub unresolved_so : (why : Refusal) → AtPlace (trusts s.trust) old s.desks.items place (λ setup w u. IsNotResolvedFor setup w u d.now.derivation why)
        → fails why ≡ false → Handles s place (events.Plan n) (Err why) s
    unresolved_so why unresolved final = left_so s place (events.Plan n) (Err why) (λ actor found.
        let it = told_of_him s.users s.limits.charge (trusts s.trust) s.jobs.goals old s.desks.items place n s.run.listed s.run.paired s.run.within s.run.sound
        s.run.goals_sound actor found set (Ok d) reach tells in
        not_resolved s.users s.limits.charge (trusts s.trust) s.jobs.goals old s.desks.items place n s.run.listed s.run.paired s.run.within s.run.sound
        s.run.goals_sound actor found d.now.derivation it why
        (unresolved s.users s.limits.charge s.jobs.goals actor s.run.listed found s.run.paired s.run.within) final)

    -- it fails
    pub failed_so : (why : Refusal) (new : OwnedByAll) (told : Rust.Reply)
        → AtPlace (trusts s.trust) old s.desks.items place (λ setup w u. IsNotResolvedFor setup w u d.now.derivation why) → fails why ≡ true
        → ChangesGoal place n (in_status (Failed why)) s.jobs new → reply_of told ≡ replies.Status (Failed why)
        → IsHandledByAll (parts_of s) place (events.Plan n) (Ok told) (record (parts_of s) { goals = new.goals })
    failed_so why new told unresolved final changes is =
        goals_so s place (events.Plan n) (Ok told) new (with_goal_at n (in_status (Failed why) its.0) own) old (changes its.0 its.1) (λ actor found.
        let it = told_of_him s.users s.limits.charge (trusts s.trust) s.jobs.goals old s.desks.items place n s.run.listed s.run.paired s.run.within s.run.sound
        s.run.goals_sound actor found set (Ok d) reach tells in
        let there = own_there s.users s.limits.charge (trusts s.trust) s.jobs.goals old s.desks.items place n s.run.listed s.run.paired s.run.within s.run.sound
        s.run.goals_sound actor found d.now.derivation it in
        let same : it.goal ≡ its.0 = (let two : Some it.goal ≡ Some its.0 = sym there ∙ its.1 in cc) in
        rw (← same)
        (failed s.users s.limits.charge (trusts s.trust) s.jobs.goals old s.desks.items place n s.run.listed s.run.paired s.run.within s.run.sound
        s.run.goals_sound actor found d.now.derivation it why told
        (unresolved s.users s.limits.charge s.jobs.goals actor s.run.listed found s.run.paired s.run.within) final is))

    module _ (law : ServedAreMade) (r : Resolved)
        (resolved : AtPlace (trusts s.trust) old s.desks.items place (λ setup w u. IsResolvedFor setup w u d.now.derivation r)) where
      -- it is not kept
      pub unkept_so : (why : Refusal) → IsNotKept old r why → Handles s place (events.Plan n) (Err why) s
      unkept_so why unkept = left_so s place (events.Plan n) (Err why) (λ actor found.
          let it = told_of_him s.users s.limits.charge (trusts s.trust) s.jobs.goals old s.desks.items place n s.run.listed s.run.paired s.run.within
          s.run.sound
          s.run.goals_sound actor found set (Ok d) reach tells in
          not_kept s.users s.limits.charge (trusts s.trust) s.jobs.goals old s.desks.items place n s.run.listed s.run.paired s.run.within s.run.sound
          s.run.goals_sound actor found d.now.derivation it law r (resolved s.users s.limits.charge s.jobs.goals actor s.run.listed found s.run.paired
          s.run.within) why unkept)

      module _ (closure : IsClosure r.closure) (new : OwnedByAll) (table : List Source) where
        abbrev Keeps : Type 0
        Keeps = (g : Goal) → goal_at n own ≡ Some g → new ≡ with_goals_at place (with_goal_at n (planned_with r g) own) s.jobs

        -- it is planned
        pub planned_so : (told : Rust.Reply) → reply_of told ≡ replies.Status Planned → Keeps → table ≡ put_all (map source_of_entry r.closure) old
            → All (IsStored table) r.closure
            → IsHandledByAll (parts_of s) place (events.Plan n) (Ok told) (record (parts_of s) { goals = new.goals; table = table })
        planned_so told is keeps stored there =
            goals_so s place (events.Plan n) (Ok told) new (with_goal_at n (planned_with r its.0) own) table (keeps its.0 its.1) (λ actor found.
            let it = told_of_him s.users s.limits.charge (trusts s.trust) s.jobs.goals old s.desks.items place n s.run.listed s.run.paired
            s.run.within s.run.sound
            s.run.goals_sound actor found set (Ok d) reach tells in
            let own_goal = own_there s.users s.limits.charge (trusts s.trust) s.jobs.goals old s.desks.items place n s.run.listed s.run.paired
            s.run.within s.run.sound
            s.run.goals_sound actor found d.now.derivation it in
            let same : it.goal ≡ its.0 = (let two : Some it.goal ≡ Some its.0 = sym own_goal ∙ its.1 in cc) in
            rw (← same, stored)
            (planned s.users s.limits.charge (trusts s.trust) s.jobs.goals old s.desks.items place n s.run.listed s.run.paired s.run.within s.run.sound
            s.run.goals_sound actor found d.now.derivation it law r
            (resolved s.users s.limits.charge s.jobs.goals actor s.run.listed found s.run.paired s.run.within)
            told is closure (subst (λ (t : List Source). All (IsStored t) r.closure) stored there)))

    -- a state keeps its facts, whatever comes of keeping it
    module _ (below : HasPlace s place) (law : ServedAreMade) (r : Resolved)
        (resolved : AtPlace (trusts s.trust) old s.desks.items place (λ setup w u. IsResolvedFor setup w u d.now.derivation r)) (closure : IsClosure r.closure)
        (new : OwnedByAll) (table : List Source) where
      pub run_kept : (result : Result (Unit {0}) Refusal)
          → ((g : Goal) → goal_at n own ≡ Some g → OnOk result (new ≡ with_goals_at place (with_goal_at n (planned_with r g) own) s.jobs))
          → OnOk result (table ≡ put_all (map source_of_entry r.closure) old) → OnOk result (All (IsStored table) r.closure)
          → OnErr result ((new ≡ s.jobs) × (table ≡ old)) → IsRun (record (parts_of s) { goals = new.goals; table = table })
      run_kept (Ok done) keeps stored there left =
          still_run (parts_of s) (record (parts_of s) { goals = new.goals; table = table }) place (events.Plan n) (Ok (reply.Status
          status.Planned)) s.run below
          (planned_so law r resolved closure new table (reply.Status status.Planned) refl keeps stored there)
      run_kept (Err why) keeps stored there left =
          subst (λ (t : List Source). IsRun (record (parts_of s) { goals = new.goals; table = t })) (sym left.1)
          (subst (λ (j : OwnedByAll). IsRun (record (parts_of s) { goals = j.goals })) (sym left.0) s.run)

      pub owned_kept : (result : Result (Unit {0}) Refusal)
          → ((g : Goal) → goal_at n own ≡ Some g → OnOk result (new ≡ with_goals_at place (with_goal_at n (planned_with r g) own) s.jobs))
          → OnErr result ((new ≡ s.jobs) × (table ≡ old)) → new.users ≡ s.users
      owned_kept (Ok done) keeps left = ap (λ (j : OwnedByAll). j.users) (keeps its.0 its.1) ∙ s.owned
      owned_kept (Err why) keeps left = ap (λ (j : OwnedByAll). j.users) left.0 ∙ s.owned
