-- A request does the same where goals wait whose leaders its user does not reach.
use Rattle.std.proofs.Common.{◌≡◌, ℕ, suc, Bool, true, false, inl, inr, refl, sym, ◌∙◌, ap, List, [], ◌∷◌, length, map, Option, Some, None, Result, Ok, Err}
use Rattle.std.specs.Prelude.{if◌then◌else◌, ◌&&◌, ◌||◌, not, is_some, nat_lt, bytes_eq, option_map, filter, flat_map}
use Rattle.std.specs.List.{list_any}
use Rattle.std.proofs.lemmas.List.{length-map, map-append}
use Rattle.std.proofs.lemmas.List.Folds.{flat_map-map}
use Rattle.model.specs.declared.refusal.Refusal.{Refusal}
use Rattle.model.specs.declared.refusal.Refusal.TheVariants.{UnknownUser, Quota, TooLarge, BadDerivation, UnknownDerivation, UnknownGoal, WrongState, NotRealised, NotHeld, InUse}
use Rattle.model.specs.Archives.{Tree, bytes_before}
use Rattle.model.specs.Limits.{most_goals}
use Rattle.model.specs.Derivations.{Derivation}
use Rattle.model.specs.DerivationTexts.{derivation_of_text}
use Rattle.model.specs.Classes.{Admission, Known, known_at, derivation_path, admit}
use Rattle.model.specs.Results.{then_do, unless_rewrite_refused}
use Rattle.model.specs.Worlds.{Setup, Pin, Entry, OfSource, OfRecord, Resolved, Job, Status, Waiting, Planned, Building, Done, Failed, Goal, Desk, known_of, held_at, with_entry, with_entries, with_derivation, with_trust, without_trust, pin_of, with_pin, is_within, Record, has_record, with_record}
use Rattle.model.specs.References.{candidates}
use Rattle.model.specs.Outputs.{record_for}
use Rattle.model.specs.Choices.{visible_records, visible_sources, choose_among, plan_by}
use Rattle.model.specs.Closures as closures
use Rattle.model.specs.Closures.{path_for, served_plan}
use Rattle.model.specs.Resolutions.{input_classes, resolved_over, resolve}
use Rattle.model.specs.FinishedBuilds.{built_in, built_on, is_labelled_by, finished_build, for_class}
use Rattle.model.specs.Orders.{least}
use Rattle.model.specs.Goals.{goal_at, with_goal, with_new_goal, new_goal, in_status, as_seen, is_waiting, is_building, planned_in, same_job, job_of}
use Rattle.model.specs.Endings.{End, Output, Failure}
use Rattle.model.specs.Replies as replies
use Rattle.model.specs.Events.{Request, AddSource, AddDerivation, Offer, Fetch, Trust, Distrust, Pin as PinIt, Unpin, Closure, Take, Build, Status as StatusRequest, Plan, Start, Finish, Fail, Forget}
use Rattle.model.specs.Replies.{Reply, Path}
use Rattle.model.specs.Outcomes.{Observation, Ended, Outcome, becomes, check, need, room, add_entry, delivered}
use Rattle.model.specs.SourceRequests.{source_named}
use Rattle.model.specs.DerivationRequests.{admit_new}
use Rattle.model.specs.OfferRequests.{output_settled, offer}
use Rattle.model.specs.ClosureRequests.{closure_for, take_entries}
use Rattle.model.specs.GoalRequests.{turns, plan_resolved, resolve_for, plan, own_job, done_again, start_copied, start_goal, start}
use Rattle.model.specs.EndRequests.{told_of, end_job}
use Rattle.model.specs.ForgetRequests.{refers_to_class, is_built_from, builds_with, remaining, let_go, forget}
use Rattle.model.specs.Steps.{outcome}
use Rattle.model.specs.Timed.{status_in, goal_in, desk_in}
use Rattle.model.proofs.BoolLemmas.{either, both_parts, same_bytes}
use Rattle.laws.proofs.FitLemmas.{IsSound, job_reached}
use Rattle.laws.proofs.InJobsLemmas.{at_in, goal_put, entries_in, within_in, in_job, delivered_in}

-- what a user sees, and what his request does, where his goals and those that he sees are in these jobs alone
abbrev pub observation_in : (Job → Bool) → Observation → Observation
observation_in jobs s = record s { desk = desk_in jobs s.desk; view = map (desk_in jobs) s.view }

abbrev pub outcome_in : (Job → Bool) → Outcome → Outcome
outcome_in jobs (Err why) = Err why
outcome_in jobs (Ok c) = Ok (record { desk = desk_in jobs c.desk; reply = c.reply; notification = c.notification })

-- all jobs whose leaders are reached are among these
abbrev pub Covers : (Job → Bool) → (List ℕ → Bool) → Type 0
Covers jobs reach = (job : Job) → reach job.leader ≡ true → jobs job ≡ true

module _ (jobs : Job → Bool) where
  -- ---- checks in turn

  checked_in : (why : Refusal) (b c : Bool) (o p : Outcome) → b ≡ c → o ≡ outcome_in jobs p → check why b o ≡ outcome_in jobs (check why c p)
  checked_in why true c o p same is = rw (← same) is
  checked_in why false c o p same is = rw (← same) refl

  either_in : (b c : Bool) (o p x y : Outcome) → b ≡ c → o ≡ outcome_in jobs x → p ≡ outcome_in jobs y
      → (if b then o else p) ≡ outcome_in jobs (if c then x else y)
  either_in true c o p x y same one other = rw (← same) one
  either_in false c o p x y same one other = rw (← same) other

  needed_in : {X : Type 0} (why : Refusal) (x : Option X) (f g : X → Outcome) → ((y : X) → f y ≡ outcome_in jobs (g y))
      → need why x f ≡ outcome_in jobs (need why x g)
  needed_in why None f g h = refl
  needed_in why (Some y) f g h = h y

  then_done_in : {X : Type 0} (x : Result X Refusal) (f g : X → Outcome) → ((y : X) → f y ≡ outcome_in jobs (g y)) → then_do x f ≡ outcome_in jobs (then_do x g)
  then_done_in (Err why) f g h = refl
  then_done_in (Ok y) f g h = h y

  roomed_in : (setup : Setup) (d e : Desk) (r : Reply) → d ≡ desk_in jobs e → room setup d r ≡ outcome_in jobs (room setup e r)
  roomed_in setup d e r is = ap (λ x. room setup x r) is ∙ checked_in Quota _ _ _ (becomes e r) (within_in jobs setup e) refl

  entry_added_in : (setup : Setup) (d : Desk) (e : Entry) → add_entry setup (desk_in jobs d) e ≡ outcome_in jobs (add_entry setup d e)
  entry_added_in setup d (OfSource s) = either_in _ _ _ _ (becomes d (Path s.path)) (room setup (with_entry (OfSource s) d) (Path s.path)) refl refl (roomed_in setup _ (with_entry (OfSource s) d) _ refl)
  entry_added_in setup d (OfRecord r) = either_in _ _ _ _ (becomes d (Path r.path)) (room setup (with_entry (OfRecord r) d) (Path r.path)) refl refl (roomed_in setup _ (with_entry (OfRecord r) d) _ refl)

  -- ---- what is visible

  closure_in : (view : List Desk) (pins : List Pin) (classes sources : List (List ℕ))
      → closures.closure_entries (map (desk_in jobs) view) pins classes sources ≡ closures.closure_entries view pins classes sources
  closure_in view pins classes sources =
      let records : visible_records (map (desk_in jobs) view) ≡ visible_records view = flat_map-map (λ d. d.records) (desk_in jobs) view in
      let trees : visible_sources (map (desk_in jobs) view) ≡ visible_sources view = flat_map-map (λ d. d.sources) (desk_in jobs) view in
      λ i. then_do (plan_by (records i) (trees i) (λ class. choose_among (records i) pins class) classes sources) served_plan

  resolve_in : (view : List Desk) (pins : List Pin) (known : Known) (d : Derivation)
      → resolve (map (desk_in jobs) view) pins known d ≡ resolve view pins known d
  resolve_in view pins known d =
      let classes : List (List ℕ) = input_classes known d in
      ap (λ o. then_do o (resolved_over classes d)) (closure_in view pins classes d.sources)

  -- ---- goals

  -- a goal is looked up among the goals in these jobs
  goal_needed_in : (why : Refusal) (n : ℕ) (goals : List Goal) (f g : Goal → Outcome) → ((x : Goal) → f (goal_in jobs x) ≡ outcome_in jobs (g x))
      → need why (goal_at n (map (goal_in jobs) goals)) f ≡ outcome_in jobs (need why (goal_at n goals) g)
  goal_needed_in why n goals f g h = ap (λ o. need why o f) (at_in jobs n goals) ∙ of (goal_at n goals)
    where
      of : (o : Option Goal) → need why (option_map (goal_in jobs) o) f ≡ outcome_in jobs (need why o g)
      of None = refl
      of (Some x) = h x

  -- what was built for goals that are done
  built_same : (r : Resolved) (d : Desk) (g : Goal) (s : Status) → built_in r (desk_in jobs d) (goal_in jobs g) (status_in jobs s) ≡ built_in r d g s
  built_same r d g Waiting = refl
  built_same r d g Planned = refl
  built_same r d g (Building job) = elim (either (jobs job)) [ inl is ↦ rw is refl | inr f ↦ rw f refl ]
  built_same r d g (Done path) = refl
  built_same r d g (Failed why) = refl

  built_on_same : (r : Resolved) (d : Desk) → built_on r (desk_in jobs d) ≡ built_on r d
  built_on_same r d =
      flat_map-map (λ g. built_in r (desk_in jobs d) g g.status) (goal_in jobs) d.goals
      ∙ (λ i. flat_map (λ g. (built_same r d g g.status) i) d.goals)

  finished_in : (view : List Desk) (r : Resolved) → finished_build (map (desk_in jobs) view) r ≡ finished_build view r
  finished_in view r =
      let built : flat_map (built_on r) (map (desk_in jobs) view) ≡ flat_map (built_on r) view =
      flat_map-map (built_on r) (desk_in jobs) view ∙ (λ i. flat_map (λ d. (built_on_same r d) i) view) in
      ap (λ rs. least (λ p q. bytes_before p.path q.path) (filter (is_labelled_by r) rs)) built

  planned_same : (s : Status) (r : Option Resolved) → planned_in (status_in jobs s) r ≡ planned_in s r
  planned_same Waiting r = refl
  planned_same Planned r = refl
  planned_same (Building job) r = elim (either (jobs job)) [ inl t ↦ rw t refl | inr f ↦ rw f refl ]
  planned_same (Done path) r = refl
  planned_same (Failed why) r = refl

  module _ (setup : Setup) (s : Observation) (sound : IsSound s) (covers : Covers jobs s.reach) where
    -- the same with the goals in these jobs alone
    abbrev t : Observation
    t = observation_in jobs s

    -- how far a goal is, as its user sees it
    seen_in : (status : Status) → as_seen s.reach (status_in jobs status) ≡ as_seen s.reach status
    seen_in Waiting = refl
    seen_in Planned = refl
    seen_in (Building job) = elim (either (jobs job)) [
      | inl is ↦ rw is refl
      | inr f ↦ elim (either (s.reach job.leader)) [
        | inl reached ↦ let is : jobs job ≡ true = covers job reached in absurd (cc)
        | inr apart ↦ rw (f, apart) refl
      ]
    ]
    seen_in (Done path) = refl
    seen_in (Failed why) = refl

    told_in : (o : Option Goal) → told_of s.reach (option_map (goal_in jobs) o) ≡ told_of s.reach o
    told_in None = refl
    told_in (Some g) = ap replies.Status (seen_in g.status)

    turned_in : (d e : Desk) (n : ℕ) (g : Goal) → d ≡ desk_in jobs e → goal_in jobs g ≡ g → turns t d n g ≡ outcome_in jobs (turns s e n g)
    turned_in d e n g is same =
        let desk : with_goal n g d ≡ desk_in jobs (with_goal n g e) = ap (with_goal n g) is ∙ goal_put jobs n g e same in
        ap (λ x. becomes x (replies.Status (as_seen s.reach g.status))) desk

    -- ---- planning and starting

    plan_resolved_in : (n : ℕ) (g : Goal) (o : Result Resolved Refusal) → plan_resolved t n (goal_in jobs g) o ≡ outcome_in jobs (plan_resolved s n g o)
    plan_resolved_in n g (Ok r) = turned_in _ s.desk n (record { derivation = g.derivation; resolved = Some r; status = Planned }) refl refl
    plan_resolved_in n g (Err NotRealised) = refl
    plan_resolved_in n g (Err why) = turned_in _ s.desk n (in_status (Failed why) g) refl refl

    plan_in : (n : ℕ) → plan t n ≡ outcome_in jobs (plan s n)
    plan_in n =
        goal_needed_in UnknownGoal n s.desk.goals _ _ (λ g.
        checked_in WrongState _ _ _ _ (ap is_waiting (seen_in g.status))
        (needed_in UnknownDerivation (known_at (known_of s.desk) g.derivation) _ _ (λ a.
        ap (plan_resolved t n (goal_in jobs g)) (resolve_in s.view s.desk.pins (known_of s.desk) a.derivation)
        ∙ plan_resolved_in n g (resolve_for s a.derivation))))

    again_in : (d e : Desk) (n : ℕ) (g : Goal) (r : Record) → d ≡ desk_in jobs e
        → done_again setup t d n (goal_in jobs g) r ≡ outcome_in jobs (done_again setup s e n g r)
    again_in d e n g r is =
        let done : Goal = in_status (Done r.path) g in
        let failed : Goal = in_status (Failed Quota) g in
        let more : with_record r d ≡ desk_in jobs (with_record r e) = ap (with_record r) is in
        either_in (has_record r d) (has_record r e) (turns t d n done)
        (if is_within setup (with_record r d) then turns t (with_record r d) n done else turns t d n failed)
        (turns s e n done) (if is_within setup (with_record r e) then turns s (with_record r e) n done else turns s e n failed)
        (ap (has_record r) is) (turned_in d e n done is refl)
        (either_in (is_within setup (with_record r d)) (is_within setup (with_record r e)) (turns t (with_record r d) n done) (turns t d n failed)
        (turns s (with_record r e) n done) (turns s e n failed)
        (ap (is_within setup) more ∙ within_in jobs setup (with_record r e))
        (turned_in (with_record r d) (with_record r e) n done more refl) (turned_in d e n failed is refl))

    joins_in : (d e : Desk) (n : ℕ) (g : Goal) (r : Resolved) → d ≡ desk_in jobs e
        → turns t d n (in_status (Building (job_of s.running (own_job s n) r)) g) ≡ outcome_in jobs (turns s e n (in_status (Building (job_of s.running (own_job s n) r)) g))
    joins_in d e n g r is =
        let job : Job = job_of s.running (own_job s n) r in
        let inside : jobs job ≡ true = covers job (job_reached s n r sound) in
        turned_in d e n (in_status (Building job) g) is (rw inside refl)

    copied_in : (d e : Desk) (n : ℕ) (g : Goal) (r : Resolved) (known : Option Admission) (built : Option Record) → d ≡ desk_in jobs e
        → start_copied setup t d n (goal_in jobs g) r known built ≡ outcome_in jobs (start_copied setup s e n g r known built)
    copied_in d e n g r (Some a) (Some q) is = again_in d e n g (for_class a.class q) is
    copied_in d e n g r (Some a) None is = joins_in d e n g r is
    copied_in d e n g r None built is = joins_in d e n g r is

    start_goal_in : (n : ℕ) (g : Goal) (r : Resolved) → start_goal setup t n (goal_in jobs g) r ≡ outcome_in jobs (start_goal setup s n g r)
    start_goal_in n g r =
        let now : Desk = with_entries r.closure t.desk in
        let old : Desk = with_entries r.closure s.desk in
        let copied : now ≡ desk_in jobs old = entries_in jobs r.closure s.desk in
        let known : Option Admission = known_at (known_of s.desk) g.derivation in
        either_in (is_within setup now) (is_within setup old)
        (start_copied setup t now n (goal_in jobs g) r known (finished_build t.view r)) (turns t t.desk n (in_status (Failed Quota) g))
        (start_copied setup s old n g r known (finished_build s.view r)) (turns s s.desk n (in_status (Failed Quota) g))
        (ap (is_within setup) copied ∙ within_in jobs setup old)
        (ap (start_copied setup t now n (goal_in jobs g) r known) (finished_in s.view r) ∙ copied_in now old n g r known (finished_build s.view r) copied)
        (turned_in t.desk s.desk n (in_status (Failed Quota) g) refl refl)

    start_in : (n : ℕ) → start setup t n ≡ outcome_in jobs (start setup s n)
    start_in n =
        goal_needed_in UnknownGoal n s.desk.goals _ _ (λ g.
        ap (λ o. need WrongState o (start_goal setup t n (goal_in jobs g))) (planned_same g.status g.resolved)
        ∙ needed_in WrongState (planned_in g.status g.resolved) _ _ (λ r. start_goal_in n g r))

    -- ---- ending

    end_in : (n : ℕ) (end : End) → end_job setup t n end ≡ outcome_in jobs (end_job setup s n end)
    end_in n end =
        let own : (job : Job) → job.leader ≡ s.user → jobs job ≡ true = λ job is. covers job (ap s.reach is ∙ sound.own) in
        let after : Desk = delivered setup s.user (s.reach s.user) (Ended n end) s.desk in
        let receives : delivered setup s.user (s.reach s.user) (Ended n end) (desk_in jobs s.desk) ≡ desk_in jobs after = delivered_in setup jobs s.user (s.reach s.user) (Ended n end) s.desk own in
        let reply : told_of s.reach (goal_at n (delivered setup s.user (s.reach s.user) (Ended n end) (desk_in jobs s.desk)).goals) ≡ told_of s.reach (goal_at n after.goals) =
        ap (λ (d : Desk). told_of s.reach (goal_at n d.goals)) receives ∙ ap (told_of s.reach) (at_in jobs n after.goals) ∙ told_in (goal_at n after.goals) in
        goal_needed_in UnknownGoal n s.desk.goals _ _ (λ g.
        checked_in WrongState _ _ _ _ (in_job jobs (own_job s n) (λ other same. own other (leader_of other same)) g.status)
        (λ i. Ok (record { desk = desk_in jobs s.desk; reply = reply i; notification = Ended n end })))
      where
        leader_of : (other : Job) → same_job other (own_job s n) ≡ true → other.leader ≡ s.user
        leader_of other same = same_bytes other.leader s.user (both_parts _ _ same).0

    -- ---- the others

    admitted_in : (derivation : Derivation) (o : Option Admission) → admit_new setup t.desk derivation o ≡ outcome_in jobs (admit_new setup s.desk derivation o)
    admitted_in derivation (Some a) = refl
    admitted_in derivation None = then_done_in (admit (known_of s.desk) derivation) _ _ (λ a. roomed_in setup _ (with_derivation a s.desk) _ refl)

    offer_in : (path : List ℕ) (tree : Tree) → offer setup t.desk path tree ≡ outcome_in jobs (offer setup s.desk path tree)
    unfolding candidates
    offer_in path tree =
        needed_in UnknownDerivation (known_at (known_of s.desk) path) _ _ (λ a.
        then_done_in (unless_rewrite_refused (output_settled (candidates s.desk a.derivation) a tree)) _ _ (λ settled.
        entry_added_in setup s.desk (OfRecord (record_for (candidates s.desk a.derivation) a settled))))

    -- ---- forgetting

    let_go_in : (class path : List ℕ) (g : Goal) → let_go class path (goal_in jobs g) ≡ goal_in jobs (let_go class path g)
    let_go_in class path g = of g.status
      where
        of : (status : Status) → let_go class path (in_status (status_in jobs status) g) ≡ goal_in jobs (let_go class path (in_status status g))
        of Waiting = refl
        of Planned = refl
        of (Building job) = elim (either (jobs job)) [
          | inl is ↦ elim (either (is_built_from class path g.resolved)) [ inl from ↦ rw (is, from) refl | inr other ↦ rw (is, other) (rw is refl) ]
          | inr f ↦ elim (either (is_built_from class path g.resolved)) [ inl from ↦ rw (f, from) refl | inr other ↦ rw (f, other) (rw f refl) ]
        ]
        of (Done path) = refl
        of (Failed why) = refl

    all_let_go_in : (class path : List ℕ) (goals : List Goal)
        → map (let_go class path) (map (goal_in jobs) goals) ≡ map (goal_in jobs) (map (let_go class path) goals)
    all_let_go_in class path [] = refl
    all_let_go_in class path (g ∷ goals) =
        let one = let_go_in class path g in
        let rest = all_let_go_in class path goals in
        λ i. one i ∷ rest i

    builds_in : (class path : List ℕ) (goals : List Goal)
        → list_any (builds_with s.reach class path) (map (goal_in jobs) goals) ≡ list_any (builds_with s.reach class path) goals
    builds_in class path [] = refl
    builds_in class path (g ∷ goals) =
        let one = seen_in g.status in
        let rest = builds_in class path goals in
        λ i. (is_building (one i) && is_built_from class path g.resolved) || rest i

    forget_in : (class path : List ℕ) → forget t class path ≡ outcome_in jobs (forget s class path)
    forget_in class path =
        let records : Bool = list_any (refers_to_class class path) (remaining class path s.desk.records) in
        checked_in NotHeld _ _ _ _ refl
        (checked_in InUse _ _ _ _ (ap (λ b. not (records || b)) (builds_in class path s.desk.goals))
        (ap (λ gs. becomes (record s.desk { records = remaining class path s.desk.records; goals = gs }) replies.Ok) (all_let_go_in class path s.desk.goals)))

    pub requested_in : (request : Request) → outcome setup t request ≡ outcome_in jobs (outcome setup s request)
    unfolding outcome
    requested_in (AddSource name tree) = entry_added_in setup s.desk (OfSource (source_named name tree))
    requested_in (AddDerivation text) =
        checked_in TooLarge _ _ _ _ refl
        (needed_in BadDerivation (derivation_of_text text) _ _ (λ derivation. admitted_in derivation (known_at (known_of s.desk) (derivation_path derivation))))
    requested_in (Offer path tree) = offer_in path tree
    requested_in (Fetch path) = needed_in NotHeld (held_at path s.desk) _ _ (λ tree. refl)
    requested_in (Trust other) =
        checked_in UnknownUser _ _ _ (becomes (if bytes_eq other s.user then s.desk else with_trust other s.desk) replies.Ok) refl
        (elim (either (bytes_eq other s.user)) [ inl is ↦ rw is refl | inr f ↦ rw f refl ])
    requested_in (Distrust other) = checked_in UnknownUser _ _ _ (becomes (without_trust other s.desk) replies.Ok) refl refl
    requested_in (PinIt class path) =
        either_in (is_some (pin_of s.desk.pins class)) _ _ _ (becomes (with_pin class path s.desk) replies.Ok) (room setup (with_pin class path s.desk) replies.Ok) refl refl
        (roomed_in setup _ (with_pin class path s.desk) _ refl)
    requested_in (Unpin class) = refl
    requested_in (Closure class) =
        ap (λ o. then_do o (λ entries. becomes t.desk (replies.Closure entries))) (closure_in s.view s.desk.pins (class ∷ []) [])
        ∙ then_done_in (closure_for s class) _ _ (λ entries. refl)
    requested_in (Take class) =
        ap (λ o. then_do o (take_entries setup t.desk class)) (closure_in s.view s.desk.pins (class ∷ []) [])
        ∙ then_done_in (closure_for s class) _ _ (λ entries.
        needed_in NotRealised (path_for class entries) _ _ (λ path. roomed_in setup _ (with_entries entries s.desk) _ (entries_in jobs entries s.desk)))
    requested_in (Build path) =
        needed_in UnknownDerivation (known_at (known_of s.desk) path) _ _ (λ a.
        ap (λ n. check Quota (nat_lt n most_goals) (becomes (with_new_goal path t.desk) (replies.Goal (suc n)))) (length-map s.desk.goals (goal_in jobs))
        ∙ checked_in Quota _ _ _ (becomes (with_new_goal path s.desk) (replies.Goal (suc (length s.desk.goals)))) refl
        (ap (λ gs. becomes (record t.desk { goals = gs }) (replies.Goal (suc (length s.desk.goals)))) (sym (map-append (goal_in jobs) s.desk.goals (new_goal path ∷ [])))))
    requested_in (StatusRequest n) = goal_needed_in UnknownGoal n s.desk.goals _ _ (λ g. ap (λ status. becomes t.desk (replies.Status status)) (seen_in g.status))
    requested_in (Plan n) = plan_in n
    requested_in (Start n) = start_in n
    requested_in (Finish n bytes) = end_in n (Output bytes)
    requested_in (Fail n status) = end_in n Failure
    requested_in (Forget class path) = forget_in class path
