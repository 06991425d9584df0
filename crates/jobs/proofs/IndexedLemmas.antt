-- The indexes find what they are to find, when goals are added, planned, enter jobs, leave them and are done.
use Rattle.std.proofs.Common.{◌≡◌, ℕ, ◌-◌, Bool, true, false, List, [], ◌∷◌, ◌++◌, refl, sym, ◌∙◌, ap, arith, Option, Some, None}
use Rattle.std.specs.Prelude.{slice_set, slice_index_or, ◌&&◌, bytes_eq}
use Rattle.jobs.specs.declared.ascending.Ascending.{Ascending}
use Rattle.model.specs.Worlds.{Resolved, Job, Goal, Status, Waiting, Planned, Building, Done, Failed}
use Rattle.model.specs.Goals.{goal_at, is_in, same_job, in_status, new_goal, is_building}
use Rattle.jobs.specs.Owned.{Owned}
use Rattle.jobs.specs.Rising.{with_number, without_number}
use Rattle.jobs.specs.Numbers.{numbers, in_any_job, building, numbers_at, entered, left, moved, is_of, has_scratch, own_job, leads_at, is_built_under, firsts, HasSameNumbers, EntersJob, EntersPath, LeavesJob, LeavesPath, MovesPath, HasRoom, Finds, FindsFinished, IsIndexed}
use Rattle.jobs.specs.Statuses.{planned_with, IsIdle}
use Rattle.jobs.proofs.NumberLemmas.{set_left, set_entered, set_kept, set_moved, not_there, pushed, got}
use Rattle.jobs.proofs.FinishedLemmas.{finished_pushed}

not_in : (job : Job) (s : Status) → is_building s ≡ false → is_in job s ≡ false
not_in job Waiting f = refl
not_in job Planned f = refl
not_in job (Building other) f = cc
not_in job (Done path) f = refl
not_in job (Failed why) f = refl

not_leading : (job : Job) (s : Status) (under : Bool) → (is_building s && under) ≡ false → (is_in job s && under) ≡ false
not_leading job Waiting under f = refl
not_leading job Planned under f = refl
not_leading job (Building other) true f = cc
not_leading job (Building other) false f = either_way (same_job other job)
  where
    either_way : (b : Bool) → (b && false) ≡ false
    either_way true = refl
    either_way false = refl
not_leading job (Done path) under f = refl
not_leading job (Failed why) under f = refl

idle_leads : (job : Job) (s : Status) (under : Bool) → is_building s ≡ false → (is_in job s && under) ≡ false
idle_leads job s under f = rw (not_in job s f) refl

pub indexed_nothing : (owner listed : List ℕ) (jobs : List (Job × Ascending)) (leading built done : List (List ℕ × Ascending)) → listed ≡ [] → jobs ≡ []
    → leading ≡ [] → built ≡ [] → done ≡ [] → IsIndexed owner [] listed jobs leading built done
unfolding numbers firsts
indexed_nothing owner listed jobs leading built done none_listed no_jobs none_leading none_built none_done = record {
  of_building = none_listed;
  of_jobs = λ job. rw no_jobs refl;
  of_leading = λ path. rw none_leading refl;
  of_built = λ path. rw none_built refl;
  of_done = λ path. rw none_done refl;
  room = λ path. rw (none_built, none_done) (omega arith);
}

pub indexed_added : (owner path : List ℕ) (gs : List Goal) (listed : List ℕ) (jobs : List (Job × Ascending)) (leading built done : List (List ℕ × Ascending))
    → IsIndexed owner gs listed jobs leading built done → IsIndexed owner (gs ++ new_goal path ∷ []) listed jobs leading built done
indexed_added owner path gs listed jobs leading built done is = record {
  of_building = is.of_building ∙ pushed in_any_job gs (new_goal path) (λ n. refl);
  of_jobs = λ job. is.of_jobs job ∙ pushed (is_of job) gs (new_goal path) (λ n. refl);
  of_leading = λ p. is.of_leading p ∙ pushed (leads_at owner p) gs (new_goal path) (λ n. refl);
  of_built = λ p. is.of_built p ∙ pushed (is_built_under p) gs (new_goal path) (λ n. refl);
  of_done = λ p. is.of_done p ∙ finished_pushed gs path p;
  room = is.room;
}

-- lists that have the same numbers as those that find the goals
pub indexed_alike : (owner : List ℕ) (gs : List Goal) (listed new_listed : List ℕ) (jobs new_jobs : List (Job × Ascending))
    (leading new_leading built new_built done new_done : List (List ℕ × Ascending))
    → new_listed ≡ listed → HasSameNumbers same_job jobs new_jobs → HasSameNumbers bytes_eq leading new_leading → HasSameNumbers bytes_eq built new_built
    → FindsFinished gs new_done → HasRoom new_built new_done → IsIndexed owner gs listed jobs leading built done
    → IsIndexed owner gs new_listed new_jobs new_leading new_built new_done
indexed_alike owner gs listed new_listed jobs new_jobs leading new_leading built new_built done new_done of_building of_jobs of_leading of_built of_done room
    is = record {
      of_building = of_building ∙ is.of_building;
      of_jobs = λ job. of_jobs job ∙ is.of_jobs job;
      of_leading = λ path. of_leading path ∙ is.of_leading path;
      of_built = λ path. of_built path ∙ is.of_built path;
      of_done = of_done;
      room = room;
    }

-- one goal of a user is written, and stays where it was listed, is listed elsewhere or nowhere
module _ (owner : List ℕ) (gs : List Goal) (n : ℕ) (g : Goal) (at : goal_at n gs ≡ Some g) where
  -- where it leaves its job
  building_left : (y : Goal) (listed new_listed : List ℕ) → is_building y.status ≡ false → new_listed ≡ left (is_building g.status) n listed
      → listed ≡ building gs → new_listed ≡ building (slice_set gs (n - 1) y)
  building_left y listed new_listed idle leaves is =
      leaves ∙ ap (left (is_building g.status) n) is ∙ set_left in_any_job n gs g y (is_building g.status) at idle (λ f. f)

  of_jobs_left : (y : Goal) (jobs new_jobs : List (Job × Ascending)) → is_building y.status ≡ false → LeavesJob g.status n jobs new_jobs
      → Finds same_job is_of gs jobs → Finds same_job is_of (slice_set gs (n - 1) y) new_jobs
  of_jobs_left y jobs new_jobs idle leaves is k =
      leaves k ∙ ap (left (is_in k g.status) n) (is k) ∙ set_left (is_of k) n gs g y (is_in k g.status) at (not_in k y.status idle) (λ f. f)

  leading_left : (y : Goal) (leading new_leading : List (List ℕ × Ascending)) → is_building y.status ≡ false
      → LeavesPath (is_building g.status) g.resolved n leading new_leading
      → Finds bytes_eq (leads_at owner) gs leading → Finds bytes_eq (leads_at owner) (slice_set gs (n - 1) y) new_leading
  leading_left y leading new_leading idle leaves is p =
      leaves p
      ∙ ap (left (is_building g.status && has_scratch p g.resolved) n) (is p)
      ∙ set_left (leads_at owner p) n gs g y (is_building g.status && has_scratch p g.resolved) at
      (idle_leads (own_job owner n) y.status (has_scratch p y.resolved) idle)
      (not_leading (own_job owner n) g.status (has_scratch p g.resolved))

  -- where it is built under the path under which it was
  pub built_kept : (s : Status) (built : List (List ℕ × Ascending)) → Finds bytes_eq is_built_under gs built
      → Finds bytes_eq is_built_under (slice_set gs (n - 1) (in_status s g)) built
  built_kept s built is p = is p ∙ set_kept (is_built_under p) n gs g (in_status s g) at refl

  -- a goal that is built in no job now, and is built from the same
  pub indexed_left : (status : Status) (listed new_listed : List ℕ) (jobs new_jobs : List (Job × Ascending))
      (leading new_leading built done new_done : List (List ℕ × Ascending))
      → is_building status ≡ false → new_listed ≡ left (is_building g.status) n listed → LeavesJob g.status n jobs new_jobs
      → LeavesPath (is_building g.status) g.resolved n leading new_leading
      → FindsFinished (slice_set gs (n - 1) (in_status status g)) new_done → HasRoom built new_done
      → IsIndexed owner gs listed jobs leading built done
      → IsIndexed owner (slice_set gs (n - 1) (in_status status g)) new_listed new_jobs new_leading built new_done
  indexed_left status listed new_listed jobs new_jobs leading new_leading built done new_done idle of_building of_jobs of_leading of_done room is = record {
    of_building = building_left (in_status status g) listed new_listed idle of_building is.of_building;
    of_jobs = of_jobs_left (in_status status g) jobs new_jobs idle of_jobs is.of_jobs;
    of_leading = leading_left (in_status status g) leading new_leading idle of_leading is.of_leading;
    of_built = built_kept status built is.of_built;
    of_done = of_done;
    room = room;
  }

  -- a goal that is planned
  pub indexed_planned : (r : Resolved) (listed new_listed : List ℕ) (jobs new_jobs : List (Job × Ascending))
      (leading new_leading built new_built done new_done : List (List ℕ × Ascending))
      → new_listed ≡ left (is_building g.status) n listed → LeavesJob g.status n jobs new_jobs
      → LeavesPath (is_building g.status) g.resolved n leading new_leading → MovesPath g.resolved (Some r) n built new_built
      → FindsFinished (slice_set gs (n - 1) (planned_with r g)) new_done → HasRoom new_built new_done
      → IsIndexed owner gs listed jobs leading built done
      → IsIndexed owner (slice_set gs (n - 1) (planned_with r g)) new_listed new_jobs new_leading new_built new_done
  indexed_planned r listed new_listed jobs new_jobs leading new_leading built new_built done new_done of_building of_jobs of_leading of_built of_done room
      is = record {
        of_building = building_left (planned_with r g) listed new_listed refl of_building is.of_building;
        of_jobs = of_jobs_left (planned_with r g) jobs new_jobs refl of_jobs is.of_jobs;
        of_leading = leading_left (planned_with r g) leading new_leading refl of_leading is.of_leading;
        of_built = λ p.
            of_built p ∙ ap (moved (has_scratch p g.resolved) (has_scratch p (Some r)) n) (is.of_built p)
            ∙ set_moved (is_built_under p) n gs g (planned_with r g) (has_scratch p g.resolved) (has_scratch p (Some r)) at refl refl;
        of_done = of_done;
        room = room;
      }

  -- a goal that enters a job
  pub indexed_entered : (job : Job) (listed new_listed : List ℕ) (jobs new_jobs : List (Job × Ascending))
      (leading new_leading built done new_done : List (List ℕ × Ascending))
      → is_building g.status ≡ false → new_listed ≡ with_number n listed → EntersJob job n jobs new_jobs
      → EntersPath (same_job job (own_job owner n)) g.resolved n leading new_leading
      → FindsFinished (slice_set gs (n - 1) (in_status (Building job) g)) new_done → HasRoom built new_done
      → IsIndexed owner gs listed jobs leading built done
      → IsIndexed owner (slice_set gs (n - 1) (in_status (Building job) g)) new_listed new_jobs new_leading built new_done
  indexed_entered job listed new_listed jobs new_jobs leading new_leading built done new_done idle of_building of_jobs of_leading of_done room is = record {
    of_building =
        of_building ∙ ap (with_number n) is.of_building ∙ set_entered in_any_job n gs g (in_status (Building job) g) true at refl idle;
    of_jobs = λ k.
        of_jobs k
        ∙ ap (entered (is_in k (Building job)) n) (is.of_jobs k)
        ∙ set_entered (is_of k) n gs g (in_status (Building job) g) (is_in k (Building job)) at refl (not_in k g.status idle);
    of_leading = λ p.
        of_leading p
        ∙ ap (entered (is_in (own_job owner n) (Building job) && has_scratch p g.resolved) n) (is.of_leading p)
        ∙ set_entered (leads_at owner p) n gs g (in_status (Building job) g) (is_in (own_job owner n) (Building job) && has_scratch p g.resolved) at refl
        (idle_leads (own_job owner n) g.status (has_scratch p g.resolved) idle);
    of_built = built_kept (Building job) built is.of_built;
    of_done = of_done;
    room = room;
  }

  -- a goal that is built in no job is listed in none
  pub listed_nowhere : (job : Job) (listed : List ℕ) (jobs : List (Job × Ascending)) (leading built done : List (List ℕ × Ascending))
      → is_building g.status ≡ false → IsIndexed owner gs listed jobs leading built done
      → without_number n (numbers_at (same_job job) jobs) ≡ numbers_at (same_job job) jobs
  listed_nowhere job listed jobs leading built done idle is =
      ap (without_number n) (is.of_jobs job) ∙ not_there (is_of job) n gs g at (not_in job g.status idle) ∙ sym (is.of_jobs job)

pub idle_goal : (o : Option Goal) → IsIdle o → (g : Goal) × (o ≡ Some g) × (is_building g.status ≡ false)
idle_goal None h = absurd h
idle_goal (Some g) h = (g, refl, h)

-- the goal that is read is built in no job
pub idle_at : (o : Owned) (owner : List ℕ) (gs : List Goal) (n : ℕ) (x : Goal) → record { owner = owner; goals = gs } ≡ o → x ≡ slice_index_or gs (n - 1) x
    → IsIdle (goal_at n o.goals) → (goal_at n gs ≡ Some x) × (is_building x.status ≡ false)
idle_at o owner gs n x same read idle =
    let goals : gs ≡ o.goals = ap (λ (v : Owned). v.goals) same in
    let there = idle_goal (goal_at n o.goals) idle in
    let here : goal_at n gs ≡ Some there.0 = ap (goal_at n) goals ∙ there.1 in
    let is : x ≡ there.0 = got n gs x there.0 read here in (
      here ∙ ap (λ g. Some g) (sym is),
      ap (λ (g : Goal). is_building g.status) is ∙ there.2,
    )
