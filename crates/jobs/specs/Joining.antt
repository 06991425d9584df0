-- Which job a goal enters.
use Rattle.std.specs.Prelude.{ℕ, Bool, false, if◌then◌else◌, List, [], ◌∷◌, length, map, filter, flat_map, Option, None, Some}
use Rattle.std.specs.List.{range_with_len}
use Rattle.model.specs.Worlds.{Resolved, Job, Goal}
use Rattle.model.specs.Goals.{goal_at, job_before, same_resolved, Running, led_by, job_of, job_in}
use Rattle.model.specs.Orders.{lesser, least_from}
use Rattle.trust.specs.Naming.{name_at}
use Rattle.jobs.specs.Owned.{OwnedByAll, goals_at}
use Rattle.jobs.specs.Numbers.{own_job}

-- the best so far, or another job, if there is one, that goes before it
abbrev pub lesser_of : Option Job → Option Job → Option Job
lesser_of best None = best
lesser_of best (Some job) = Some (lesser job_before best job)

abbrev pub same_as : Resolved → Option Resolved → Bool
same_as r None = false
same_as r (Some q) = same_resolved q r

-- the job in which a goal that is there is built, if it is built from the same
abbrev pub job_with : Resolved → Option Goal → Option Job
job_with r None = None
job_with r (Some g) = if same_as r g.resolved then job_in g.status else None

abbrev pub listed : Option Job → List Job
listed None = []
listed (Some job) = job ∷ []

-- the jobs of those of the goals of these numbers that are built from the same
abbrev pub jobs_among : Resolved → List Goal → List ℕ → List Job
jobs_among r goals ns = flat_map (λ n. listed (job_with r (goal_at n goals))) ns

-- those jobs in which the same is built
abbrev pub jobs_with : Resolved → List Running → List Job
jobs_with r running = map (λ x. x.job) (filter (λ x. same_resolved x.resolved r) running)

-- the least of them, and of the best so far
abbrev pub least_with : Option Job → Resolved → List Running → Option Job
least_with best r running = least_from job_before best (jobs_with r running)

-- the places of a set, so many from one on
abbrev pub places_from : (ℕ → Bool) → ℕ → ℕ → List ℕ
places_from set first count = filter set (range_with_len first count)

-- the jobs that the goals of the user at a place lead
abbrev pub led_at : OwnedByAll → ℕ → List Running
led_at all place = led_by (name_at all.users place) 1 (goals_at place all)

-- the jobs that the goals of the users at the places of a set lead
abbrev pub running_at : (ℕ → Bool) → OwnedByAll → List Running
running_at set all = flat_map (led_at all) (places_from set 0 (length all.goals))

-- the job that a goal of the user at a place enters, where those at the places of a set build together with him
abbrev pub joined : (ℕ → Bool) → ℕ → ℕ → Resolved → OwnedByAll → Job
joined set place n r all = job_of (running_at set all) (own_job (name_at all.users place) n) r
