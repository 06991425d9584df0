-- What is told of the job that a goal leads.
use Rattle.std.proofs.Common.{◌≡◌, ℕ, Bool, true, false, inl, inr, List, refl, sym, ◌∙◌, ap, subst, Option, Some, None, Result, Ok, Err}
use Rattle.std.specs.Prelude.{if◌then◌else◌, ◌≢◌}
use Rattle.model.specs.declared.refusal.Refusal.{Refusal}
use Rattle.model.specs.declared.refusal.Refusal.TheVariants.{UnknownUser, WrongState, Stopped}
use Rattle.model.proofs.BoolLemmas.{either}
use Rattle.model.specs.Paths.{NoClash}
use Rattle.model.specs.Reach.{is_among}
use Rattle.model.specs.Worlds.{Setup, World, nothing, Resolved, Job, Goal}
use Rattle.model.specs.Goals.{goal_at, is_in, Running}
use Rattle.model.specs.RunningJobs.{with_kept, led_job, job_led_by}
use Rattle.model.specs.KeptClosures.{KeptClosuresAreGood}
use Rattle.model.specs.Steps.{world_after}
use Rattle.model.specs.HashedTexts.{hashed}
use Rattle.jobs.specs.Asking.{IsAnswerTo}
use Rattle.history.specs.declared.row.Row.{Row}
use Rattle.schedule.specs.declared.state.Core.{Core}
use Rattle.schedule.specs.Standing.{setup_of}
use Rattle.schedule.specs.Asking.{job_asked_for}
use Rattle.history.specs.Histories.{events_of, IsLegal}
use Rattle.book.specs.Keeping.{Contents, StandsFor}
use Rattle.book.specs.Asking.{IsAskedAfter}

-- ---- a goal that leads a job keeps what is told

if_ok : {X : Type 0} (b : Bool) (o : Result X Refusal) (why : Refusal) (x : X) → (if b then o else Err why) ≡ Ok x → o ≡ Ok x
if_ok true o why x e = e
if_ok false o why x e = absurd (cc)

kept_ok : (job : Job) (kept : Option Resolved) (r : Running) → with_kept job kept ≡ Ok r → kept ≡ Some r.resolved
kept_ok job None r e = absurd (cc)
kept_ok job (Some k) r e = ap (λ (q : Running). Some q.resolved) (same_job (with_kept job (Some k)) (record { job = job; resolved = k }) r refl e)
  where
    same_job : (o : Result Running Refusal) (q r : Running) → o ≡ Ok q → o ≡ Ok r → q ≡ r
    same_job o q r first second = cc

led_ok : (job : Job) (o : Option Goal) (r : Running) → led_job job o ≡ Ok r → (g : Goal) × (o ≡ Some g) × (g.resolved ≡ Some r.resolved)
led_ok job None r e = absurd (cc)
led_ok job (Some g) r e = (g, refl, kept_ok job g.resolved r (if_ok (is_in job g.status) (with_kept job g.resolved) WrongState r e))

leads_kept : (setup : Setup) (w : World) (u : List ℕ) (n : ℕ) (r : Running) → job_led_by setup w u n ≡ Ok r
    → (g : Goal) × (goal_at n (w u).goals ≡ Some g) × (g.resolved ≡ Some r.resolved)
leads_kept setup w u n r e =
    let job : Job = record { leader = u; number = n } in
    led_ok job (goal_at n (w u).goals) r (if_ok (is_among u setup.users) (led_job job (goal_at n (w u).goals)) UnknownUser r e)

-- ---- what a book tells

told_ok : (answer told : Result Running Refusal) → IsAnswerTo answer told → (job : Running) → told ≡ Ok job → answer ≡ Ok job
told_ok answer (Ok r) is job e = is.value ∙ e
told_ok answer (Err why) is job e = absurd (cc)

-- where the core stands for the world that the rows reach, what it tells is so after them
after_rows : (law : KeptClosuresAreGood) (setup : Setup) (core : Core) (rows : List Row) (user : List ℕ) (number : ℕ) (told : Result Running Refusal)
    → IsLegal setup rows → setup_of core ≡ setup → StandsFor setup core rows → IsAnswerTo (job_asked_for core user number) told
    → IsAskedAfter setup rows user number told
after_rows law setup core rows user number told legal given stands is = record {
  legal = legal;
  same = same;
  kept = λ clean job ok.
      let led = leads_kept setup (world_after setup nothing (events_of rows)) user number job (told_ok _ told (same clean) job ok) in
      law setup (events_of rows) user number led.0 job.resolved (legal.private clean).good led.1 led.2;
}
  where
    same : NoClash (hashed setup nothing (events_of rows)) → IsAnswerTo (job_led_by setup (world_after setup nothing (events_of rows)) user number) told
    same clean = subst (λ (s : Setup). IsAnswerTo (job_led_by s (world_after setup nothing (events_of rows)) user number) told) given
        (subst (λ (w : World). IsAnswerTo (job_led_by (setup_of core) w user number) told) (stands clean) is)

-- ---- what a front tells

-- what a book ensures where it is asked
module _ (setup : Setup) (book : Contents) (user : List ℕ) (number : ℕ) (told : Result Running Refusal) (law : KeptClosuresAreGood)
    (legal : IsLegal setup book.rows) (given : setup_of book.core ≡ setup) (reached : book.stopped ≡ false → StandsFor setup book.core book.rows)
    (value : book.stopped ≡ false → IsAnswerTo (job_asked_for book.core user number) told) (stopped : book.stopped ≡ true → told ≡ Err Stopped) where
  -- it is not stopped where it does not say so
  is_going : told ≢ Err Stopped → book.stopped ≡ false
  is_going going = elim (either book.stopped) [ inl t ↦ absurd (going (stopped t)) | inr f ↦ f ]

  -- what it tells is so after all its rows
  pub after_all : told ≢ Err Stopped → IsAskedAfter setup book.rows user number told
  after_all going = after_rows law setup book.core book.rows user number told legal given (reached (is_going going)) (value (is_going going))

  -- and so after the sure rows of the only pass
  pub is_asked_alone : (sure : List Row) (parts : ℕ) → (parts ≡ 1 → sure ≡ book.rows) → told ≢ Err Stopped → parts ≡ 1
      → IsAskedAfter setup sure user number told
  is_asked_alone sure parts alone going only = subst (λ (rows : List Row). IsAskedAfter setup rows user number told) (sym (alone only)) (after_all going)
