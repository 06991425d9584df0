-- Desks whose goals are in some jobs alone: what is looked up there, and the ends of jobs.
use Rattle.std.proofs.Common.{◌≡◌, ℕ, zero, suc, Bool, true, false, inl, inr, refl, sym, ◌∙◌, ap, List, [], ◌∷◌, ◌++◌, length, map, Option, Some, None, Result, Ok, Err}
use Rattle.std.specs.Prelude.{◌&&◌, not, if◌then◌else◌, slice_get, option_map}
use Rattle.std.proofs.lemmas.List.{map-set, append_assoc}
use Rattle.std.proofs.lemmas.Option.{slice_get-map}
use Rattle.std.proofs.Math.Seq.{set-append_seam}
use Rattle.model.specs.declared.refusal.Refusal.{Refusal}
use Rattle.model.specs.declared.refusal.Refusal.TheVariants.{Quota, BuilderFailed}
use Rattle.model.specs.Worlds.{Setup, Record, Entry, OfSource, OfRecord, Job, Status, Waiting, Planned, Building, Done, Failed, Goal, Desk, known_of, has_record, with_record, charge_of, is_within, with_entry, with_all, missing, with_entries}
use Rattle.model.specs.Goals.{goal_at, with_goal_at, with_goal, in_status, same_job, is_in, members}
use Rattle.model.specs.Endings.{End, Output, Failure, built_record, done_with, with_output, ended_with, ended_goal, ended_goals}
use Rattle.model.specs.Outcomes.{Notification, NoNotification, Ended, delivered}
use Rattle.model.specs.Timed.{status_in, goal_in, desk_in}
use Rattle.model.proofs.BoolLemmas.{either, both_parts, same_bytes}

-- ---- goals by number, and entries

module _ (jobs : Job → Bool) where
  pub at_in : (n : ℕ) (goals : List Goal) → goal_at n (map (goal_in jobs) goals) ≡ option_map (goal_in jobs) (goal_at n goals)
  at_in zero goals = refl
  at_in (suc n) goals = slice_get-map (goal_in jobs) goals n

  put_in : (n : ℕ) (g : Goal) (goals : List Goal) → with_goal_at n (goal_in jobs g) (map (goal_in jobs) goals) ≡ map (goal_in jobs) (with_goal_at n g goals)
  put_in zero g goals = refl
  put_in (suc n) g goals = sym (map-set (goal_in jobs) goals n g)

  -- a goal that waits nowhere else is put among the goals of a desk
  pub goal_put : (n : ℕ) (g : Goal) (d : Desk) → goal_in jobs g ≡ g → with_goal n g (desk_in jobs d) ≡ desk_in jobs (with_goal n g d)
  goal_put n g d same = ap (λ gs. record d { goals = gs }) (ap (λ h. with_goal_at n h (map (goal_in jobs) d.goals)) (sym same) ∙ put_in n g d.goals)

  entry_in : (e : Entry) (d : Desk) → with_entry e (desk_in jobs d) ≡ desk_in jobs (with_entry e d)
  entry_in (OfSource s) d = refl
  entry_in (OfRecord r) d = refl

  all_in : (es : List Entry) (d : Desk) → with_all es (desk_in jobs d) ≡ desk_in jobs (with_all es d)
  unfolding with_all
  all_in [] d = refl
  all_in (e ∷ es) d = ap (with_all es) (entry_in e d) ∙ all_in es (with_entry e d)

  missing_in : (es : List Entry) (d : Desk) → missing es (desk_in jobs d) ≡ missing es d
  missing_in [] d = refl
  missing_in (OfSource s ∷ es) d = rw (missing_in es d) refl
  missing_in (OfRecord r ∷ es) d = rw (missing_in es d) refl

  pub entries_in : (es : List Entry) (d : Desk) → with_entries es (desk_in jobs d) ≡ desk_in jobs (with_entries es d)
  entries_in es d = ap (λ xs. with_all xs (desk_in jobs d)) (missing_in es d) ∙ all_in (missing es d) d

  pub within_in : (setup : Setup) (d : Desk) → is_within setup (desk_in jobs d) ≡ is_within setup d
  unfolding is_within charge_of
  within_in setup d = refl

-- ---- the end of a job that stays

-- of the goals that are built in a job of these none waits
module _ (jobs : Job → Bool) (job : Job) (stays : (other : Job) → same_job other job ≡ true → jobs other ≡ true) where
  pub in_job : (s : Status) → is_in job (status_in jobs s) ≡ is_in job s
  in_job Waiting = refl
  in_job Planned = refl
  in_job (Building other) = elim (either (jobs other)) [
    | inl t ↦ rw t refl
    | inr f ↦ elim (either (same_job other job)) [
      | inl same ↦ let t : jobs other ≡ true = stays other same in absurd (cc)
      | inr apart ↦ rw (f, apart) refl
    ]
  ]
  in_job (Done path) = refl
  in_job (Failed why) = refl

  pub members_in : (n : ℕ) (goals : List Goal) → members job n (map (goal_in jobs) goals) ≡ members job n goals
  unfolding members
  members_in n [] = refl
  members_in n (g ∷ goals) = rw (in_job g.status, members_in (suc n) goals) refl

module _ (setup : Setup) (jobs : Job → Bool) where
  -- either of two
  desk_if : (b c : Bool) (d e x y : Desk) → b ≡ c → d ≡ desk_in jobs x → e ≡ desk_in jobs y → (if b then d else e) ≡ desk_in jobs (if c then x else y)
  desk_if true c d e x y same one other = rw (← same) one
  desk_if false c d e x y same one other = rw (← same) other

  done_in : (n : ℕ) (g : Goal) (r : Record) (d : Desk) → done_with setup n g r (desk_in jobs d) ≡ desk_in jobs (done_with setup n g r d)
  done_in n g r d =
      let done : Goal = in_status (Done r.path) g in
      let failed : Goal = in_status (Failed Quota) g in
      let e : Desk = desk_in jobs d in
      desk_if (has_record r e) (has_record r d) (with_goal n done e)
      (if is_within setup (with_record r e) then with_goal n done (with_record r e) else with_goal n failed e)
      (with_goal n done d) (if is_within setup (with_record r d) then with_goal n done (with_record r d) else with_goal n failed d)
      refl (goal_put jobs n done d refl)
      (desk_if (is_within setup (with_record r e)) (is_within setup (with_record r d)) (with_goal n done (with_record r e)) (with_goal n failed e)
      (with_goal n done (with_record r d)) (with_goal n failed d)
      (within_in jobs setup (with_record r d)) (goal_put jobs n done (with_record r d) refl) (goal_put jobs n failed d refl))

  output_in : (n : ℕ) (g : Goal) (o : Result Record Refusal) (d : Desk) → with_output setup n g o (desk_in jobs d) ≡ desk_in jobs (with_output setup n g o d)
  output_in n g (Ok r) d = done_in n g r d
  output_in n g (Err why) d = goal_put jobs n (in_status (Failed why) g) d refl

  ended_with_in : (n : ℕ) (g : Goal) (end : End) (d : Desk)
      → ended_with setup n (goal_in jobs g) end (desk_in jobs d) ≡ desk_in jobs (ended_with setup n g end d)
  ended_with_in n g (Output bytes) d = output_in n g (built_record (known_of d) g bytes) d
  ended_with_in n g Failure d = goal_put jobs n (in_status (Failed BuilderFailed) g) d refl

  ended_in : (reached : Bool) (end : End) (n : ℕ) (o : Option Goal) (d : Desk)
      → ended_goal setup reached end n (option_map (goal_in jobs) o) (desk_in jobs d) ≡ desk_in jobs (ended_goal setup reached end n o d)
  ended_in reached end n None d = refl
  ended_in reached end n (Some g) d =
      desk_if reached reached (ended_with setup n (goal_in jobs g) end (desk_in jobs d)) (with_goal n (in_status Waiting g) (desk_in jobs d))
      (ended_with setup n g end d) (with_goal n (in_status Waiting g) d) refl (ended_with_in n g end d) (goal_put jobs n (in_status Waiting g) d refl)

  all_ended_in : (reached : Bool) (end : End) (ns : List ℕ) (d : Desk)
      → ended_goals setup reached end ns (desk_in jobs d) ≡ desk_in jobs (ended_goals setup reached end ns d)
  unfolding ended_goals
  all_ended_in reached end [] d = refl
  all_ended_in reached end (n ∷ ns) d =
      let next : Desk = ended_goal setup reached end n (goal_at n d.goals) d in
      let one : ended_goal setup reached end n (goal_at n (map (goal_in jobs) d.goals)) (desk_in jobs d) ≡ desk_in jobs next =
      ap (λ o. ended_goal setup reached end n o (desk_in jobs d)) (at_in jobs n d.goals) ∙ ended_in reached end n (goal_at n d.goals) d in
      ap (ended_goals setup reached end ns) one ∙ all_ended_in reached end ns next

  -- a leader whose jobs are all among these is delivered alike
  pub delivered_in : (actor : List ℕ) (reached : Bool) (notification : Notification) (d : Desk) → ((job : Job) → job.leader ≡ actor → jobs job ≡ true)
      → delivered setup actor reached notification (desk_in jobs d) ≡ desk_in jobs (delivered setup actor reached notification d)
  delivered_in actor reached NoNotification d inside = refl
  delivered_in actor reached (Ended n end) d inside =
      let job : Job = record { leader = actor; number = n } in
      let stays : (other : Job) → same_job other job ≡ true → jobs other ≡ true = λ other same.
      inside other (same_bytes other.leader actor (both_parts _ _ same).0) in
      ap (λ ns. ended_goals setup reached end ns (desk_in jobs d)) (members_in jobs job stays 1 d.goals)
      ∙ all_ended_in reached end (members job 1 d.goals) d

-- ---- the end of a job whose leader is not reached

-- all jobs but one
abbrev pub but : Job → Job → Bool
but job other = not (same_job other job)

goal_at_seam : (first : List Goal) (g : Goal) (goals : List Goal) → slice_get (first ++ g ∷ goals) (length first) ≡ Some g
goal_at_seam [] g goals = refl
goal_at_seam (f ∷ first) g goals = goal_at_seam first g goals

length_one_more : (first : List Goal) (g : Goal) → length (first ++ g ∷ []) ≡ suc (length first)
length_one_more [] g = refl
length_one_more (f ∷ first) g = ap (λ n. suc n) (length_one_more first g)

module _ (setup : Setup) (end : End) (job : Job) (d : Desk) where
  -- the goals of it wait, one after another
  rest_waits : (first goals : List Goal)
      → ended_goals setup false end (members job (suc (length first)) goals) (record d { goals = first ++ goals })
      ≡ record d { goals = first ++ map (goal_in (but job)) goals }
  unfolding ended_goals members
  rest_waits first [] = refl
  rest_waits first (g ∷ goals) =
      let on : (h : Goal) → h ≡ goal_in (but job) g
      → ended_goals setup false end (members job (suc (suc (length first))) goals) (record d { goals = first ++ h ∷ goals })
      ≡ record d { goals = first ++ goal_in (but job) g ∷ map (goal_in (but job)) goals } = λ h is.
      ap (λ x. ended_goals setup false end (members job (suc (suc (length first))) goals) (record d { goals = first ++ x ∷ goals })) is
      ∙ ap (λ gs. ended_goals setup false end (members job (suc (suc (length first))) goals) (record d { goals = gs }))
      (sym (append_assoc first (goal_in (but job) g ∷ []) goals))
      ∙ ap (λ n. ended_goals setup false end (members job (suc n) goals) (record d { goals = (first ++ goal_in (but job) g ∷ []) ++ goals }))
      (sym (length_one_more first (goal_in (but job) g)))
      ∙ rest_waits (first ++ goal_in (but job) g ∷ []) goals
      ∙ ap (λ gs. record d { goals = gs }) (append_assoc first (goal_in (but job) g ∷ []) (map (goal_in (but job)) goals)) in
      let numbers : List ℕ = members job (suc (suc (length first))) goals in
      let now : Desk = record d { goals = first ++ g ∷ goals } in
      elim (either (is_in job g.status)) [
        | inl t ↦
            let these : members job (suc (length first)) (g ∷ goals) ≡ suc (length first) ∷ numbers = rw t refl in
            let one : ended_goal setup false end (suc (length first)) (slice_get (first ++ g ∷ goals) (length first)) now ≡ record d { goals = first ++ in_status Waiting g ∷ goals } =
            ap (λ o. ended_goal setup false end (suc (length first)) o now) (goal_at_seam first g goals)
            ∙ ap (λ gs. record d { goals = gs }) (set-append_seam first g goals (in_status Waiting g)) in
            ap (λ ns. ended_goals setup false end ns now) these ∙ ap (ended_goals setup false end numbers) one ∙ on (in_status Waiting g) (waits g.status t)
        | inr f ↦
            let these : members job (suc (length first)) (g ∷ goals) ≡ numbers = rw f refl in
            ap (λ ns. ended_goals setup false end ns now) these ∙ on g (ap (λ s. in_status s g) (sym (stays g.status f)))
      ]
    where
      waits : (s : Status) → is_in job s ≡ true → in_status Waiting g ≡ in_status (status_in (but job) s) g
      waits Waiting t = absurd (cc)
      waits Planned t = absurd (cc)
      waits (Building other) t = rw t refl
      waits (Done path) t = absurd (cc)
      waits (Failed why) t = absurd (cc)

      stays : (s : Status) → is_in job s ≡ false → status_in (but job) s ≡ s
      stays Waiting f = refl
      stays Planned f = refl
      stays (Building other) f = rw f refl
      stays (Done path) f = refl
      stays (Failed why) f = refl

-- the jobs that stay after the notification of one whose leader is not reached
abbrev pub unless_ended : List ℕ → Notification → (Job → Bool) → Job → Bool
unless_ended actor NoNotification jobs job = jobs job
unless_ended actor (Ended n end) jobs job = jobs job && but (record { leader = actor; number = n }) job

status_both : (jobs others : Job → Bool) (s : Status) → status_in others (status_in jobs s) ≡ status_in (λ job. jobs job && others job) s
status_both jobs others Waiting = refl
status_both jobs others Planned = refl
status_both jobs others (Building job) = elim (either (jobs job)) [ inl t ↦ rw t refl | inr f ↦ rw f refl ]
status_both jobs others (Done path) = refl
status_both jobs others (Failed why) = refl

goals_both : (jobs others : Job → Bool) (goals : List Goal)
    → map (goal_in others) (map (goal_in jobs) goals) ≡ map (goal_in (λ job. jobs job && others job)) goals
goals_both jobs others [] = refl
goals_both jobs others (g ∷ goals) =
    let one = status_both jobs others g.status in
    let rest = goals_both jobs others goals in
    λ i. in_status (one i) g ∷ rest i

pub delivered_apart : (setup : Setup) (jobs : Job → Bool) (actor : List ℕ) (notification : Notification) (d : Desk)
    → delivered setup actor false notification (desk_in jobs d) ≡ desk_in (unless_ended actor notification jobs) d
delivered_apart setup jobs actor NoNotification d = refl
delivered_apart setup jobs actor (Ended n end) d =
    let job : Job = record { leader = actor; number = n } in
    rest_waits setup end job d [] (map (goal_in jobs) d.goals) ∙ ap (λ gs. record d { goals = gs }) (goals_both jobs (but job) d.goals)

-- ---- desks on which nothing waits that did not

status_all : (s : Status) → status_in (λ job. true) s ≡ s
status_all Waiting = refl
status_all Planned = refl
status_all (Building job) = refl
status_all (Done path) = refl
status_all (Failed why) = refl

goals_all : (goals : List Goal) → map (goal_in (λ job. true)) goals ≡ goals
goals_all [] = refl
goals_all (g ∷ goals) = let one = status_all g.status in let rest = goals_all goals in λ i. in_status (one i) g ∷ rest i

pub all_jobs : (d : Desk) → desk_in (λ job. true) d ≡ d
all_jobs d = ap (λ gs. record d { goals = gs }) (goals_all d.goals)
