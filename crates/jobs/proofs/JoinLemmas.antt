-- The least job in which the same is built, sought user by user and number by number.
use Rattle.std.proofs.Common.{◌≡◌, ℕ, zero, suc, ◌+◌, ◌-◌, ◌<◌, ◌≤◌, Bool, true, false, inl, inr, List, [], ◌∷◌, ◌++◌, map, filter, length, refl, sym, ◌∙◌, ap, arith, drop, add-one, Option, Some, None}
use Rattle.std.specs.Prelude.{flat_map, option_map, slice_get, slice_index_or, ◌&&◌, bytes_eq, if◌then◌else◌}
use Rattle.std.specs.Cmp.Lexicographic.{pointwise}
use Rattle.std.proofs.Math.Seq.{drop-cons}
use Rattle.std.proofs.Math.ListN.{drop_of_length-le}
use Rattle.model.specs.Worlds.{Resolved, Job, Status, Waiting, Planned, Building, Done, Failed, Goal}
use Rattle.model.specs.Goals.{goal_at, is_in, job_before, running_before, job_or, job_of, same_entry, same_resolved, Running, running_in, led_by, job_in}
use Rattle.model.specs.Orders.{least_from, lesser}
use Rattle.model.proofs.BoolLemmas.{either, both_parts}
use Rattle.trust.specs.Naming.{name_at}
use Rattle.jobs.specs.Owned.{OwnedByAll, goals_at}
use Rattle.jobs.specs.Numbers.{numbers, own_job, has_scratch, leads_at, is_built_under}
use Rattle.jobs.specs.Joining.{lesser_of, same_as, job_with, listed, jobs_among, jobs_with, places_from, led_at}
use Rattle.jobs.proofs.IndexLemmas.{job_same}
use Rattle.jobs.proofs.PlannerLemmas.{none_fewer}

least_append : (best : Option Job) (xs ys : List Job) → least_from job_before best (xs ++ ys) ≡ least_from job_before (least_from job_before best xs) ys
unfolding least_from
least_append best [] ys = refl
least_append best (x ∷ xs) ys = least_append (Some (lesser job_before best x)) xs ys

one_more : (best o : Option Job) (js : List Job) → least_from job_before (lesser_of best o) js ≡ least_from job_before best (listed o ++ js)
unfolding least_from
one_more best None js = refl
one_more best (Some job) js = refl

-- ---- the numbers of one user

-- one number more
pub among_next : (r : Resolved) (goals : List Goal) (ns : List ℕ) (i : ℕ) (least after o all : Option Job) → i < length ns → after ≡ lesser_of least o
    → o ≡ job_with r (goal_at (slice_index_or ns i 0) goals) → least_from job_before least (jobs_among r goals (drop i ns)) ≡ all
    → least_from job_before after (jobs_among r goals (drop (i + 1) ns)) ≡ all
among_next r goals ns i least after o all below is job before =
    let split : drop i ns ≡ slice_index_or ns i 0 ∷ drop (suc i) ns = drop-cons ns i 0 below in
    let rest : List Job = jobs_among r goals (drop (suc i) ns) in
    let here : listed o ++ rest ≡ jobs_among r goals (drop i ns) = ap (λ p. listed p ++ rest) job ∙ ap (jobs_among r goals) (sym split) in
    rw add-one (ap (λ b. least_from job_before b rest) is ∙ one_more least o rest ∙ ap (least_from job_before least) here ∙ before)

-- no number is left
pub among_done : (r : Resolved) (goals : List Goal) (ns : List ℕ) (i : ℕ) (least all : Option Job) → length ns ≤ i
    → least_from job_before least (jobs_among r goals (drop i ns)) ≡ all → least ≡ all
unfolding least_from
among_done r goals ns i least all above before =
    let none : drop i ns ≡ [] = drop_of_length-le ns above in
    sym (ap (λ ms. least_from job_before least (jobs_among r goals ms)) none) ∙ before

job_in_own : (own : Job) (s : Status) → is_in own s ≡ true → job_in s ≡ Some own
job_in_own own Waiting t = cc
job_in_own own Planned t = cc
job_in_own own (Building other) t = ap (λ j. Some j) (job_same other own t)
job_in_own own (Done path) t = cc
job_in_own own (Failed why) t = cc

with_append : (r : Resolved) (xs ys : List Running) → jobs_with r (xs ++ ys) ≡ jobs_with r xs ++ jobs_with r ys
with_append r [] ys = refl
with_append r (x ∷ xs) ys = elim (either (same_resolved x.resolved r)) [
  | inl t ↦ rw t (ap (λ js. x.job ∷ js) (with_append r xs ys))
  | inr f ↦ rw f (with_append r xs ys)
]

-- a goal whose number is found, or not
one_number : (f : ℕ → List Job) (c : Bool) (k : ℕ) (ns : List ℕ) → flat_map f (if c then k ∷ ns else ns) ≡ (if c then f k ++ flat_map f ns else flat_map f ns)
one_number f true k ns = refl
one_number f false k ns = refl

-- a goal that leads its own job, or not
one_running : (r q : Resolved) (own : Job) (b : Bool) (led : List Running)
    → jobs_with r ((if b then record { job = own; resolved = q } ∷ [] else []) ++ led)
    ≡ (if b && same_resolved q r then own ∷ jobs_with r led else jobs_with r led)
one_running r q own true led = elim (either (same_resolved q r)) [ inl t ↦ rw t refl | inr f ↦ rw f refl ]
one_running r q own false led = refl

-- it leads its own job, which is built under the path, from the same
one_job : (own : Job) (j : Option Job) (b c d : Bool) (js : List Job) → (b ≡ true → j ≡ Some own)
    → (if b && c then listed (if c && d then j else None) ++ js else js) ≡ (if b && (c && d) then own ∷ js else js)
one_job own j true true true js is = rw (is refl) refl
one_job own j true true false js is = refl
one_job own j true false d js is = refl
one_job own j false c d js is = refl

not_both : (b : Bool) → (b && false) ≡ false
not_both true = refl
not_both false = refl

one_goal : (r : Resolved) (own : Job) (s : Status) (from : Option Resolved) (f : ℕ → Option Job) (k : ℕ) (ns : List ℕ) (led : List Running)
    → f k ≡ (if same_as r from then job_in s else None) → flat_map (λ n. listed (f n)) ns ≡ jobs_with r led
    → flat_map (λ n. listed (f n)) (if is_in own s && has_scratch r.scratch from then k ∷ ns else ns) ≡ jobs_with r (running_in own s from ++ led)
one_goal r own s None f k ns led here rest = rw (not_both (is_in own s)) rest
one_goal r own s (Some q) f k ns led here rest =
    let both : Bool = bytes_eq q.text r.text && pointwise same_entry q.closure r.closure in
    one_number (λ n. listed (f n)) (is_in own s && bytes_eq q.scratch r.scratch) k ns
    ∙ (λ i. if is_in own s && bytes_eq q.scratch r.scratch then listed (here i) ++ rest i else rest i)
    ∙ one_job own (job_in s) (is_in own s) (bytes_eq q.scratch r.scratch) both (jobs_with r led) (job_in_own own s)
    ∙ sym (one_running r q own (is_in own s) led)

-- the jobs of the numbers that are found are those that the user's goals lead
led_from : (r : Resolved) (owner : List ℕ) (f : ℕ → Option Job) (k : ℕ) (gs : List Goal)
    → ((i : ℕ) (g : Goal) → slice_get gs i ≡ Some g → f (k + i) ≡ job_with r (Some g))
    → flat_map (λ n. listed (f n)) (numbers (leads_at owner r.scratch) k gs) ≡ jobs_with r (led_by owner k gs)
unfolding numbers led_by
led_from r owner f k [] same = refl
led_from r owner f k (g ∷ gs) same =
    let none : k + zero ≡ k = omega arith in
    let here : f k ≡ job_with r (Some g) = rw none at (same zero g refl) in
    let next : (i : ℕ) → suc k + i ≡ k + suc i = λ i. (omega arith) in
    one_goal r (own_job owner k) g.status g.resolved f k (numbers (leads_at owner r.scratch) (suc k) gs) (led_by owner (suc k) gs) here
    (led_from r owner f (suc k) gs (λ i x at. ap f (next i) ∙ same (suc i) x at))

pub led_among : (r : Resolved) (owner : List ℕ) (gs : List Goal) → jobs_among r gs (numbers (leads_at owner r.scratch) 1 gs) ≡ jobs_with r (led_by owner 1 gs)
led_among r owner gs =
    let one : (i : ℕ) → 1 + i ≡ suc i = λ i. (omega arith) in
    led_from r owner (λ n. job_with r (goal_at n gs)) 1 gs (λ i g at. rw (one i, at) refl)

-- ---- the users of a set

no_range : (set : ℕ → Bool) (place n : ℕ) → n ≡ 0 → places_from set place n ≡ []
no_range set place n e = rw e refl

one_place : (set : ℕ → Bool) (place count : ℕ) → place < count
    → places_from set place (count - place) ≡ (if set place then place ∷ places_from set (place + 1) (count - (place + 1)) else places_from set
    (place + 1) (count - (place + 1)))
one_place set place count below =
    let more : count - place ≡ suc (count - (place + 1)) = omega arith in
    elim (either (set place)) [ inl t ↦ rw (more, t) refl | inr f ↦ rw (more, f) refl ]

-- one user of the set more
pub place_in : (all : OwnedByAll) (r : Resolved) (set : ℕ → Bool) (place count : ℕ) (least after total : Option Job) → place < count → set place ≡ true
    → after ≡ least_from job_before least (jobs_with r (led_at all place))
    → least_from job_before least (jobs_with r (flat_map (led_at all) (places_from set place (count - place)))) ≡ total
    → least_from job_before after (jobs_with r (flat_map (led_at all) (places_from set (place + 1) (count - (place + 1))))) ≡ total
place_in all r set place count least after total below t is before =
    let rest : List Running = flat_map (led_at all) (places_from set (place + 1) (count - (place + 1))) in
    let split : places_from set place (count - place) ≡ place ∷ places_from set (place + 1) (count - (place + 1)) = rw t at (one_place set place count below) in
    ap (λ b. least_from job_before b (jobs_with r rest)) is
    ∙ sym (least_append least (jobs_with r (led_at all place)) (jobs_with r rest))
    ∙ ap (least_from job_before least) (sym (with_append r (led_at all place) rest))
    ∙ ap (λ ps. least_from job_before least (jobs_with r (flat_map (led_at all) ps))) (sym split)
    ∙ before

-- one who is not of the set
pub place_out : (all : OwnedByAll) (r : Resolved) (set : ℕ → Bool) (place count : ℕ) (least after total : Option Job) → place < count
    → set place ≡ false → after ≡ least
    → least_from job_before least (jobs_with r (flat_map (led_at all) (places_from set place (count - place)))) ≡ total
    → least_from job_before after (jobs_with r (flat_map (led_at all) (places_from set (place + 1) (count - (place + 1))))) ≡ total
place_out all r set place count least after total below f is before =
    let split : places_from set place (count - place) ≡ places_from set (place + 1) (count - (place + 1)) = rw f at (one_place set place count below) in
    ap (λ b. least_from job_before b (jobs_with r (flat_map (led_at all) (places_from set (place + 1) (count - (place + 1)))))) is
    ∙ ap (λ ps. least_from job_before least (jobs_with r (flat_map (led_at all) ps))) (sym split) ∙ before

-- no user is left
pub places_done : (all : OwnedByAll) (r : Resolved) (set : ℕ → Bool) (place count : ℕ) (least total : Option Job) → count ≤ place
    → least_from job_before least (jobs_with r (flat_map (led_at all) (places_from set place (count - place)))) ≡ total → least ≡ total
unfolding least_from
places_done all r set place count least total above before =
    let none : places_from set place (count - place) ≡ [] = no_range set place (count - place) (omega arith) in
    sym (ap (λ ps. least_from job_before least (jobs_with r (flat_map (led_at all) ps))) none) ∙ before

-- who has no goal under the path leads no job in which the same is built
none_led : (all : OwnedByAll) (r : Resolved) (place : ℕ) → numbers (is_built_under r.scratch) 1 (goals_at place all) ≡ [] → jobs_with r (led_at all place) ≡ []
none_led all r place none =
    let gs : List Goal = goals_at place all in
    let owner : List ℕ = name_at all.users place in
    sym (led_among r owner gs)
    ∙ ap (jobs_among r gs) (none_fewer (leads_at owner r.scratch) (is_built_under r.scratch) 1 gs
    (λ n g t. (both_parts (is_in (own_job owner n) g.status) (has_scratch r.scratch g.resolved) t).1) none)

-- those of a set who are left out lead no such job
pub jobs_near : (all : OwnedByAll) (r : Resolved) (set near : ℕ → Bool) (place count : ℕ) → ((v : ℕ) → near v ≡ true → set v ≡ true)
    → ((v : ℕ) → near v ≡ false → set v ≡ true → numbers (is_built_under r.scratch) 1 (goals_at v all) ≡ [])
    → jobs_with r (flat_map (led_at all) (places_from near place count)) ≡ jobs_with r (flat_map (led_at all) (places_from set place count))
jobs_near all r set near place zero within out = refl
jobs_near all r set near place (suc count) within out =
    let rest : List Running = flat_map (led_at all) (places_from set (place + 1) count) in
    let fewer : List Running = flat_map (led_at all) (places_from near (place + 1) count) in
    let same : jobs_with r fewer ≡ jobs_with r rest = jobs_near all r set near (place + 1) count within out in
    elim (either (near place)) [
      | inl t ↦ rw (t, within place t) (with_append r (led_at all place) fewer ∙ ap (λ js. jobs_with r (led_at all place) ++ js) same
          ∙ sym (with_append r (led_at all place) rest))
      | inr f ↦ elim (either (set place)) [
        | inl t ↦ rw (f, t) (same ∙ ap (λ js. js ++ jobs_with r rest) (sym (none_led all r place (out place f t))) ∙ sym (with_append r (led_at all place) rest))
        | inr g ↦ rw (f, g) same
      ]
    ]

-- ---- the job that is entered

job_of_lesser : (best : Option Running) (x : Running) → (lesser running_before best x).job ≡ lesser job_before (option_map (λ (y : Running). y.job) best) x.job
job_of_lesser None x = refl
job_of_lesser (Some b) x = elim (either (job_before x.job b.job)) [ inl t ↦ rw t refl | inr f ↦ rw f refl ]

least_jobs : (best : Option Running) (xs : List Running)
    → option_map (λ (x : Running). x.job) (least_from running_before best xs)
    ≡ least_from job_before (option_map (λ (x : Running). x.job) best) (map (λ x. x.job) xs)
unfolding least_from
least_jobs best [] = refl
least_jobs best (x ∷ xs) =
    least_jobs (Some (lesser running_before best x)) xs
    ∙ ap (λ j. least_from job_before (Some j) (map (λ (y : Running). y.job) xs)) (job_of_lesser best x)

abbrev job_else : Job → Option Job → Job
job_else own None = own
job_else own (Some j) = j

or_own : (own : Job) (o : Option Running) → job_else own (option_map (λ (x : Running). x.job) o) ≡ job_or own o
or_own own None = refl
or_own own (Some x) = refl

pub joined : (own : Job) (r : Resolved) (running : List Running) (least : Option Job) → least ≡ least_from job_before None (jobs_with r running)
    → job_else own least ≡ job_of running own r
joined own r running least is =
    let same : List Running = filter (λ x. same_resolved x.resolved r) running in
    ap (job_else own) (is ∙ sym (least_jobs None same)) ∙ or_own own (least_from running_before None same)

pub joined_least : (own job : Job) (r : Resolved) (running : List Running) (least : Option Job) → least ≡ least_from job_before None (jobs_with r running)
    → least ≡ Some job → job ≡ job_of running own r
joined_least own job r running least is found = sym (ap (job_else own) found) ∙ joined own r running least is

pub joined_none : (own : Job) (r : Resolved) (running : List Running) (least : Option Job) → least ≡ least_from job_before None (jobs_with r running)
    → least ≡ None → own ≡ job_of running own r
joined_none own r running least is none = sym (ap (job_else own) none) ∙ joined own r running least is
