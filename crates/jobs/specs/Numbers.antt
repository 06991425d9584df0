-- Goals by their numbers, and ascending lists of numbers by keys.
use Rattle.std.specs.Prelude.{◌≡◌, ◌≤◌, ℕ, suc, ◌==◌, Bool, true, false, not, ◌&&◌, ◌||◌, if◌then◌else◌, List, [], ◌∷◌, length, vec_capacity, bytes_eq, Option, None, Some, option_map}
use Rattle.std.specs.Map.{lookup}
use Rattle.model.specs.Worlds.{Resolved, Job, Status, Waiting, Building, Goal}
use Rattle.model.specs.Goals.{goal_at, with_goal_at, in_status, is_in, is_building, same_job}
use Rattle.jobs.specs.Statuses.{is_done, are_same, is_alike}
use Rattle.jobs.specs.declared.ascending.Ascending.{Ascending}
use Rattle.jobs.specs.Rising.{with_number, without_number}

-- ---- lists by keys

-- the numbers of a list, if there is one
abbrev pub items_of : Option (Ascending) → List ℕ
items_of None = []
items_of (Some ns) = ns.numbers.items

-- the numbers at the key that passes a test
abbrev pub numbers_at : {K : Type 0} → (K → Bool) → List (K × Ascending) → List ℕ
numbers_at test entries = items_of (lookup test entries)

-- the numbers at one key have changed, and those at no other
abbrev pub ChangesAt : {K : Type 0} → (K → K → Bool) → K → (List ℕ → List ℕ) → List (K × Ascending) → List (K × Ascending) → Type 0
ChangesAt {K} eq key change old new =
    (k : K) → numbers_at (eq k) new ≡ (if eq key k then change (numbers_at (eq k) old) else numbers_at (eq k) old)

abbrev pub HasSameNumbers : {K : Type 0} → (K → K → Bool) → List (K × Ascending) → List (K × Ascending) → Type 0
HasSameNumbers {K} eq old new = (k : K) → numbers_at (eq k) new ≡ numbers_at (eq k) old

-- how many numbers a list can hold without more memory, if there is one
abbrev pub room_of : Option (Ascending) → ℕ
room_of None = 0
room_of (Some ns) = vec_capacity ns.numbers

abbrev pub room_at : {K : Type 0} → (K → Bool) → List (K × Ascending) → ℕ
room_at test entries = room_of (lookup test entries)

-- no list can hold fewer
abbrev pub KeepsRoom : {K : Type 0} → (K → K → Bool) → List (K × Ascending) → List (K × Ascending) → Type 0
KeepsRoom {K} eq old new = (k : K) → room_at (eq k) old ≤ room_at (eq k) new

-- ---- goals by their numbers

-- the numbers of those goals that pass a test with their numbers, where the first of them has number n
unfoldable pub numbers : (ℕ → Goal → Bool) → ℕ → List Goal → List ℕ
numbers test n [] = []
numbers test n (g ∷ gs) = if test n g then n ∷ numbers test (suc n) gs else numbers test (suc n) gs

-- whether a goal is built in any job
abbrev pub in_any_job : ℕ → Goal → Bool
in_any_job n g = is_building g.status

-- the numbers of those that are built in jobs
abbrev pub building : List Goal → List ℕ
building goals = numbers in_any_job 1 goals

-- whether a goal is built in a job
abbrev pub is_of : Job → ℕ → Goal → Bool
is_of job n g = is_in job g.status

abbrev pub has_scratch : List ℕ → Option Resolved → Bool
has_scratch path None = false
has_scratch path (Some r) = bytes_eq r.scratch path

-- the job that a user's goal of that number leads
abbrev pub own_job : List ℕ → ℕ → Job
own_job owner n = record { leader = owner; number = n }

-- whether a user's goal leads its own job, and that is built under a path
abbrev pub leads_at : List ℕ → List ℕ → ℕ → Goal → Bool
leads_at owner path n g = is_in (own_job owner n) g.status && has_scratch path g.resolved

-- whether a goal was planned, and is built under a path
abbrev pub is_built_under : List ℕ → ℕ → Goal → Bool
is_built_under path n g = has_scratch path g.resolved

-- whether a goal is done, and was built under a path
abbrev pub is_done_under : List ℕ → ℕ → Goal → Bool
is_done_under path n g = is_done g.status && has_scratch path g.resolved

-- the numbers of those goals that pass a test and are new, of several that are alike that of the first; none is new that is seen already
unfoldable pub firsts : (ℕ → Goal → Bool) → (Goal → Goal → Bool) → (Goal → Bool) → ℕ → List Goal → List ℕ
firsts test alike seen n [] = []
firsts test alike seen n (g ∷ gs) =
    if test n g && not (seen g) then n ∷ firsts test alike (λ x. alike g x || seen x) (suc n) gs else firsts test alike seen (suc n) gs

-- the numbers of those that are done and were built under a path, of several that came to the same that of the first
abbrev pub finished : List ℕ → List Goal → List ℕ
finished path goals = firsts (is_done_under path) is_alike (λ g. false) 1 goals

abbrev pub scratch_of : Option Resolved → Option (List ℕ)
scratch_of from = option_map (λ r. r.scratch) from

-- the path under which a goal was built, if it is done
abbrev pub path_of_done : Option Goal → Option (List ℕ)
path_of_done None = None
path_of_done (Some g) = if is_done g.status then scratch_of g.resolved else None

-- whether another goal came to the same as that of number n
abbrev pub is_other_alike : ℕ → List Goal → ℕ → Bool
is_other_alike n goals m = not (m == n) && are_same is_alike (goal_at m goals) (goal_at n goals)

abbrev pub undone_at : ℕ → Option Goal → List Goal → List Goal
undone_at n None goals = goals
undone_at n (Some g) goals = with_goal_at n (in_status Waiting g) goals

-- goals of which that of number n waits
abbrev pub undone : ℕ → List Goal → List Goal
undone n goals = undone_at n (goal_at n goals) goals

-- what the first of those goals is built from that are built under a path
unfoldable pub first_built : List ℕ → List Goal → Option Resolved
first_built path [] = None
first_built path (g ∷ gs) = if has_scratch path g.resolved then g.resolved else first_built path gs

-- by each key are found the numbers of just those goals that pass its test
abbrev pub Finds : {K : Type 0} → (K → K → Bool) → (K → ℕ → Goal → Bool) → List Goal → List (K × Ascending) → Type 0
Finds {K} eq test goals lists = (k : K) → numbers_at (eq k) lists ≡ numbers (test k) 1 goals

-- at each path are found those that are finished under it
abbrev pub FindsFinished : List Goal → List (List ℕ × Ascending) → Type 0
FindsFinished goals lists = (path : List ℕ) → numbers_at (bytes_eq path) lists ≡ finished path goals

-- at each path there is room for all goals that are built under it to be done
abbrev pub HasRoom : List (List ℕ × Ascending) → List (List ℕ × Ascending) → Type 0
HasRoom built done = (path : List ℕ) → length (numbers_at (bytes_eq path) built) ≤ room_at (bytes_eq path) done

-- those that are built in jobs are listed; by each job its members are found, and by each path those goals that lead their own job under it, those
-- that are built under it, and of these those that are finished
pub record IsIndexed (owner : List ℕ) (goals : List Goal) (listed : List ℕ) (members : List (Job × Ascending))
    (leading built done : List (List ℕ × Ascending)) : Type 0 where
  pub of_building : listed ≡ building goals
  pub of_jobs : Finds same_job is_of goals members
  pub of_leading : Finds bytes_eq (leads_at owner) goals leading
  pub of_built : Finds bytes_eq is_built_under goals built
  pub of_done : FindsFinished goals done
  pub room : HasRoom built done

-- ---- what an index has once a goal enters a job, leaves it, is planned, or is done

abbrev pub entered : Bool → ℕ → List ℕ → List ℕ
entered enters n ns = if enters then with_number n ns else ns

abbrev pub left : Bool → ℕ → List ℕ → List ℕ
left leaves n ns = if leaves then without_number n ns else ns

-- a goal enters a job: its number is put in for that job, and for no other
abbrev pub EntersJob : Job → ℕ → List (Job × Ascending) → List (Job × Ascending) → Type 0
EntersJob job n old new = (k : Job) → numbers_at (same_job k) new ≡ entered (is_in k (Building job)) n (numbers_at (same_job k) old)

-- it leads it, or not: its number is put in for the path under which it is built
abbrev pub EntersPath : Bool → Option Resolved → ℕ → List (List ℕ × Ascending) → List (List ℕ × Ascending) → Type 0
EntersPath leads from n old new =
    (path : List ℕ) → numbers_at (bytes_eq path) new ≡ entered (leads && has_scratch path from) n (numbers_at (bytes_eq path) old)

-- a goal leaves the job in which it is built
abbrev pub LeavesJob : Status → ℕ → List (Job × Ascending) → List (Job × Ascending) → Type 0
LeavesJob status n old new = (k : Job) → numbers_at (same_job k) new ≡ left (is_in k status) n (numbers_at (same_job k) old)

abbrev pub LeavesPath : Bool → Option Resolved → ℕ → List (List ℕ × Ascending) → List (List ℕ × Ascending) → Type 0
LeavesPath builds from n old new =
    (path : List ℕ) → numbers_at (bytes_eq path) new ≡ left (builds && has_scratch path from) n (numbers_at (bytes_eq path) old)

-- where a goal was listed and is to be, its number stays; else it is taken out, or put in
abbrev pub moved : (was is : Bool) → ℕ → List ℕ → List ℕ
moved true true n ns = ns
moved true false n ns = without_number n ns
moved false true n ns = with_number n ns
moved false false n ns = ns

-- a goal that was built from the one is built from the other: its number is moved to the path under which it is built now
abbrev pub MovesPath : Option Resolved → Option Resolved → ℕ → List (List ℕ × Ascending) → List (List ℕ × Ascending) → Type 0
MovesPath from to n old new =
    (path : List ℕ) → numbers_at (bytes_eq path) new ≡ moved (has_scratch path from) (has_scratch path to) n (numbers_at (bytes_eq path) old)

-- one number is put in at a path in place of another one
abbrev pub Exchanges : {K : Type 0} → (K → K → Bool) → K → (out n : ℕ) → List (K × Ascending) → List (K × Ascending) → Type 0
Exchanges eq key out n old new = ChangesAt eq key (λ ns. with_number n (without_number out ns)) old new

-- a number is not listed for a job
abbrev pub IsUnlisted : Job → ℕ → List (Job × Ascending) → Type 0
IsUnlisted job n jobs = without_number n (numbers_at (same_job job) jobs) ≡ numbers_at (same_job job) jobs
