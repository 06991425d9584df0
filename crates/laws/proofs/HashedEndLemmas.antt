-- What the texts of the end of a job are hashed for: each of its goals is done with a path, or has failed with it.
use Rattle.std.proofs.Common.{◌≡◌, ℕ, zero, suc, ◌+◌, Bool, true, false, ◌⊎◌, inl, inr, refl, sym, ◌∙◌, ap, subst, arith, List, [], ◌∷◌, Option, Some, None, Result, Ok, Err}
use Rattle.std.specs.Prelude.{flat_map, filter, find, bytes_eq, slice_get, slice_set, if◌then◌else◌}
use Rattle.model.specs.declared.refusal.Refusal.{Refusal}
use Rattle.model.specs.declared.refusal.Refusal.TheVariants.{Quota, BuilderFailed, RewriteRefused}
use Rattle.model.specs.declared.refusal.RewriteFault.{RewriteFault}
use Rattle.model.specs.declared.refusal.RewriteFault.TheVariants.{Accidental}
use Rattle.model.specs.Archives.{Tree}
use Rattle.model.specs.ArchiveReading.{tree_of_archive}
use Rattle.model.specs.Derivations.{name_of}
use Rattle.model.specs.Classes.{Admission, Known, known_at}
use Rattle.model.specs.Settling.{Settled, hash_part_in}
use Rattle.model.specs.References.{paths_of_labels}
use Rattle.model.specs.Results.{then_do, unless_rewrite_refused}
use Rattle.model.specs.Worlds.{Setup, World, Record, Job, Resolved, Waiting, Done, Failed, Goal, Desk, known_of, has_record, with_record, is_within}
use Rattle.model.specs.Outputs.{settled_under, record_for}
use Rattle.model.specs.Goals.{goal_at, with_goal_at, with_goal, in_status, is_in, members}
use Rattle.model.specs.Endings.{End, Output, Failure, labels_from, built_record, done_with, with_output, ended_with, ended_goal, ended_goals}
use Rattle.model.specs.EndRequests.{resolved_texts, member_texts, desk_texts, job_texts}
use Rattle.model.specs.Outcomes.{reaches}
use Rattle.model.specs.HashedValues.{IsPathFor, IsOutputRefused, OutputNotTrue, NoRoomForOutput, IsGoalFailed, IsOutputPath}
use Rattle.model.proofs.BoolLemmas.{either}
use Rattle.laws.proofs.MemberLemmas.{In, from_filter}
use Rattle.laws.proofs.GoalLemmas.{keeps_ended}
use Rattle.laws.proofs.KeptLemmas.{put_there}
use Rattle.laws.proofs.HashedForLemmas.{AreHashedFor, for_values, for_none, for_both, for_settling, PathIn, path_in}

-- ---- goals of several numbers

slice_other : (i j : ℕ) (x : Goal) (goals : List Goal) → (i ≡ j → ⊥) → slice_get (slice_set goals i x) j ≡ slice_get goals j
slice_other i j x [] other = refl
slice_other zero zero x (g ∷ goals) other = absurd (other refl)
slice_other zero (suc j) x (g ∷ goals) other = refl
slice_other (suc i) zero x (g ∷ goals) other = refl
slice_other (suc i) (suc j) x (g ∷ goals) other = slice_other i j x goals (λ e. other (ap suc e))

put_other : (n m : ℕ) (x : Goal) (goals : List Goal) → (n ≡ m → ⊥) → goal_at m (with_goal_at n x goals) ≡ goal_at m goals
put_other zero m x goals other = refl
put_other (suc n) zero x goals other = refl
put_other (suc n) (suc m) x goals other = slice_other n m x goals (λ e. other (ap suc e))

-- one of two desks
pub either_desk : (P : Desk → Type 0) (b : Bool) (c d : Desk) → P c → P d → P (if b then c else d)
either_desk P true c d one other = one
either_desk P false c d one other = other

-- ---- members of a job

-- the numbers of the goals in a job, where the first has number k
member_at : (job : Job) (k m : ℕ) (goals : List Goal) → In m (members job k goals)
    → (i : ℕ) × (m ≡ i + k) × ((g : Goal) × (slice_get goals i ≡ Some g) × (is_in job g.status ≡ true))
unfolding members
member_at job k m [] h = absurd h
member_at job k m (g ∷ goals) h = elim (either (is_in job g.status)) [
  | inl t ↦ elim (rw t at h) [
    | inl e ↦ (0, omega (arith, e), (g, refl, t))
    | inr r ↦ let w = member_at job (suc k) m goals r in (suc w.0, omega (arith, w.1), w.2)
  ]
  | inr f ↦ let w = member_at job (suc k) m goals (rw f at h) in (suc w.0, omega (arith, w.1), w.2)
]

abbrev pub Distinct : List ℕ → Type 0
Distinct [] = Unit {0}
Distinct (n ∷ ns) = (In n ns → ⊥) × Distinct ns

pub members_distinct : (job : Job) (k : ℕ) (goals : List Goal) → Distinct (members job k goals)
unfolding members
members_distinct job k [] = tt
members_distinct job k (g ∷ goals) = elim (either (is_in job g.status)) [
  | inl t ↦ rw t (λ h. (let w = member_at job (suc k) k goals h in omega (arith, w.1)), members_distinct job (suc k) goals)
  | inr f ↦ rw f (members_distinct job (suc k) goals)
]

pub member_goal : (job : Job) (m : ℕ) (goals : List Goal) → In m (members job 1 goals) → (g : Goal) × (goal_at m goals ≡ Some g) × (is_in job g.status ≡ true)
member_goal job m goals h =
    let w = member_at job 1 m goals h in
    let same : suc w.0 ≡ m = omega (arith, w.1) in
    (w.2.0, subst (λ k. goal_at k goals ≡ Some w.2.0) same w.2.1, w.2.2)

-- ---- the end of a job for one goal

module _ (setup : Setup) (end : End) where
  -- the other goals stay
  done_other : (n m : ℕ) (g : Goal) (r : Record) (d : Desk) → (n ≡ m → ⊥) → goal_at m (done_with setup n g r d).goals ≡ goal_at m d.goals
  done_other n m g r d other =
      let P : Desk → Type 0 = λ e. goal_at m e.goals ≡ goal_at m d.goals in
      let done : Desk = with_goal n (in_status (Done r.path) g) d in
      let failed : Desk = with_goal n (in_status (Failed Quota) g) d in
      let added : Desk = with_goal n (in_status (Done r.path) g) (with_record r d) in
      either_desk P (has_record r d) done (if is_within setup (with_record r d) then added else failed) (put_other n m (in_status (Done r.path) g) d.goals other)
      (either_desk P (is_within setup (with_record r d)) added failed (put_other n m (in_status (Done r.path) g) d.goals other) (put_other n m (in_status (Failed Quota) g) d.goals other))

  output_other : (n m : ℕ) (g : Goal) (o : Result Record Refusal) (d : Desk) → (n ≡ m → ⊥) → goal_at m (with_output setup n g o d).goals ≡ goal_at m d.goals
  output_other n m g (Ok r) d other = done_other n m g r d other
  output_other n m g (Err why) d other = put_other n m (in_status (Failed why) g) d.goals other

  pub ended_other : (reached : Bool) (n m : ℕ) (o : Option Goal) (d : Desk) → (n ≡ m → ⊥)
      → goal_at m (ended_goal setup reached end n o d).goals ≡ goal_at m d.goals
  ended_other reached n m None d other = refl
  ended_other false n m (Some g) d other = put_other n m (in_status Waiting g) d.goals other
  ended_other true n m (Some g) d other = by end
    where
      by : (how : End) → goal_at m (ended_with setup n g how d).goals ≡ goal_at m d.goals
      by (Output bytes) = output_other n m g (built_record (known_of d) g bytes) d other
      by Failure = put_other n m (in_status (Failed BuilderFailed) g) d.goals other

  all_other : (ns : List ℕ) (m : ℕ) (d : Desk) → (In m ns → ⊥) → goal_at m (ended_goals setup true end ns d).goals ≡ goal_at m d.goals
  unfolding ended_goals
  all_other [] m d none = refl
  all_other (n ∷ ns) m d none =
      all_other ns m (ended_goal setup true end n (goal_at n d.goals) d) (λ h. none (inr h)) ∙ ended_other true n m (goal_at n d.goals) d (λ e. none (inl e))

  -- a member ends on a desk that has its goal as before, and knows the same derivations
  pub record EndsOn (m : ℕ) (d later : Desk) : Type 0 where
    pub desk : Desk
    pub goal : goal_at m desk.goals ≡ goal_at m d.goals
    pub derivations : desk.derivations ≡ d.derivations
    pub is : goal_at m later.goals ≡ goal_at m (ended_goal setup true end m (goal_at m d.goals) desk).goals

  ends_on : (ns : List ℕ) (m : ℕ) (d : Desk) → Distinct ns → In m ns → EndsOn m d (ended_goals setup true end ns d)
  unfolding ended_goals
  ends_on [] m d apart h = absurd h
  ends_on (n ∷ ns) m d apart h = elim h [
    | inl e ↦ subst (λ k. EndsOn k d (ended_goals setup true end ns (ended_goal setup true end n (goal_at n d.goals) d))) e (record {
      desk = d;
      goal = refl;
      derivations = refl;
      is = all_other ns n (ended_goal setup true end n (goal_at n d.goals) d) apart.0;
    })
    | inr r ↦
        let next : Desk = ended_goal setup true end n (goal_at n d.goals) d in
        let other : n ≡ m → ⊥ = λ e. apart.0 (subst (λ k. In k ns) (sym e) r) in
        let same : goal_at m next.goals ≡ goal_at m d.goals = ended_other true n m (goal_at n d.goals) d other in
        let w = ends_on ns m next apart.1 r in
        record {
          desk = w.desk;
          goal = w.goal ∙ same;
          derivations = w.derivations ∙ (keeps_ended setup true end n (goal_at n d.goals) d).derivations;
          is = w.is ∙ ap (λ o. goal_at m (ended_goal setup true end m o w.desk).goals) same;
        }
  ]

-- ---- the output for one goal

-- what became of a goal of a number
abbrev Becomes : Known → Goal → List ℕ → ℕ → List ℕ → Desk → Type 0
Becomes known g bytes m path later =
    (x : Goal) × (goal_at m later.goals ≡ Some x) × ((x.status ≡ Done path) ⊎ IsGoalFailed known g bytes x.status path)

module _ (setup : Setup) (bytes : List ℕ) (tree : Tree) (read : tree_of_archive bytes ≡ Some tree) (m : ℕ) (g : Goal) (known : Known)
    (a : Admission) (admitted : known_at known g.derivation ≡ Some a) (r : Resolved) (kept : g.resolved ≡ Some r) where
  failed : (why : Refusal) (path : List ℕ) (d : Desk) → goal_at m d.goals ≡ Some g → IsOutputRefused r.scratch (labels_from r) a tree why path
      → Becomes known g bytes m path (with_goal m (in_status (Failed why) g) d)
  failed why path d there is = (
    in_status (Failed why) g,
    put_there m (in_status (Failed why) g) g d.goals there,
    inr (record {
      why = why;
      failed = refl;
      tree = tree;
      read = read;
      admission = a;
      admitted = admitted;
      resolved = r;
      kept = kept;
      output = is;
    }),
  )

  by_settled : (path : List ℕ) (d : Desk) → goal_at m d.goals ≡ Some g
      → IsPathFor tree (hash_part_in r.scratch) (paths_of_labels (labels_from r)) (name_of a.derivation) path
      → (o : Result Settled RewriteFault) → settled_under r.scratch (labels_from r) a tree ≡ o → PathIn o path
      → Becomes known g bytes m path (with_output setup m g (then_do (unless_rewrite_refused o) (λ s. Ok (record_for (labels_from r) a s))) d)
  by_settled path d there h (Err why) e own =
      subst (λ w. Becomes known g bytes m path (with_goal m (in_status (Failed (RewriteRefused w)) g) d)) (sym own)
      (failed (RewriteRefused Accidental) path d there (OutputNotTrue refl (subst (λ w. settled_under r.scratch (labels_from r) a tree ≡ Err w) own e) h))
  by_settled path d there h (Ok s) e own =
      let q : Record = record_for (labels_from r) a s in
      let P : Desk → Type 0 = Becomes known g bytes m path in
      let done : Goal = in_status (Done s.path) g in
      let full : Desk = with_goal m (in_status (Failed Quota) g) d in
      let is_done : P (with_goal m done d) = (done, put_there m done g d.goals there, inl (ap Done (sym own))) in
      either_desk P (has_record q d) (with_goal m done d) (if is_within setup (with_record q d) then with_goal m done (with_record q d) else full) is_done
      (either_desk P (is_within setup (with_record q d)) (with_goal m done (with_record q d)) full is_done
      (failed Quota path d there (NoRoomForOutput s refl e own)))

  becomes : (path : List ℕ) (d : Desk) → goal_at m d.goals ≡ Some g → known_at (known_of d) g.derivation ≡ Some a
      → IsPathFor tree (hash_part_in r.scratch) (paths_of_labels (labels_from r)) (name_of a.derivation) path
      → Becomes known g bytes m path (ended_goal setup true (Output bytes) m (Some g) d)
  becomes path d there knows h =
      let o : Result Settled RewriteFault = settled_under r.scratch (labels_from r) a tree in
      let is : built_record (known_of d) g bytes ≡ then_do (unless_rewrite_refused o) (λ s. Ok (record_for (labels_from r) a s)) = rw (read, knows, kept) refl in
      subst (λ z. Becomes known g bytes m path (with_output setup m g z d)) (sym is)
      (by_settled path d there h o refl (path_in tree (hash_part_in r.scratch) (paths_of_labels (labels_from r)) (name_of a.derivation) path h))

-- ---- all goals

module _ (V : List ℕ → Type 0) where
  for_each : {X : Type 0} (f : X → List (List ℕ)) (xs : List X) → ((x : X) → In x xs → AreHashedFor V (f x)) → AreHashedFor V (flat_map f xs)
  for_each f [] each = for_none V
  for_each f (x ∷ xs) each = for_both V (f x) (flat_map f xs) (each x (inl refl)) (for_each f xs (λ y h. each y (inr h)))

-- the goals of a desk whose user reaches the leader
module _ (setup : Setup) (job : Job) (bytes : List ℕ) (tree : Tree) (read : tree_of_archive bytes ≡ Some tree) (d : Desk) where
  abbrev later : Desk
  later = ended_goals setup true (Output bytes) (members job 1 d.goals) d

  abbrev V : List ℕ → Type 0
  V = IsOutputPath job bytes d later

  goal_values : (m : ℕ) → In m (members job 1 d.goals) → (g : Goal) → goal_at m d.goals ≡ Some g → is_in job g.status ≡ true
      → (known : Option Admission) → known_at (known_of d) g.derivation ≡ known → (kept : Option Resolved) → g.resolved ≡ kept
      → AreHashedFor V (resolved_texts tree known kept)
  goal_values m h g there built None known kept e = for_none V
  goal_values m h g there built (Some a) known None e = for_none V
  goal_values m h g there built (Some a) known (Some r) e =
      let w = ends_on setup (Output bytes) (members job 1 d.goals) m d (members_distinct job 1 d.goals) h in
      let knows : known_at (known_of w.desk) g.derivation ≡ Some a = ap (find (λ (z : Admission). bytes_eq z.path g.derivation)) w.derivations ∙ known in
      for_settling V tree (hash_part_in r.scratch) (paths_of_labels (labels_from r)) (name_of a.derivation)
      (λ path is.
      let b = becomes setup bytes tree read m g (known_of d) a known r e path w.desk (w.goal ∙ there) knows is in
      record {
        number = m;
        goal = g;
        there = there;
        built = built;
        ended = b.0;
        later = w.is ∙ ap (λ o. goal_at m (ended_goal setup true (Output bytes) m o w.desk).goals) there ∙ b.1;
        status = b.2;
      })

  pub desk_values : AreHashedFor V (desk_texts job tree d)
  desk_values =
      for_each V (λ n. member_texts tree d (goal_at n d.goals)) (members job 1 d.goals)
      (λ m h.
      let w = member_goal job m d.goals h in
      subst (λ o. AreHashedFor V (member_texts tree d o)) (sym w.1) (goal_values m h w.0 w.1 w.2 (known_at (known_of d) w.0.derivation) refl w.0.resolved refl))

-- the desks of all users who reach the leader
pub job_values : (V : List ℕ → Type 0) (setup : Setup) (w : World) (job : Job) (bytes : List ℕ)
    → ((x path : List ℕ) → reaches setup w x job.leader ≡ true → IsOutputPath job bytes (w x) (ended_goals setup true (Output bytes) (members job 1 (w x).goals) (w x)) path → V path)
    → AreHashedFor V (job_texts setup w job (tree_of_archive bytes))
job_values V setup w job bytes value = by (tree_of_archive bytes) refl
  where
    by : (o : Option Tree) → tree_of_archive bytes ≡ o → AreHashedFor V (job_texts setup w job o)
    by None e = for_none V
    by (Some tree) e =
        for_each V (λ x. desk_texts job tree (w x)) (filter (λ x. reaches setup w x job.leader) setup.users)
        (λ x h. for_values (IsOutputPath job bytes (w x) (ended_goals setup true (Output bytes) (members job 1 (w x).goals) (w x))) V (desk_texts job tree (w x))
        (λ path. value x path (from_filter (λ y. reaches setup w y job.leader) x setup.users h).1) (desk_values setup job bytes tree e (w x)))
