-- What the texts of a closure, of a take and of a plan are hashed for.
use Rattle.std.proofs.Common.{◌≡◌, ℕ, Bool, true, false, ◌⊎◌, inl, inr, refl, sym, ◌∙◌, ap, subst, List, [], ◌∷◌, ◌++◌, Option, Some, None, Result, Ok, Err}
use Rattle.std.specs.Prelude.{Contains, map, not, is_some, bytes_eq, if◌then◌else◌}
use Rattle.std.specs.List.{list_any}
use Rattle.sha2.specs.Sha256.{sha256}
use Rattle.model.specs.declared.refusal.Refusal.{Refusal}
use Rattle.model.specs.declared.refusal.Refusal.TheVariants.{Quota, UnknownGoal, UnknownDerivation, WrongState, NotRealised, RewriteRefused}
use Rattle.model.specs.declared.refusal.RewriteFault.TheVariants.{Overlap}
use Rattle.model.specs.Results.{then_do, each}
use Rattle.model.specs.Paths.{Scratch, store_path}
use Rattle.model.specs.Derivations.{Derivation, derivation_text, name_of}
use Rattle.model.specs.Classes.{Admission, known_at}
use Rattle.model.specs.Worlds.{Setup, Source, Record, Desk, Entry, OfSource, OfRecord, Resolved, Planned, Goal, known_of, tree_of_record, held, held_at, same_record, path_of_entry, has_entry, with_entry, with_all, missing, with_entries}
use Rattle.model.specs.Goals.{goal_at, with_goal, as_seen, is_waiting}
use Rattle.model.specs.Closures.{path_for}
use Rattle.model.specs.Closures as closures
use Rattle.model.specs.Resolutions.{input_classes, Served, served_among, images_for, is_crowded, rewritten_strings, resolved_derivation, resolved_text, resolved_to, resolved_over, resolve, scratch_texts}
use Rattle.model.specs.Events.{Closure, Take, Plan}
use Rattle.model.specs.Replies as replies
use Rattle.model.specs.Replies.{Path}
use Rattle.model.specs.Outcomes.{Observation, becomes, check, need}
use Rattle.model.specs.ClosureRequests.{closure_for, closure, take_entries, take, texts_for}
use Rattle.model.specs.GoalRequests.{plan_resolved, resolve_for, plan_goal, plan, known_texts, goal_texts, plan_texts}
use Rattle.model.specs.HashedValues.{IsRepairedEntry, TakeRefused, NoRoomForEntries, IsPlanRefused, PlanRefused, TextRefused, IsEntryTaken}
use Rattle.model.proofs.BoolLemmas.{either, or_cases, both_parts, same_bytes, bytes_same}
use Rattle.laws.proofs.MemberLemmas.{In, in_of, in_left, in_right, in_append, in_map, from_map, in_filter}
use Rattle.laws.proofs.OutcomeLemmas.{roomed}
use Rattle.laws.proofs.GoalRequestLemmas.{planned_goal}
use Rattle.laws.proofs.ServedLemmas.{then_ok, ok_is, find_some}
use Rattle.laws.proofs.KeptLemmas.{put_there}
use Rattle.laws.proofs.HashedForLemmas.{AreHashedFor, for_none, for_both, for_path, for_checked, IsAnswered}
use Rattle.laws.proofs.HashedClosureLemmas.{ClosureHas, closure_values, asked_for}

-- ---- a closure

module _ (s : Observation) (class : List ℕ) where
  closure_answer : (path : List ℕ) (o : Result (List Entry) Refusal) → ClosureHas s.view s.desk.pins (class ∷ []) [] o path
      → IsAnswered s (Closure class) (then_do o (λ entries. becomes s.desk (replies.Closure entries))) path
  closure_answer path (Ok entries) own = inl (s.desk, replies.Closure entries, refl, record { entries = entries; says = refl; is = own })
  closure_answer path (Err why) own = inr (why, inl refl, own)

  pub closure_for_values : AreHashedFor (IsAnswered s (Closure class) (closure s class)) (texts_for s class)
  closure_for_values =
      closure_values (IsAnswered s (Closure class) (closure s class)) s.view s.desk.pins (class ∷ []) []
      (λ path own. closure_answer path (closure_for s class) own)

-- ---- a desk that holds paths

abbrev Holds : Desk → List ℕ → Type 0
Holds d path = (s : Source) × In s (held d) × (s.path ≡ path)

holds_source : (s : Source) (d : Desk) → In s d.sources → Holds d s.path
holds_source s d h = (s, in_left s d.sources (map tree_of_record d.records) h, refl)

holds_record : (r : Record) (d : Desk) → In r d.records → Holds d r.path
holds_record r d h = (tree_of_record r, in_right (tree_of_record r) d.sources (map tree_of_record d.records) (in_map tree_of_record r d.records h), refl)

-- a desk with an entry more holds what it held, and the path of the entry
holds_more : (e : Entry) (d : Desk) (path : List ℕ) → Holds d path → Holds (with_entry e d) path
holds_more (OfSource z) d path h = elim (in_append h.0 d.sources (map tree_of_record d.records) h.1) [
  | inl a ↦ subst (Holds (with_entry (OfSource z) d)) h.2 (holds_source h.0 (with_entry (OfSource z) d) (in_left h.0 d.sources (z ∷ []) a))
  | inr b ↦ (h.0, in_right h.0 (d.sources ++ z ∷ []) (map tree_of_record d.records) b, h.2)
]
holds_more (OfRecord r) d path h = elim (in_append h.0 d.sources (map tree_of_record d.records) h.1) [
  | inl a ↦ subst (Holds (with_entry (OfRecord r) d)) h.2 (holds_source h.0 (with_entry (OfRecord r) d) a)
  | inr b ↦
      let w = from_map tree_of_record h.0 d.records b in
      subst (Holds (with_entry (OfRecord r) d)) (ap (λ (z : Source). z.path) w.2 ∙ h.2) (holds_record w.0 (with_entry (OfRecord r) d) (in_left w.0 d.records (r ∷ []) w.1))
]

holds_new : (e : Entry) (d : Desk) → Holds (with_entry e d) (path_of_entry e)
holds_new (OfSource z) d = holds_source z (with_entry (OfSource z) d) (in_right z d.sources (z ∷ []) (inl refl))
holds_new (OfRecord r) d = holds_record r (with_entry (OfRecord r) d) (in_right r d.records (r ∷ []) (inl refl))

pub any_member : {X : Type 0} (p : X → Bool) (xs : List X) → list_any p xs ≡ true → (x : X) × In x xs × (p x ≡ true)
any_member p [] t = absurd (cc)
any_member p (x ∷ xs) t = elim (or_cases (p x) (list_any p xs) t) [ inl a ↦ (x, inl refl, a) | inr b ↦ let w = any_member p xs b in (w.0, inr w.1, w.2) ]

holds_had : (e : Entry) (d : Desk) → has_entry e d ≡ true → Holds d (path_of_entry e)
holds_had (OfSource z) d t =
    let w = any_member (λ (q : Source). bytes_eq q.path z.path) d.sources t in
    subst (Holds d) (same_bytes w.0.path z.path w.2) (holds_source w.0 d w.1)
holds_had (OfRecord r) d t =
    let w = any_member (λ q. same_record q r) d.records t in
    subst (Holds d) (same_bytes w.0.path r.path (both_parts _ _ (both_parts _ _ w.2).1).0) (holds_record w.0 d w.1)

holds_all : (es : List Entry) (d : Desk) (path : List ℕ) → Holds d path → Holds (with_all es d) path
unfolding with_all
holds_all [] d path h = h
holds_all (e ∷ es) d path h = holds_all es (with_entry e d) path (holds_more e d path h)

holds_each : (es : List Entry) (d : Desk) (e : Entry) → In e es → Holds (with_all es d) (path_of_entry e)
unfolding with_all
holds_each [] d e h = absurd h
holds_each (z ∷ es) d e h = elim h [
  | inl same ↦ subst (λ (y : Entry). Holds (with_all es (with_entry z d)) (path_of_entry y)) same (holds_all es (with_entry z d) (path_of_entry z) (holds_new z d))
  | inr behind ↦ holds_each es (with_entry z d) e behind
]

holds_entries : (entries : List Entry) (d : Desk) (path : List ℕ) → Contains (map path_of_entry entries) path → Holds (with_entries entries d) path
holds_entries entries d path own =
    let w = from_map path_of_entry path entries (in_of (map path_of_entry entries) path own) in
    subst (Holds (with_entries entries d)) w.2 (elim (either (has_entry w.0 d)) [
      | inl t ↦ holds_all (missing entries d) d (path_of_entry w.0) (holds_had w.0 d t)
      | inr f ↦ holds_each (missing entries d) d w.0 (in_filter (λ e. not (has_entry e d)) w.0 entries w.1 (rw f refl))
    ])

is_held : (d : Desk) (path : List ℕ) → Holds d path → is_some (held_at path d) ≡ true
is_held d path h = let w = find_some (λ (q : Source). bytes_eq q.path path) (held d) h.0 h.1 (rw h.2 (bytes_same path)) in rw w.1 refl

-- ---- a take

module _ (setup : Setup) (s : Observation) (class : List ℕ) where
  take_answer : (path : List ℕ) (o : Result (List Entry) Refusal) → closure_for s class ≡ o → ClosureHas s.view s.desk.pins (class ∷ []) [] o path
      → IsAnswered s (Take class) (then_do o (take_entries setup s.desk class)) path
  take_answer path (Err why) e own = inr (why, inl refl, TakeRefused own)
  take_answer path (Ok entries) e own =
      let w = asked_for s.view s.desk.pins (class ∷ []) [] entries e class (inl refl) in
      let d : Desk = with_entries entries s.desk in
      let taken : IsEntryTaken s class (Path w.0) d path =
      record { entries = entries; given = e; told = w.0; says = refl; is = own; held = is_held d path (holds_entries entries s.desk path own.entry) } in
      rw w.1
      (roomed (λ o. IsAnswered s (Take class) o path) setup d (Path w.0) (inl (d, Path w.0, refl, taken)) (inr (Quota, inl refl, NoRoomForEntries entries refl e own)))

  pub take_values : AreHashedFor (IsAnswered s (Take class) (take setup s class)) (texts_for s class)
  take_values =
      closure_values (IsAnswered s (Take class) (take setup s class)) s.view s.desk.pins (class ∷ []) []
      (λ path own. take_answer path (closure_for s class) refl own)

-- ---- a text that is resolved

module _ (entries : List Entry) (d : Derivation) where
  all_served : (classes : List (List ℕ)) → ((c : List ℕ) → In c classes → (path : List ℕ) × (path_for c entries ≡ Some path))
      → (served : List Served) × (served_among entries classes ≡ Ok served)
  unfolding each
  all_served [] found = ([], refl)
  all_served (c ∷ classes) found =
      let w = found c (inl refl) in
      let rest = all_served classes (λ x h. found x (inr h)) in
      (record { class = c; path = w.0 } ∷ rest.0, rw (w.1, rest.1) refl)

  text_refused : (served : List Served) (why : Refusal) → then_do (resolved_text served d) (resolved_to entries d) ≡ Err why → why ≡ RewriteRefused Overlap
  unfolding resolved_text
  text_refused served why e = by (list_any (is_crowded (images_for served)) (rewritten_strings d)) e
    where
      by : (b : Bool)
          → then_do (if b then Err (RewriteRefused Overlap) else Ok (derivation_text (resolved_derivation served d))) (resolved_to entries d) ≡ Err why
          → why ≡ RewriteRefused Overlap
      by true e = cc
      by false e = absurd (cc)

  -- where each class asked for is served, it is refused for its strings alone
  resolved_refused : (classes : List (List ℕ)) (why : Refusal) → ((c : List ℕ) → In c classes → (path : List ℕ) × (path_for c entries ≡ Some path))
      → resolved_over classes d entries ≡ Err why → why ≡ RewriteRefused Overlap
  resolved_refused classes why found e = let w = all_served classes found in text_refused w.0 why (rw w.1 at e)

  -- what it is resolved to
  pub resolved_is : (classes : List (List ℕ)) (r : Resolved) → resolved_over classes d entries ≡ Ok r
      → (entries ≡ r.closure) × (store_path Scratch (sha256 r.text) (name_of d) ≡ r.scratch)
  resolved_is classes r e =
      let a = then_ok (served_among entries classes) (λ served. then_do (resolved_text served d) (resolved_to entries d)) r e in
      let b = then_ok (resolved_text a.0 d) (resolved_to entries d) r a.2 in
      let is : record { closure = entries; text = b.0; scratch = store_path Scratch (sha256 b.0) (name_of d) } ≡ r = ok_is _ r (resolved_to entries d b.0) refl b.2 in
      (ap (λ (z : Resolved). z.closure) is, subst (λ (z : Resolved). store_path Scratch (sha256 z.text) (name_of d) ≡ z.scratch) is refl)

-- ---- a plan

module _ (s : Observation) (n : ℕ) (g : Goal) (there : goal_at n s.desk.goals ≡ Some g) (a : Admission) (known : known_at (known_of s.desk) g.derivation ≡ Some a) where
  abbrev d : Derivation
  d = a.derivation

  abbrev classes : List (List ℕ)
  classes = input_classes (known_of s.desk) d

  refused_value : (path : List ℕ) (why : Refusal) → IsPlanRefused s.view s.desk.pins (known_of s.desk) d why path
      → IsAnswered s (Plan n) (plan_resolved s n g (Err why)) path
  refused_value path NotRealised is = inr (NotRealised, inl refl, record { goal = g; there = there; admission = a; known = known; plan = is })
  refused_value path why is = inr (why, inr refl, record { goal = g; there = there; admission = a; known = known; plan = is })

  kept_value : (path : List ℕ) (r : Resolved) → (path ≡ r.scratch) ⊎ IsRepairedEntry s.view s.desk.pins classes d.sources r.closure path
      → IsAnswered s (Plan n) (plan_resolved s n g (Ok r)) path
  kept_value path r is =
      let new : Goal = planned_goal g r in
      inl (
        with_goal n new s.desk,
        replies.Status Planned,
        refl,
        record {
          goal = g;
          there = there;
          admission = a;
          known = known;
          says = refl;
          planned = new;
          becomes = put_there n new g s.desk.goals there;
          resolved = r;
          keeps = refl;
          is = is;
        },
      )

  entry_value : (path : List ℕ) (entries : List Entry) → closures.closure_entries s.view s.desk.pins classes d.sources ≡ Ok entries
      → IsRepairedEntry s.view s.desk.pins classes d.sources entries path → (o : Result Resolved Refusal) → resolved_over classes d entries ≡ o
      → IsAnswered s (Plan n) (plan_resolved s n g o) path
  entry_value path entries e own (Ok r) is =
      let same = resolved_is entries d classes r is in
      kept_value path r (inr (subst (λ es. IsRepairedEntry s.view s.desk.pins classes d.sources es path) same.0 own))
  entry_value path entries e own (Err why) is =
      let overlap = resolved_refused entries d classes why (asked_for s.view s.desk.pins classes d.sources entries e) is in
      let whole : resolve s.view s.desk.pins (known_of s.desk) d ≡ Err why = ap (λ o. then_do o (resolved_over classes d)) e ∙ is in
      refused_value path why (TextRefused entries overlap e own whole)

  plan_closure_value : (path : List ℕ) (o : Result (List Entry) Refusal) → closures.closure_entries s.view s.desk.pins classes d.sources ≡ o
      → ClosureHas s.view s.desk.pins classes d.sources o path → IsAnswered s (Plan n) (plan_resolved s n g (then_do o (resolved_over classes d))) path
  plan_closure_value path (Err why) e own = refused_value path why (PlanRefused own)
  plan_closure_value path (Ok entries) e own = entry_value path entries e own (resolved_over classes d entries) refl

  scratch_values : (o : Result Resolved Refusal) → resolve_for s d ≡ o → AreHashedFor (IsAnswered s (Plan n) (plan_resolved s n g o)) (scratch_texts d o)
  scratch_values (Err why) e = for_none (IsAnswered s (Plan n) (plan_resolved s n g (Err why)))
  scratch_values (Ok r) e =
      let w = then_ok (closures.closure_entries s.view s.desk.pins classes d.sources) (resolved_over classes d) r e in
      let own : r.scratch ≡ store_path Scratch (sha256 r.text) (name_of d) = sym (resolved_is w.0 d classes r w.2).1 in
      for_path (IsAnswered s (Plan n) (plan_resolved s n g (Ok r))) Scratch r.text (name_of d)
      (kept_value (store_path Scratch (sha256 r.text) (name_of d)) r (inl (sym own)))

  pub resolving_values : AreHashedFor (IsAnswered s (Plan n) (plan_resolved s n g (resolve_for s d))) (known_texts s (Some a))
  resolving_values =
      let V : List ℕ → Type 0 = IsAnswered s (Plan n) (plan_resolved s n g (resolve_for s d)) in
      for_both V (closures.closure_texts s.view s.desk.pins classes d.sources) (scratch_texts d (resolve_for s d))
      (closure_values V s.view s.desk.pins classes d.sources (λ path own. plan_closure_value path (closures.closure_entries s.view s.desk.pins classes d.sources) refl own))
      (scratch_values (resolve_for s d) refl)

module _ (s : Observation) (n : ℕ) where
  known_values : (g : Goal) → goal_at n s.desk.goals ≡ Some g → (o : Option Admission) → known_at (known_of s.desk) g.derivation ≡ o
      → AreHashedFor (IsAnswered s (Plan n) (need UnknownDerivation o (λ a. plan_resolved s n g (resolve_for s a.derivation)))) (known_texts s o)
  known_values g there None e = for_none (IsAnswered s (Plan n) (Err UnknownDerivation))
  known_values g there (Some a) e = resolving_values s n g there a e

  goal_values : (o : Option Goal) → goal_at n s.desk.goals ≡ o
      → AreHashedFor (IsAnswered s (Plan n) (need UnknownGoal o (λ g. check WrongState (is_waiting (as_seen s.reach g.status)) (plan_goal s n g)))) (goal_texts s o)
  goal_values None e = for_none (IsAnswered s (Plan n) (Err UnknownGoal))
  goal_values (Some g) e =
      for_checked (IsAnswered s (Plan n)) WrongState (is_waiting (as_seen s.reach g.status)) (plan_goal s n g) (known_texts s (known_at (known_of s.desk) g.derivation))
      (known_values g e (known_at (known_of s.desk) g.derivation) refl)

  pub plan_values : AreHashedFor (IsAnswered s (Plan n) (plan s n)) (plan_texts s n)
  plan_values = goal_values (goal_at n s.desk.goals) refl
