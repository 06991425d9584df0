-- What is new on the desks of users after an event is named by texts that are hashed for it.
use Rattle.std.proofs.Common.{◌≡◌, ℕ, zero, suc, Bool, true, false, ◌⊎◌, inl, inr, refl, sym, ◌∙◌, ap, subst, List, [], ◌∷◌, ◌++◌, Option, Some, None, Ok, Err}
use Rattle.std.specs.Prelude.{Contains, flat_map, filter, nat_le, length, bytes_eq, slice_get, codes, if◌then◌else◌}
use Rattle.model.specs.declared.refusal.Refusal.{Refusal}
use Rattle.model.specs.declared.refusal.Refusal.TheVariants.{UnknownUser, TooLarge, WrongState}
use Rattle.model.specs.Paths.{DerivationFile, OutputClass, Scratch, with_fingerprint}
use Rattle.model.specs.Derivations.{Derivation, derivation_text, name_of}
use Rattle.model.specs.DerivationTexts.{derivation_of_text}
use Rattle.model.specs.Classes.{Admission, Known, known_at, file_references, derivation_path, masked_text, admission_of, admit}
use Rattle.model.specs.Limits.{most_derivation_bytes}
use Rattle.model.specs.Worlds.{Setup, is_user, World, Source, Desk, Entry, Resolved, Planned, Goal, known_of, held}
use Rattle.model.specs.Goals.{goal_at, with_goal, as_seen, is_waiting}
use Rattle.model.specs.Endings.{Output, Failure}
use Rattle.model.specs.Closures.{closure_texts}
use Rattle.model.specs.Closures as closures
use Rattle.model.specs.Resolutions.{input_classes, resolve, resolved_over, scratch_texts, resolving_texts}
use Rattle.model.specs.Events.{Request, AddSource, AddDerivation, Offer, Fetch, Trust, Distrust, Pin, Unpin, Closure, Take, Build, Status, Plan, Start, Finish, Fail, Forget, Event}
use Rattle.model.specs.Replies as replies
use Rattle.model.specs.Outcomes.{reaches, Observation, observation_of, Outcome, Ended, becomes, reply_of, delivered, desk_after}
use Rattle.model.specs.ClosureRequests.{closure_for}
use Rattle.model.specs.EndRequests.{told_of}
use Rattle.model.specs.Steps.{reply_to, outcome, outcome_of, after}
use Rattle.model.specs.HashedTexts.{texts_of, texts_of_event}
use Rattle.model.specs.HashedValues.{held_of, kept_trees, trees_on, told_trees, IsOnDesk, IsTreeOf, IsPathOf, EachNewValueIsNamed}
use Rattle.model.proofs.BoolLemmas.{either, same_bytes}
use Rattle.laws.proofs.MemberLemmas.{In, in_of, contains_of, in_left, in_right, in_append, in_map, from_map, in_flat_map, from_flat_map}
use Rattle.laws.proofs.OutcomeLemmas.{then_done}
use Rattle.laws.proofs.SourceRequestLemmas.{add_source_cases, fetch_cases}
use Rattle.laws.proofs.DerivationRequestLemmas.{add_derivation_cases}
use Rattle.laws.proofs.OfferRequestLemmas.{offer_cases}
use Rattle.laws.proofs.TrustRequestLemmas.{trust_cases, distrust_cases}
use Rattle.laws.proofs.PinRequestLemmas.{pin_cases}
use Rattle.laws.proofs.ClosureRequestLemmas.{take_cases}
use Rattle.laws.proofs.GoalRequestLemmas.{planned_goal, build_cases, status_cases, plan_cases, start_cases}
use Rattle.laws.proofs.EndRequestLemmas.{end_job_cases}
use Rattle.laws.proofs.ForgetRequestLemmas.{forget_cases}
use Rattle.laws.proofs.ServedLemmas.{then_ok, some_same}
use Rattle.laws.proofs.RecursionLemmas.{admit_parts}
use Rattle.laws.proofs.KnowledgeLemmas.{Admits, after_grows}
use Rattle.laws.proofs.KeptLemmas.{PlansGoal, put_cases, goals_after, after_follows}
use Rattle.laws.proofs.HashedRequestLemmas.{resolved_is}
use Rattle.laws.proofs.HashedTreeLemmas.{all_among, closure_trees}
use Rattle.laws.proofs.HashedDeskLemmas.{AllHeld, quietly_held}
use Rattle.laws.proofs.HashedAfterLemmas.{made_more, after_quiet, after_end, after_failure}

-- ---- goals and their numbers

goal_in : (n : ℕ) (g : Goal) (goals : List Goal) → goal_at n goals ≡ Some g → In g goals
goal_in zero g goals at = absurd (cc)
goal_in (suc i) g goals at = by i goals at
  where
    by : (i : ℕ) (goals : List Goal) → slice_get goals i ≡ Some g → In g goals
    by i [] at = absurd (cc)
    by zero (h ∷ goals) at = inl (some_same h g at)
    by (suc i) (h ∷ goals) at = inr (by i goals at)

in_at : (g : Goal) (goals : List Goal) → In g goals → (i : ℕ) × (slice_get goals i ≡ Some g)
in_at g [] h = absurd h
in_at g (z ∷ goals) h = elim h [ inl e ↦ (0, ap Some e) | inr r ↦ let w = in_at g goals r in (suc w.0, w.1) ]

no_longer : (xs : List Admission) (y : Admission) → xs ≡ xs ++ y ∷ [] → ⊥
no_longer [] y e = cc
no_longer (x ∷ xs) y e = no_longer xs y (cc)

module _ (setup : Setup) (w : World) (e : Event) where
  abbrev u : List ℕ
  u = e.actor

  abbrev s : Observation
  s = observation_of setup w e.actor

  abbrev texts : List (List ℕ)
  texts = texts_of_event setup w e

  -- a tree was on some desk, or texts are hashed for it
  abbrev Q : Source → Type 0
  Q z = IsOnDesk w z ⊎ IsTreeOf texts z

  outcome_is : is_user setup u ≡ true → outcome_of setup w e ≡ outcome setup s e.request
  outcome_is t = rw t refl

  of_stranger : is_user setup u ≡ false → outcome_of setup w e ≡ Err UnknownUser
  of_stranger f = rw f refl

  texts_are : is_user setup u ≡ true → texts ≡ texts_of setup w u e.request
  texts_are t = rw t refl

  made_by : is_user setup u ≡ true → (z : Source) → IsTreeOf (texts_of setup w u e.request) z → Q z
  made_by t z is = inr (subst (λ xs. IsTreeOf xs z) (sym (texts_are t)) is)

  -- ---- what was there before

  old_held : (y : List ℕ) → AllHeld Q (w y)
  old_held y z h = inl (y, contains_of (trees_on (w y)) z (in_left z (held (w y)) (flat_map (λ g. kept_trees g.resolved) (w y).goals) h))

  old_kept : (y : List ℕ) (n : ℕ) (g : Goal) (r : Resolved) → goal_at n (w y).goals ≡ Some g → g.resolved ≡ Some r → (a : Entry) → In a r.closure
      → Q (held_of a)
  old_kept y n g r at is a h =
      let there : In (held_of a) (kept_trees g.resolved) = rw is (in_map held_of a r.closure h) in
      inl (
        y,
        contains_of (trees_on (w y)) (held_of a)
            (in_right (held_of a) (held (w y)) (flat_map (λ k. kept_trees k.resolved) (w y).goals)
            (in_flat_map (λ k. kept_trees k.resolved) g (held_of a) (w y).goals (goal_in n g (w y).goals at) there)),
      )

  old_seen : (d : Desk) → In d s.view → (z : Source) → In z (held d) → Q z
  old_seen d h z there = let m = from_map w d (filter (reaches setup w u) setup.users) h in old_held m.0 z (subst (λ c. In z (held c)) (sym m.2) there)

  -- ---- what is held

  module _ (x : List ℕ) (listed : is_user setup x ≡ true) where
    abbrev Later : Outcome → Type 0
    Later o = AllHeld Q (desk_after setup u o x (reaches setup w x u) (w x))

    own_same : (if bytes_eq x u then w u else w x) ≡ w x
    own_same = elim (either (bytes_eq x u)) [ inl t ↦ rw t (ap w (sym (same_bytes x u t))) | inr f ↦ rw f refl ]

    held_request : (r : Request) → ((z : Source) → IsTreeOf (texts_of setup w u r) z → Q z) → Later (outcome setup s r)
    unfolding outcome
    held_request (Finish n bytes) made =
        end_job_cases Later setup s n (Output bytes)
        (λ g there leads. subst (λ d. AllHeld Q (delivered setup u (reaches setup w x u) (Ended n (Output bytes)) d)) (sym own_same)
        (after_end Q setup w u n bytes x listed (old_held x) (rw there leads) made))
        (old_held x) (λ absent. old_held x)
    held_request (Fail n status) made =
        end_job_cases Later setup s n Failure
        (λ g there leads. subst (λ d. AllHeld Q (delivered setup u (reaches setup w x u) (Ended n Failure) d)) (sym own_same) (after_failure Q setup w u n x (old_held x)))
        (old_held x) (λ absent. old_held x)
    held_request r made =
        after_quiet Q setup w u (outcome setup s r) x (reaches setup w x u) (quietly_held Q setup w u (old_held u) old_seen (old_kept u) r made refl) (old_held x)

    held_after : AllHeld Q (after setup w e x)
    held_after = elim (either (is_user setup u)) [
      | inl t ↦ subst Later (sym (outcome_is t)) (held_request e.request (made_by t))
      | inr f ↦ subst Later (sym (of_stranger f)) (old_held x)
    ]

  -- ---- what goals keep

  plan_untimely : (n : ℕ) (g : Goal) → goal_at n s.desk.goals ≡ Some g → is_waiting (as_seen s.reach g.status) ≡ false
      → outcome setup s (Plan n) ≡ Err WrongState
  unfolding outcome
  plan_untimely n g there f = rw (there, f) refl

  plan_texts_of : (n : ℕ) (g : Goal) (a : Admission) → goal_at n s.desk.goals ≡ Some g → is_waiting (as_seen s.reach g.status) ≡ true
      → known_at (known_of s.desk) g.derivation ≡ Some a → texts_of setup w u (Plan n) ≡ resolving_texts s.view s.desk.pins (known_of s.desk) a.derivation
  plan_texts_of n g a there waits known = rw (there, waits, known) refl

  module _ (plans : PlansGoal s e.request (outcome_of setup w e)) where
    abbrev d : Derivation
    d = plans.admission.derivation

    abbrev classes : List (List ℕ)
    classes = input_classes (known_of s.desk) d

    plan_texts_are : texts ≡ resolving_texts s.view s.desk.pins (known_of s.desk) d
    plan_texts_are = elim (either (is_user setup u)) [
      | inr f ↦
          let no : Err UnknownUser ≡ becomes (with_goal plans.number (planned_goal plans.goal plans.resolved) s.desk) (replies.Status Planned) = sym (of_stranger f) ∙ plans.outcome_is in
          absurd (cc)
      | inl t ↦ elim (either (is_waiting (as_seen s.reach plans.goal.status))) [
        | inr f ↦
            let is : outcome setup s e.request ≡ Err WrongState = ap (outcome setup s) plans.asked ∙ plan_untimely plans.number plans.goal plans.there f in
            let no : Err WrongState ≡ becomes (with_goal plans.number (planned_goal plans.goal plans.resolved) s.desk) (replies.Status Planned) = sym is ∙ sym (outcome_is t) ∙ plans.outcome_is in
            absurd (cc)
        | inl waits ↦
            texts_are t ∙ ap (texts_of setup w u) plans.asked ∙ plan_texts_of plans.number plans.goal plans.admission plans.there waits plans.known
      ]
    ]

    abbrev from_closure : List (List ℕ)
    from_closure = closure_texts s.view s.desk.pins classes d.sources

    plan_parts : (entries : List Entry) × (closures.closure_entries s.view s.desk.pins classes d.sources ≡ Ok entries) × (resolved_over classes d entries ≡ Ok plans.resolved)
    plan_parts = then_ok (closures.closure_entries s.view s.desk.pins classes d.sources) (resolved_over classes d) plans.resolved plans.is

    plan_kept : (a : Entry) → In a plans.resolved.closure → Q (held_of a)
    plan_kept a h =
        let p = plan_parts in
        closure_trees s.view s.desk.pins classes d.sources Q old_seen
        (λ z is. inr (made_more from_closure texts z (λ y k. subst (In y) (sym plan_texts_are) (in_left y from_closure (scratch_texts d (resolve s.view s.desk.pins (known_of s.desk) d)) k)) is))
        p.0 p.1 a (subst (In a) (sym (resolved_is p.0 d classes plans.resolved p.2).0) h)

    plan_scratch : IsPathOf texts plans.resolved.scratch
    plan_scratch =
        let p = plan_parts in
        let own : List (List ℕ) = with_fingerprint Scratch plans.resolved.text (name_of d) in
        let there : (y : List ℕ) → In y own → In y (scratch_texts d (resolve s.view s.desk.pins (known_of s.desk) d)) = λ y k. rw plans.is k in
        record {
          kind = Scratch;
          content = plans.resolved.text;
          name = name_of d;
          is = sym (resolved_is p.0 d classes plans.resolved p.2).1;
          hashed = all_among own texts
              (λ y k. subst (In y) (sym plan_texts_are) (in_right y from_closure (scratch_texts d (resolve s.view s.desk.pins (known_of s.desk) d)) (there y k)));
        }

  -- what a goal keeps was kept before, or is planned now
  abbrev KeptOrPlanned : List ℕ → ℕ → Resolved → Type 0
  KeptOrPlanned x n r =
      ((h : Goal) × (goal_at n (w x).goals ≡ Some h) × (h.resolved ≡ Some r))
      ⊎ ((plans : PlansGoal s e.request (outcome_of setup w e)) × (plans.resolved ≡ r))

  kept_or_planned : (x : List ℕ) (n : ℕ) (g : Goal) (r : Resolved) → goal_at n (after setup w e x).goals ≡ Some g → g.resolved ≡ Some r → KeptOrPlanned x n r
  kept_or_planned x n g r at is = elim (after_follows setup w e x) [
    | inl follows ↦ elim (follows.kept n g at) [
      | inl none ↦ (let no : Some r ≡ None = sym is ∙ none.1 in absurd (cc))
      | inr h ↦ inl (h.0, h.1, sym h.2 ∙ is)
    ]
    | inr p ↦
        let plans = p.1 in
        let new : Goal = planned_goal plans.goal plans.resolved in
        let later : goal_at n (with_goal plans.number new s.desk).goals ≡ Some g =
        ap (goal_at n) (sym (goals_after setup w e (with_goal plans.number new s.desk) (replies.Status Planned) plans.outcome_is))
        ∙ subst (λ y. goal_at n (after setup w e y).goals ≡ Some g) p.0 at in
        elim (put_cases plans.number n new plans.goal g s.desk.goals plans.there later) [
          | inl q ↦ inr (plans, some_same plans.resolved r (ap (λ (z : Goal). z.resolved) q.1 ∙ is))
          | inr old ↦ inl (g, subst (λ y. goal_at n (w y).goals ≡ Some g) (sym p.0) old, is)
        ]
  ]

  kept_after : (x : List ℕ) (n : ℕ) (g : Goal) (r : Resolved) → goal_at n (after setup w e x).goals ≡ Some g → g.resolved ≡ Some r → (a : Entry)
      → In a r.closure → Q (held_of a)
  kept_after x n g r at is a h = elim (kept_or_planned x n g r at is) [
    | inl old ↦ old_kept x n old.0 r old.1 old.2 a h
    | inr new ↦ plan_kept new.0 a (subst (λ (z : Resolved). In a z.closure) (sym new.1) h)
  ]

  trees_after : (x : List ℕ) → is_user setup x ≡ true → (z : Source) → Contains (trees_on (after setup w e x)) z → Q z
  trees_after x listed z c =
      let later : Desk = after setup w e x in
      elim (in_append z (held later) (flat_map (λ g. kept_trees g.resolved) later.goals) (in_of (trees_on later) z c)) [
        | inl a ↦ held_after x listed z a
        | inr b ↦
            let g = from_flat_map (λ k. kept_trees k.resolved) z later.goals b in
            let i = in_at g.0 later.goals g.1 in
            by (suc i.0) g.0 i.1 g.0.resolved refl g.2
      ]
    where
      by : (n : ℕ) (g : Goal) → goal_at n (after setup w e x).goals ≡ Some g → (o : Option Resolved) → g.resolved ≡ o → In z (kept_trees o) → Q z
      by n g at None is h = absurd h
      by n g at (Some r) is h = let m = from_map held_of z r.closure h in subst Q m.2 (kept_after x n g r at is m.0 m.1)

  scratch_after : (x : List ℕ) (n : ℕ) (g : Goal) (r : Resolved) → goal_at n (after setup w e x).goals ≡ Some g → g.resolved ≡ Some r
      → ((h : Goal) × (goal_at n (w x).goals ≡ Some h) × (h.resolved ≡ Some r)) ⊎ IsPathOf texts r.scratch
  scratch_after x n g r at is = elim (kept_or_planned x n g r at is) [
    | inl old ↦ inl old
    | inr new ↦ inr (subst (λ (z : Resolved). IsPathOf texts z.scratch) new.1 (plan_scratch new.0))
  ]

  -- ---- derivations

  refused_same : (x : List ℕ) (why : Refusal) → outcome_of setup w e ≡ Err why → after setup w e x ≡ w x
  refused_same x why is = ap (λ o. desk_after setup u o x (reaches setup w x u) (w x)) is

  too_large : (text : List ℕ) → nat_le (length text) most_derivation_bytes ≡ false → outcome setup s (AddDerivation text) ≡ Err TooLarge
  unfolding outcome
  too_large text f = rw f refl

  derivation_texts_of : (text : List ℕ) (d : Derivation) (a : Admission) → nat_le (length text) most_derivation_bytes ≡ true → derivation_of_text text ≡ Some d
      → known_at (known_of (w u)) (derivation_path d) ≡ None → admit (known_of (w u)) d ≡ Ok a
      → texts_of setup w u (AddDerivation text)
      ≡ with_fingerprint (DerivationFile (file_references d)) (derivation_text d) (name_of d ++ codes ".drv") ++ with_fingerprint OutputClass (masked_text (known_of (w u)) d) (name_of d)
  derivation_texts_of text d a short read new admitted = rw (short, read, new, admitted) refl

  module _ (admits : Admits e.request (w u) (after setup w e u)) where
    abbrev file : Derivation
    file = admits.derivation

    abbrev known : Known
    known = known_of (w u)

    abbrev of_file : List (List ℕ)
    of_file = with_fingerprint (DerivationFile (file_references file)) (derivation_text file) (name_of file ++ codes ".drv")

    abbrev of_class : List (List ℕ)
    of_class = with_fingerprint OutputClass (masked_text known file) (name_of file)

    not_refused : (why : Refusal) → outcome_of setup w e ≡ Err why → ⊥
    not_refused why is = no_longer (w u).derivations admits.admission (sym (ap (λ (z : Desk). z.derivations) (refused_same u why is)) ∙ admits.derivations)

    derivation_texts_are : texts ≡ of_file ++ of_class
    derivation_texts_are = elim (either (is_user setup u)) [
      | inr f ↦ absurd (not_refused UnknownUser (of_stranger f))
      | inl t ↦ elim (either (nat_le (length admits.text) most_derivation_bytes)) [
        | inr f ↦ absurd (not_refused TooLarge (outcome_is t ∙ ap (outcome setup s) admits.asked ∙ too_large admits.text f))
        | inl short ↦
            texts_are t ∙ ap (texts_of setup w u) admits.asked
            ∙ derivation_texts_of admits.text file admits.admission short admits.read admits.new admits.admitted
      ]
    ]

    admitted_named : IsPathOf texts admits.admission.path × IsPathOf texts admits.admission.class.path
    admitted_named =
        let same : admission_of known file ≡ admits.admission = (admit_parts known file admits.admission admits.admitted).1 in (
          record {
            kind = DerivationFile (file_references file);
            content = derivation_text file;
            name = name_of file ++ codes ".drv";
            is = ap (λ (z : Admission). z.path) (sym same);
            hashed = all_among of_file texts (λ y k. subst (In y) (sym derivation_texts_are) (in_left y of_file of_class k));
          },
          record {
            kind = OutputClass;
            content = masked_text known file;
            name = name_of file;
            is = ap (λ (z : Admission). z.class.path) (sym same);
            hashed = all_among of_class texts (λ y k. subst (In y) (sym derivation_texts_are) (in_right y of_file of_class k));
          },
        )

    admitted_after : (a : Admission) → In a (after setup w e u).derivations → In a (w u).derivations ⊎ (IsPathOf texts a.path × IsPathOf texts a.class.path)
    admitted_after a h = elim (in_append a (w u).derivations (admits.admission ∷ []) (subst (In a) admits.derivations h)) [
      | inl old ↦ inl old
      | inr new ↦ elim new [ inl same ↦ inr (subst (λ (z : Admission). IsPathOf texts z.path × IsPathOf texts z.class.path) same admitted_named) | inr none ↦ absurd none ]
    ]

  derivations_after : (x : List ℕ) (a : Admission) → Contains (after setup w e x).derivations a
      → Contains (w x).derivations a ⊎ (IsPathOf texts a.path × IsPathOf texts a.class.path)
  derivations_after x a c =
      let h = in_of (after setup w e x).derivations a c in
      elim (after_grows setup w e x) [
        | inl keeps ↦ inl (contains_of (w x).derivations a (subst (In a) keeps.derivations h))
        | inr p ↦
            let admits : Admits e.request (w u) (after setup w e u) = subst (λ y. Admits e.request (w y) (after setup w e y)) p.0 p.1 in
            elim (admitted_after admits a (subst (λ y. In a (after setup w e y).derivations) p.0 h)) [
              | inl old ↦ inl (contains_of (w x).derivations a (subst (λ y. In a (w y).derivations) (sym p.0) old))
              | inr new ↦ inr new
            ]
      ]

  -- ---- what a reply tells

  abbrev Tells : Outcome → Type 0
  Tells o = (z : Source) → In z (told_trees (reply_of o)) → Q z

  told_none : (reach : List ℕ → Bool) (o : Option Goal) (z : Source) → In z (told_trees (told_of reach o)) → Q z
  told_none reach None z h = absurd h
  told_none reach (Some g) z h = absurd h

  told_request : (r : Request) → ((z : Source) → IsTreeOf (texts_of setup w u r) z → Q z) → Tells (outcome setup s r)
  unfolding outcome
  told_request (AddSource name tree) made = add_source_cases Tells setup (w u) name tree (λ z h. absurd h) (λ z h. absurd h) (λ z h. absurd h)
  told_request (AddDerivation text) made =
      add_derivation_cases Tells setup (w u) text (record {
        had = λ a z h. absurd h;
        added = λ d a is z h. absurd h;
        over = λ z h. absurd h;
        unread = λ z h. absurd h;
        missing = λ z h. absurd h;
        high = λ z h. absurd h;
      }) (λ large z h. absurd h)
  told_request (Offer derivation tree) made =
      offer_cases Tells setup (w u) derivation tree (record {
        had = λ r z h. absurd h;
        added = λ r z h. absurd h;
        over = λ z h. absurd h;
        refused = λ why z h. absurd h;
        unknown = λ absent z h. absurd h;
      })
  told_request (Fetch path) made = fetch_cases Tells (w u) path (λ tree there z h. absurd h) (λ absent z h. absurd h)
  told_request (Trust other) made = trust_cases Tells setup s other (λ known z h. absurd h) (λ z h. absurd h)
  told_request (Distrust other) made = distrust_cases Tells setup s other (λ z h. absurd h) (λ z h. absurd h)
  told_request (Pin class path) made = pin_cases Tells setup (w u) class path (λ z h. absurd h) (λ z h. absurd h)
  told_request (Unpin class) made = λ z h. absurd h
  told_request (Closure class) made =
      then_done Tells (closure_for s class) (λ entries. becomes s.desk (replies.Closure entries))
      (λ entries given z h.
      let m = from_map held_of z entries h in
      subst Q m.2 (closure_trees s.view s.desk.pins (class ∷ []) [] Q old_seen made entries given m.0 m.1))
      (λ why refused z h. absurd h)
  told_request (Take class) made =
      take_cases Tells s class setup (λ entries path given there z h. absurd h) (λ z h. absurd h) (λ z h. absurd h) (λ why z h. absurd h) (λ z h. absurd h)
  told_request (Build path) made = build_cases Tells (w u) path (λ a known z h. absurd h) (λ full z h. absurd h) (λ unknown z h. absurd h)
  told_request (Status n) made = status_cases Tells s n (λ g there z h. absurd h) (λ absent z h. absurd h)
  told_request (Plan n) made =
      plan_cases Tells s n (record {
        resolved = λ g r z h. absurd h;
        failed = λ g why z h. absurd h;
        unrealised = λ z h. absurd h;
        unknown = λ z h. absurd h;
        untimely = λ z h. absurd h;
        absent = λ none z h. absurd h;
      })
  told_request (Start n) made =
      start_cases Tells setup s n (record {
        entered = λ g r z h. absurd h;
        had = λ g r q z h. absurd h;
        added = λ g r q z h. absurd h;
        full = λ g r z h. absurd h;
        over = λ g z h. absurd h;
        untimely = λ z h. absurd h;
        absent = λ none z h. absurd h;
      })
  told_request (Finish n bytes) made = end_job_cases Tells setup s n (Output bytes) (λ g there leads z h. told_none s.reach _ z h) (λ z h. absurd h) (λ absent z h. absurd h)
  told_request (Fail n status) made = end_job_cases Tells setup s n Failure (λ g there leads z h. told_none s.reach _ z h) (λ z h. absurd h) (λ absent z h. absurd h)
  told_request (Forget class path) made = forget_cases Tells s class path (λ z h. absurd h) (λ z h. absurd h) (λ z h. absurd h)

  told_after : (z : Source) → Contains (told_trees (reply_to setup w e)) z → Q z
  told_after z c = elim (either (is_user setup u)) [
    | inl t ↦ subst Tells (sym (outcome_is t)) (told_request e.request (made_by t)) z (in_of (told_trees (reply_to setup w e)) z c)
    | inr f ↦ subst Tells (sym (of_stranger f)) (λ y h. absurd h) z (in_of (told_trees (reply_to setup w e)) z c)
  ]

pub each_new : EachNewValueIsNamed
each_new setup w e = record {
  desks = λ x listed. record { trees = trees_after setup w e x listed; derivations = derivations_after setup w e x; scratch = scratch_after setup w e x };
  told = told_after setup w e;
}
