-- Each closure that is given, or that a goal keeps once it is planned, is good: as events are taken, all that is on desks was made by texts
-- that are hashed.
use Rattle.std.proofs.Common.{◌≡◌, ◌⊎◌, ℕ, Bool, true, inl, inr, refl, sym, ◌∙◌, ap, subst, List, [], ◌∷◌, Some, None, Ok, Err}
use Rattle.std.specs.Prelude.{All, Contains, filter, bytes_eq, if◌then◌else◌}
use Rattle.std.proofs.lemmas.List.Elements.{All-head, All-tail, All-contains_itself}
use Rattle.sha2.specs.Sha256.{sha256}
use Rattle.model.specs.Paths.{Scratch, IsPath, NoClash, store_path}
use Rattle.model.specs.Derivations.{Derivation, name_of}
use Rattle.model.specs.Classes.{Admission, known_at}
use Rattle.model.specs.Worlds.{Setup, is_user, World, nothing, Resolved, Planned, Goal, Desk, known_of}
use Rattle.model.specs.Closures.{closure_entries, closure_texts}
use Rattle.model.specs.Goals.{goal_at, with_goal_at, with_goal}
use Rattle.model.specs.Endings.{Output, Failure}
use Rattle.model.specs.Resolutions.{input_classes, resolved_over, scratch_texts}
use Rattle.model.specs.GoalRequests.{resolve_for}
use Rattle.model.specs.Events.{Closure, Plan, Finish, Fail, Event, Request}
use Rattle.model.specs.Replies as replies
use Rattle.model.specs.Outcomes.{Observation, observation_of, reaches, Ended, Outcome, reply_of, delivered, desk_after}
use Rattle.model.specs.Steps.{outcome, outcome_of, after}
use Rattle.model.specs.HashedTexts.{texts_of, texts_of_event, hashed}
use Rattle.model.specs.GivenClosures.{IsGoodFor, GivesGoodClosure, KeepsGoodClosure, GiveGoodClosures}
use Rattle.model.proofs.BoolLemmas.{either, same_bytes, bytes_same}
use Rattle.laws.proofs.MemberLemmas.{In, any_true, in_append, from_map, from_filter}
use Rattle.laws.proofs.ServedLemmas.{then_ok, some_same}
use Rattle.laws.proofs.EndRequestLemmas.{end_job_cases}
use Rattle.laws.proofs.GoalRequestLemmas.{planned_goal}
use Rattle.laws.proofs.HashedEndLemmas.{either_desk}
use Rattle.laws.proofs.HashedRequestLemmas.{resolved_is}
use Rattle.laws.proofs.KnowledgeLemmas.{after_grows}
use Rattle.laws.proofs.KeptLemmas.{PlansGoal, after_follows, put_cases, put_there, goals_after}
use Rattle.model.specs.WellFormed.{IsWellFormed, AreWellFormed}
use Rattle.closure_laws.specs.GoodClosures.{ClosuresAreGood}
use Rattle.closure_laws.proofs.HeldLemmas.{IsHeld, goal_in}
use Rattle.closure_laws.proofs.OutputLemmas.{path_of}
use Rattle.closure_laws.proofs.GivenLemmas.{closure_whole, closure_entry, closure_good}
use Rattle.closure_laws.proofs.RequestLemmas.{IsSoundAdmission, IsKept, IsSoundDesk, known_sound, HeldQuietly, quietly_held}
use Rattle.closure_laws.proofs.EndedLemmas.{output_ends, failure_ends}
use Rattle.closure_laws.proofs.AnsweredLemmas.{all_front, all_behind, admitted_sound, asked_outcome, no_outcome, asked_texts, IsPlanned, goal_planned, goal_hashes, entries_given}

-- all on the desks of the users was made by texts that are hashed
abbrev IsSoundWorld : List (List ℕ) → Setup → World → Type 0
IsSoundWorld texts setup w = (x : List ℕ) → is_user setup x ≡ true → IsSoundDesk texts (w x)

-- ---- an event

module _ (texts : List (List ℕ)) (setup : Setup) (w : World) (sound : IsSoundWorld texts setup w) (e : Event) (inside : All (Contains texts) (texts_of_event setup w e)) where
  abbrev u : List ℕ
  u = e.actor

  abbrev s : Observation
  s = observation_of setup w e.actor

  seen : (d : Desk) → In d s.view → IsHeld texts d
  seen d h =
      let m = from_map w d (filter (reaches setup w u) setup.users) h in
      let listed = (from_filter (reaches setup w u) m.0 setup.users m.1).0 in
      subst (IsHeld texts) m.2 (sound m.0 (any_true (λ n. bytes_eq n m.0) setup.users m.0 listed (bytes_same m.0))).held

  -- ---- what is given

  gives : NoClash texts → GivesGoodClosure setup w e
  gives clean class entries asked told p planned =
      let known = entries_given setup w e class entries asked told in
      closure_good texts s.view seen s.desk.pins (class ∷ []) [] entries known.1 (asked_texts texts setup w e (Closure class) known.0 asked inside) clean p planned

  -- ---- what is planned

  module _ (n : ℕ) (asked : e.request ≡ Plan n) (user : is_user setup u ≡ true) (it : IsPlanned s n (outcome_of setup w e)) where
    abbrev d : Derivation
    d = it.admission.derivation

    abbrev classes : List (List ℕ)
    classes = input_classes (known_of s.desk) d

    closure_hashed : All (Contains texts) (closure_texts s.view s.desk.pins classes d.sources)
    closure_hashed =
        all_front (Contains texts) (closure_texts s.view s.desk.pins classes d.sources) (scratch_texts d (resolve_for s d))
        (goal_hashes texts s n it.goal it.admission it.there it.waits it.known (asked_texts texts setup w e (Plan n) user asked inside))

    -- its closure, and the path under which it is built
    planned_parts : (closure_entries s.view s.desk.pins classes d.sources ≡ Ok it.resolved.closure) × (store_path Scratch (sha256 it.resolved.text) (name_of d) ≡ it.resolved.scratch)
    planned_parts =
        let parts = then_ok (closure_entries s.view s.desk.pins classes d.sources) (resolved_over classes d) it.resolved it.is in
        let same = resolved_is parts.0 d classes it.resolved parts.2 in
        (parts.1 ∙ ap Ok same.0, same.1)

    planned_kept : IsKept texts it.resolved
    planned_kept = record {
      scratch = subst IsPath planned_parts.1
          (path_of Scratch (sha256 it.resolved.text) (name_of d) (known_sound texts (w u) it.goal.derivation it.admission (sound u user) it.known).name);
      entries = closure_entry texts s.view seen s.desk.pins classes d.sources it.resolved.closure planned_parts.0 closure_hashed;
      whole = closure_whole texts s.view seen s.desk.pins classes d.sources it.resolved.closure planned_parts.0 closure_hashed;
    }

    planned_good : NoClash texts → IsGoodFor setup w u classes d.sources it.resolved.closure
    planned_good clean = closure_good texts s.view seen s.desk.pins classes d.sources it.resolved.closure planned_parts.0 closure_hashed clean

    -- a goal then is the one that was planned, or was there before
    then_there : (m : ℕ) (g : Goal) → goal_at m (after setup w e u).goals ≡ Some g
        → ((m ≡ n) × (planned_goal it.goal it.resolved ≡ g)) ⊎ (goal_at m s.desk.goals ≡ Some g)
    then_there m g at =
        let new : Goal = planned_goal it.goal it.resolved in
        put_cases n m new it.goal g s.desk.goals it.there
        (ap (goal_at m) (sym (goals_after setup w e (with_goal n new s.desk) (replies.Status Planned) it.outcome_is)) ∙ at)

    -- and that of the number is the one that was planned
    planned_there : (g : Goal) → goal_at n (after setup w e u).goals ≡ Some g → planned_goal it.goal it.resolved ≡ g
    planned_there g at =
        let new : Goal = planned_goal it.goal it.resolved in
        let now : goal_at n (with_goal_at n new s.desk.goals) ≡ Some g =
        ap (goal_at n) (sym (goals_after setup w e (with_goal n new s.desk) (replies.Status Planned) it.outcome_is)) ∙ at in
        some_same new g (sym (put_there n new it.goal s.desk.goals it.there) ∙ now)

  keeps : NoClash texts → KeepsGoodClosure setup w e
  keeps clean n g a r asked told there resolved known =
      let done = goal_planned setup w e n asked told in
      let it = done.1 in
      let same : planned_goal it.goal it.resolved ≡ g = planned_there n asked done.0 it g there in
      let same_resolved : it.resolved ≡ r = some_same it.resolved r (ap (λ (z : Goal). z.resolved) same ∙ resolved) in
      let same_known : it.admission ≡ a = some_same it.admission a (sym it.known ∙ ap (λ (z : Goal). known_at (known_of s.desk) z.derivation) same ∙ known) in
      subst (λ (z : Admission). IsGoodFor setup w u (input_classes (known_of (w u)) z.derivation) z.derivation.sources r.closure) same_known
      (subst (λ (z : Resolved). IsGoodFor setup w u (input_classes (known_of (w u)) it.admission.derivation) it.admission.derivation.sources z.closure) same_resolved
      (planned_good n asked done.0 it clean))

  -- ---- desks afterwards

  module _ (well : IsWellFormed e.request) (x : List ℕ) (listed : is_user setup x ≡ true) where
    abbrev own : IsSoundDesk texts (w x)
    own = sound x listed

    abbrev Later : Outcome → Type 0
    Later o = IsHeld texts (desk_after setup u o x (reaches setup w x u) (w x))

    own_same : (if bytes_eq x u then w u else w x) ≡ w x
    own_same = elim (either (bytes_eq x u)) [ inl t ↦ rw t (ap w (sym (same_bytes x u t))) | inr f ↦ rw f refl ]

    after_quiet : (o : Outcome) → HeldQuietly texts o → Later o
    after_quiet (Err why) quiet = own.held
    after_quiet (Ok c) quiet =
        let reached : Bool = reaches setup w x u in
        let d : Desk = if bytes_eq x u then c.desk else w x in
        let same : delivered setup u reached c.notification d ≡ d = ap (λ n. delivered setup u reached n d) quiet.0 in
        subst (IsHeld texts) (sym same) (either_desk (IsHeld texts) (bytes_eq x u) c.desk (w x) quiet.1 own.held)

    held_request : is_user setup u ≡ true → (r : Request) → IsWellFormed r → All (Contains texts) (texts_of setup w u r) → Later (outcome setup s r)
    unfolding outcome
    held_request user (Finish n bytes) fits hashed =
        end_job_cases Later setup s n (Output bytes)
        (λ g there leads. subst (λ d. IsHeld texts (delivered setup u (reaches setup w x u) (Ended n (Output bytes)) d)) (sym own_same)
        (output_ends texts setup w u x own n bytes fits listed (rw there leads) hashed))
        own.held (λ absent. own.held)
    held_request user (Fail n status) fits hashed =
        end_job_cases Later setup s n Failure
        (λ g there leads. subst (λ d. IsHeld texts (delivered setup u (reaches setup w x u) (Ended n Failure) d)) (sym own_same) (failure_ends texts setup w u x own n))
        own.held (λ absent. own.held)
    held_request user r fits hashed = after_quiet (outcome setup s r) (quietly_held texts setup w u (sound u user) seen r fits hashed refl)

    held_after : IsHeld texts (after setup w e x)
    held_after = elim (either (is_user setup u)) [
      | inl t ↦ subst Later (sym (asked_outcome setup w e e.request t refl)) (held_request t e.request well (asked_texts texts setup w e e.request t refl inside))
      | inr f ↦ subst Later (sym (no_outcome setup w e f)) own.held
    ]

    derivations_after : (a : Admission) → In a (after setup w e x).derivations → IsSoundAdmission a
    derivations_after a h = elim (after_grows setup w e x) [
      | inl kept ↦ own.derivations a (subst (In a) kept.derivations h)
      | inr p ↦ elim (in_append a (w x).derivations (p.1.admission ∷ []) (subst (In a) p.1.derivations h)) [
        | inl old ↦ own.derivations a old
        | inr new ↦ elim new [ inl same ↦ subst IsSoundAdmission same (admitted_sound e.request (w x) (after setup w e x) p.1) | inr none ↦ absurd none ]
      ]
    ]

    planned_after : (n : ℕ) (g : Goal) (r : Resolved) → goal_at n (after setup w e u).goals ≡ Some g → g.resolved ≡ Some r
        → PlansGoal s e.request (outcome_of setup w e) → IsKept texts r
    planned_after n g r at is plans =
        let done = goal_planned setup w e plans.number plans.asked (ap reply_of plans.outcome_is) in
        elim (then_there plans.number plans.asked done.0 done.1 n g at) [
          | inl q ↦
              let same : done.1.resolved ≡ r = some_same done.1.resolved r (ap (λ (z : Goal). z.resolved) q.1 ∙ is) in
              subst (IsKept texts) same (planned_kept plans.number plans.asked done.0 done.1)
          | inr old ↦ (sound u done.0).kept n g r old is
        ]

    kept_after : (n : ℕ) (g : Goal) (r : Resolved) → goal_at n (after setup w e x).goals ≡ Some g → g.resolved ≡ Some r → IsKept texts r
    kept_after n g r at is = elim (after_follows setup w e x) [
      | inl follows ↦ elim (follows.kept n g at) [
        | inl none ↦ (let no : Some r ≡ None = sym is ∙ none.1 in absurd (cc))
        | inr old ↦ own.kept n old.0 r old.1 (sym old.2 ∙ is)
      ]
      | inr p ↦ planned_after n g r (subst (λ y. goal_at n (after setup w e y).goals ≡ Some g) p.0 at) is p.1
    ]

    sound_after : IsSoundDesk texts (after setup w e x)
    sound_after = record { held = held_after; derivations = derivations_after; kept = kept_after }

-- ---- a run

give_good : (texts : List (List ℕ)) → NoClash texts → (setup : Setup) (w : World) (events : List Event) → IsSoundWorld texts setup w → AreWellFormed events
    → All (Contains texts) (hashed setup w events) → GiveGoodClosures setup w events
unfolding GiveGoodClosures hashed
give_good texts clean setup w [] sound well inside = tt
give_good texts clean setup w (e ∷ events) sound well inside =
    let here : All (Contains texts) (texts_of_event setup w e) = all_front (Contains texts) (texts_of_event setup w e) (hashed setup (after setup w e) events) inside in (
      gives texts setup w sound e here clean,
      keeps texts setup w sound e here clean,
      give_good texts clean setup (after setup w e) events
          (sound_after texts setup w sound e here (All-head (λ (x : Event). IsWellFormed x.request) e events well)) (All-tail (λ (x : Event). IsWellFormed x.request) e events well)
          (all_behind (Contains texts) (texts_of_event setup w e) (hashed setup (after setup w e) events) inside),
    )

nothing_sound : (texts : List (List ℕ)) (setup : Setup) → IsSoundWorld texts setup nothing
nothing_sound texts setup x listed = record {
  held = record { sources = λ s h. absurd h; records = λ r h. absurd h; labelled = λ r h. absurd h; building = λ g h. absurd h };
  derivations = λ a h. absurd h;
  kept = λ n g r at. absurd (goal_in n g [] at);
}

pub closures_are_good : ClosuresAreGood
closures_are_good setup events well clean =
    let texts : List (List ℕ) = hashed setup nothing events in
    give_good texts clean setup nothing events (nothing_sound texts setup) well (All-contains_itself texts)
