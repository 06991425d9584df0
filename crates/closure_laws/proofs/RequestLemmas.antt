-- What a request makes of the desk of its user: it is held as before.
use Rattle.std.proofs.Common.{◌≡◌, ℕ, true, refl, sym, ◌∙◌, subst, List, [], ◌∷◌, Option, None, Some, Result, Ok, Err}
use Rattle.std.specs.Prelude.{All, Contains, bytes_eq, if◌then◌else◌}
use Rattle.std.proofs.lemmas.Bool.{cond_both}
use Rattle.sha2.specs.Sha256.{sha256}
use Rattle.model.specs.declared.refusal.RewriteFault.{RewriteFault}
use Rattle.model.specs.declared.refusal.Refusal.TheVariants.{Quota, UnknownDerivation, UnknownGoal, WrongState}
use Rattle.model.specs.Archives.{Tree, IsTree, nar}
use Rattle.model.specs.Results.{then_do, unless_rewrite_refused}
use Rattle.model.specs.Paths.{Source as SourceKind, IsPath, is_name, with_fingerprint}
use Rattle.model.specs.Settling.{Settled}
use Rattle.model.specs.Derivations.{name_of}
use Rattle.model.specs.Classes.{Admission, known_at}
use Rattle.model.specs.Worlds.{Setup, World, Source, Record, Desk, Entry, OfSource, OfRecord, Resolved, Building, Done, Failed, Goal, known_of, has_record, with_record, with_source, with_entries, is_within, with_trust, without_trust, with_pin, without_pin, with_derivation}
use Rattle.model.specs.References.{candidates}
use Rattle.model.specs.Closures.{IsWhole}
use Rattle.model.specs.Outputs.{record_for, texts_under}
use Rattle.model.specs.Goals.{goal_at, with_goal, with_new_goal, new_goal, in_status, planned_in, job_of}
use Rattle.model.specs.FinishedBuilds.{finished_build, for_class}
use Rattle.model.specs.Events.{Request, AddSource, AddDerivation, Offer, Trust, Distrust, Pin, Unpin, Take, Build, Plan, Start, Finish, Fail, Forget}
use Rattle.model.specs.Outcomes.{Observation, observation_of, NoNotification, Outcome, need, add_entry}
use Rattle.model.specs.OfferRequests.{output_settled, offer_output, offer}
use Rattle.model.specs.GoalRequests.{own_job, turns, done_again, start_copied, start_goal}
use Rattle.model.specs.SourceRequests.{source_named}
use Rattle.model.specs.Steps.{outcome}
use Rattle.model.specs.HashedTexts.{texts_of}
use Rattle.laws.proofs.MemberLemmas.{In}
use Rattle.laws.proofs.OutcomeLemmas.{one_of, entry_added}
use Rattle.laws.proofs.QueryLemmas.{query_cases}
use Rattle.laws.proofs.SourceRequestLemmas.{add_source_cases}
use Rattle.laws.proofs.DerivationRequestLemmas.{add_derivation_cases}
use Rattle.laws.proofs.TrustRequestLemmas.{trust_cases, distrust_cases}
use Rattle.laws.proofs.PinRequestLemmas.{pin_cases}
use Rattle.laws.proofs.ClosureRequestLemmas.{take_cases}
use Rattle.laws.proofs.GoalRequestLemmas.{planned_goal, build_cases, plan_cases}
use Rattle.laws.proofs.ForgetRequestLemmas.{forget_cases}
use Rattle.laws.proofs.FinishedLemmas.{finished}
use Rattle.laws.proofs.KeptLemmas.{kept_in}
use Rattle.laws.proofs.HashedDeskLemmas.{is_quiet}
use Rattle.laws.proofs.ServedLemmas.{some_same, find_in}
use Rattle.model.specs.WellFormed.{IsWellFormed}
use Rattle.closure_laws.proofs.PrintedLemmas.{second_of}
use Rattle.closure_laws.proofs.HeldLemmas.{IsMadeRecord, IsMadeEntry, HasLabelled, HasClosure, HasBuilt, IsHeld, held_same, held_source, held_record, held_goal, held_new, held_without, held_entries, entries_have}
use Rattle.closure_laws.proofs.OutputLemmas.{path_of, made_output, output_labelled, candidates_made, candidate_source, labelled_closure, made_for_class, labelled_for_class}
use Rattle.closure_laws.proofs.GivenLemmas.{closure_whole, closure_entry}

-- ---- desks

-- what is known of a derivation has a name, and the path of its class
pub record IsSoundAdmission (a : Admission) : Type 0 where
  pub name : is_name (name_of a.derivation) ≡ true
  pub class : IsPath a.class.path

-- what a goal keeps was made, is whole, and is built under a path
pub record IsKept (texts : List (List ℕ)) (r : Resolved) : Type 0 where
  pub scratch : IsPath r.scratch
  pub entries : (e : Entry) → In e r.closure → IsMadeEntry texts e
  pub whole : IsWhole r.closure

-- so it is with all that a desk has
pub record IsSoundDesk (texts : List (List ℕ)) (d : Desk) : Type 0 where
  pub held : IsHeld texts d
  pub derivations : (a : Admission) → In a d.derivations → IsSoundAdmission a
  pub kept : (n : ℕ) (g : Goal) (r : Resolved) → goal_at n d.goals ≡ Some g → g.resolved ≡ Some r → IsKept texts r

-- what is known of a derivation is on the desk
pub known_sound : (texts : List (List ℕ)) (d : Desk) (path : List ℕ) (a : Admission) → IsSoundDesk texts d → known_at (known_of d) path ≡ Some a
    → IsSoundAdmission a
known_sound texts d path a is known = is.derivations a (find_in (λ (z : Admission). bytes_eq z.path path) d.derivations a known).0

-- a desk after an outcome of which nothing is delivered
abbrev pub HeldQuietly : List (List ℕ) → Outcome → Type 0
HeldQuietly texts (Err why) = Unit {0}
HeldQuietly texts (Ok c) = (c.notification ≡ NoNotification) × IsHeld texts c.desk

-- ---- requests

module _ (texts : List (List ℕ)) (setup : Setup) (w : World) (u : List ℕ) (own : IsSoundDesk texts (w u))
    (seen : (d : Desk) → In d (observation_of setup w u).view → IsHeld texts d) where
  abbrev s : Observation
  s = observation_of setup w u

  abbrev P : Outcome → Type 0
  P = HeldQuietly texts

  same : (d : Desk) → d.sources ≡ (w u).sources → d.records ≡ (w u).records → d.goals ≡ (w u).goals → IsHeld texts d
  same d sources records goals = held_same texts (w u) d own.held sources records goals

  turned : (n : ℕ) (x : Goal) → HasBuilt (w u).sources x → IsHeld texts (with_goal n x (w u))
  turned n x has = held_goal texts n x (w u) own.held has

  -- a source
  source_held : (name : List ℕ) (tree : Tree) → is_name name ≡ true → All (Contains texts) (with_fingerprint SourceKind (nar tree) name)
      → IsHeld texts (with_source (source_named name tree) (w u))
  source_held name tree named hashed =
      held_source texts (source_named name tree) (w u) own.held (
        path_of SourceKind (sha256 (nar tree)) name named,
        record {
          kind = SourceKind;
          digest = sha256 (nar tree);
          name = name;
          is = refl;
          inside = second_of texts SourceKind (nar tree) name hashed;
        },
      )

  -- an output
  module _ (derivation : List ℕ) (tree : Tree) (is_tree : IsTree tree) (hashed : All (Contains texts) (texts_of setup w u (Offer derivation tree))) where
    by_settled : (a : Admission) → known_at (known_of (w u)) derivation ≡ Some a → (o : Result Settled RewriteFault)
        → output_settled (candidates (w u) a.derivation) a tree ≡ o
        → P (then_do (unless_rewrite_refused o) (λ z. add_entry setup (w u) (OfRecord (record_for (candidates (w u) a.derivation) a z))))
    by_settled a known (Err why) e = tt
    by_settled a known (Ok z) e =
        let labels = candidates (w u) a.derivation in
        let r : Record = record_for labels a z in
        let sound = known_sound texts (w u) derivation a own known in
        let are : texts_of setup w u (Offer derivation tree) ≡ texts_under a.class.path labels a tree = rw known refl in
        let all : All (Contains texts) (texts_under a.class.path labels a tree) = subst (All (Contains texts)) are hashed in
        let made : IsMadeRecord texts r =
        made_output texts a.class.path labels a tree z sound.class sound.name is_tree (candidates_made texts (w u) a.derivation own.held) e all in
        let has : HasLabelled (w u).sources r = output_labelled (w u).sources labels a z (candidate_source (w u) a.derivation) in
        entry_added P setup (w u) (OfRecord r) (refl, own.held) (refl, held_record texts r (w u) own.held made has) tt

    by_known : (o : Option Admission) → known_at (known_of (w u)) derivation ≡ o
        → P (need UnknownDerivation o (λ a. offer_output setup (w u) tree (candidates (w u) a.derivation) a))
    by_known None e = tt
    by_known (Some a) e = by_settled a e (output_settled (candidates (w u) a.derivation) a tree) refl

    offer_held : P (offer setup (w u) derivation tree)
    offer_held = by_known (known_at (known_of (w u)) derivation) refl

  -- a start
  module _ (n : ℕ) (r : Resolved) where
    abbrev copied : Desk
    copied = with_entries r.closure (w u)

    has_closure : HasClosure copied.sources r
    has_closure z h = entries_have r.closure (w u) z h

    done_built : (sources : List Source) (g : Goal) (path : List ℕ) → HasBuilt sources (in_status (Done path) g)
    done_built sources g path built q kept z h = absurd (cc)

    failed_built : (sources : List Source) (g : Goal) → HasBuilt sources (in_status (Failed Quota) g)
    failed_built sources g built q kept z h = absurd (cc)

    again_held : (g : Goal) (q : Record) → IsHeld texts copied → IsMadeRecord texts q → HasLabelled copied.sources q → P (done_again setup s copied n g q)
    again_held g q had made has =
        let done : Goal = in_status (Done q.path) g in
        let full : Outcome = turns s copied n (in_status (Failed Quota) g) in
        let more : Desk = with_record q copied in
        one_of P (has_record q copied) (turns s copied n done) (if is_within setup more then turns s more n done else full)
        (λ there. (refl, held_goal texts n done copied had (done_built copied.sources g q.path)))
        (λ absent. one_of P (is_within setup more) (turns s more n done) full
        (λ fits. (refl, held_goal texts n done more (held_record texts q copied had made has) (done_built more.sources g q.path)))
        (λ outside. (refl, held_goal texts n (in_status (Failed Quota) g) copied had (failed_built copied.sources g))))

    entered_held : (g : Goal) → IsHeld texts copied → g.resolved ≡ Some r → P (turns s copied n (in_status (Building (job_of s.running (own_job s n) r)) g))
    entered_held g had keeps =
        let x : Goal = in_status (Building (job_of s.running (own_job s n) r)) g in
        let same : (q : Resolved) → g.resolved ≡ Some q → q ≡ r = λ q kept. some_same q r (sym kept ∙ keeps) in
        (refl, held_goal texts n x copied had (λ built q kept z h. has_closure z (subst (λ (v : Resolved). In (OfSource z) v.closure) (same q kept) h)))

    copied_held : (g : Goal) → IsHeld texts copied → g.resolved ≡ Some r → (known : Option Admission) (built : Option Record) → finished_build s.view r ≡ built
        → P (start_copied setup s copied n g r known built)
    copied_held g had keeps (Some a) (Some q) e =
        let f = finished s.view r q e in
        let made = (seen f.desk f.seen).records q f.there in
        let has = labelled_closure copied.sources r q has_closure f.labelled in
        again_held g (for_class a.class q) had (made_for_class texts a.class q made) (labelled_for_class copied.sources a.class q has)
    copied_held g had keeps (Some a) None e = entered_held g had keeps
    copied_held g had keeps None built e = entered_held g had keeps

  module _ (n : ℕ) where
    planned_held : (g : Goal) → goal_at n (w u).goals ≡ Some g → (o : Option Resolved) → planned_in g.status g.resolved ≡ o
        → P (need WrongState o (start_goal setup s n g))
    planned_held g there None e = tt
    planned_held g there (Some r) e =
        let keeps : g.resolved ≡ Some r = kept_in g.status g.resolved r e in
        let kept = own.kept n g r there keeps in
        let had : IsHeld texts (with_entries r.closure (w u)) = held_entries texts r.closure (w u) own.held kept.entries kept.whole in
        one_of P (is_within setup (with_entries r.closure (w u)))
        (start_copied setup s (with_entries r.closure (w u)) n g r (known_at (known_of (w u)) g.derivation) (finished_build s.view r))
        (turns s (w u) n (in_status (Failed Quota) g))
        (λ within. copied_held n r g had keeps (known_at (known_of (w u)) g.derivation) (finished_build s.view r) refl)
        (λ outside. (refl, turned n (in_status (Failed Quota) g) (λ built q kept z h. absurd (cc))))

    goal_held : (o : Option Goal) → goal_at n (w u).goals ≡ o
        → P (need UnknownGoal o (λ g. need WrongState (planned_in g.status g.resolved) (start_goal setup s n g)))
    goal_held None e = tt
    goal_held (Some g) e = planned_held g e (planned_in g.status g.resolved) refl

  -- any request but one that ends a job
  pub quietly_held : (r : Request) → IsWellFormed r → All (Contains texts) (texts_of setup w u r) → is_quiet r ≡ true → P (outcome setup s r)
  unfolding outcome
  quietly_held (AddSource name tree) well hashed quiet =
      add_source_cases P setup (w u) name tree (refl, own.held) (refl, source_held name tree well.0 hashed) tt
  quietly_held (AddDerivation text) well hashed quiet =
      add_derivation_cases P setup (w u) text (record {
        had = λ a. (refl, own.held);
        added = λ d a is. (refl, same (with_derivation a (w u)) refl refl refl);
        over = tt;
        unread = tt;
        missing = tt;
        high = tt;
      }) (λ large. tt)
  quietly_held (Offer derivation tree) well hashed quiet = offer_held derivation tree well.1 hashed
  quietly_held (Trust other) well hashed quiet =
      trust_cases P setup s other
      (λ known. (refl, cond_both (bytes_eq other u) (w u) (with_trust other (w u)) (IsHeld texts) (λ yes. own.held) (λ no. same (with_trust other (w u)) refl refl refl))) tt
  quietly_held (Distrust other) well hashed quiet = distrust_cases P setup s other (refl, same (without_trust other (w u)) refl refl refl) tt
  quietly_held (Pin class path) well hashed quiet = pin_cases P setup (w u) class path (refl, same (with_pin class path (w u)) refl refl refl) tt
  quietly_held (Unpin class) well hashed quiet = (refl, same (without_pin class (w u)) refl refl refl)
  quietly_held (Take class) well hashed quiet =
      take_cases P s class setup
      (λ entries path given there. (
        refl,
        held_entries texts entries (w u) own.held (closure_entry texts s.view seen s.desk.pins (class ∷ []) [] entries given hashed)
            (closure_whole texts s.view seen s.desk.pins (class ∷ []) [] entries given hashed),
      )) tt tt (λ why. tt) tt
  quietly_held (Build path) well hashed quiet =
      build_cases P (w u) path
      (λ a known. (refl, held_new texts (new_goal path) (w u) (with_new_goal path (w u)) own.held (λ built q kept z h. absurd (cc)) refl refl refl))
      (λ full. tt) (λ unknown. tt)
  quietly_held (Plan n) well hashed quiet =
      plan_cases P s n (record {
        resolved = λ g r. (refl, turned n (planned_goal g r) (λ built q kept z h. absurd (cc)));
        failed = λ g why. (refl, turned n (in_status (Failed why) g) (λ built q kept z h. absurd (cc)));
        unrealised = tt;
        unknown = tt;
        untimely = tt;
        absent = λ none. tt;
      })
  quietly_held (Start n) well hashed quiet = goal_held n (goal_at n (w u).goals) refl
  quietly_held (Forget class path) well hashed quiet = forget_cases P s class path (refl, held_without texts class path (w u) own.held) tt tt
  quietly_held (Finish n bytes) well hashed quiet = absurd (cc)
  quietly_held (Fail n status) well hashed quiet = absurd (cc)
  quietly_held query well hashed quiet = query_cases P setup s query refl (λ reply no_failure. (refl, own.held)) (λ why no_failure. tt)
