-- What the desk of a user holds after his request: what is of a kind, if what he saw was, and what texts of the request were hashed for.
use Rattle.std.proofs.Common.{◌≡◌, ℕ, Bool, true, false, inl, inr, refl, subst, List, [], ◌∷◌, ◌++◌, Option, Some, None, Result, Ok, Err}
use Rattle.std.specs.Prelude.{map, not, bytes_eq, if◌then◌else◌}
use Rattle.std.proofs.lemmas.Bool.{cond_both}
use Rattle.std.proofs.lemmas.List.Elements.{All-contains_itself}
use Rattle.model.specs.declared.refusal.RewriteFault.{RewriteFault}
use Rattle.model.specs.declared.refusal.Refusal.TheVariants.{Quota, UnknownDerivation, UnknownGoal, WrongState}
use Rattle.model.specs.Archives.{Tree}
use Rattle.model.specs.Results.{then_do, unless_rewrite_refused}
use Rattle.model.specs.Classes.{Admission, known_at}
use Rattle.model.specs.Derivations.{name_of}
use Rattle.model.specs.Settling.{Settled, hash_part_in, settling_texts}
use Rattle.model.specs.Worlds.{Setup, World, Source, Record, Desk, Entry, OfSource, OfRecord, Resolved, Done, Failed, Goal, known_of, held, tree_of_record, has_record, has_entry, with_entry, with_all, missing, with_entries, with_record, is_within, with_trust}
use Rattle.model.specs.References.{candidates, paths_of_labels}
use Rattle.model.specs.Outputs.{record_for}
use Rattle.model.specs.Goals.{goal_at, in_status, planned_in}
use Rattle.model.specs.FinishedBuilds.{is_record_at, finished_build, for_class}
use Rattle.model.specs.Events.{Request, AddSource, AddDerivation, Offer, Trust, Distrust, Pin, Unpin, Take, Build, Plan, Start, Finish, Fail, Forget}
use Rattle.model.specs.Outcomes.{Observation, observation_of, NoNotification, Outcome, need, add_entry}
use Rattle.model.specs.OfferRequests.{output_settled, offer_output, offer}
use Rattle.model.specs.ForgetRequests.{remaining}
use Rattle.model.specs.GoalRequests.{turns, done_again, start_copied, start_goal}
use Rattle.model.specs.SourceRequests.{source_named, source_texts}
use Rattle.model.specs.Steps.{outcome}
use Rattle.model.specs.HashedTexts.{texts_of}
use Rattle.model.specs.HashedValues.{held_of, IsTreeOf, SourceOf, OutputOf}
use Rattle.laws.proofs.MemberLemmas.{In, in_left, in_right, in_append, in_map, from_map, from_filter}
use Rattle.laws.proofs.OutcomeLemmas.{one_of, entry_added}
use Rattle.laws.proofs.QueryLemmas.{query_cases}
use Rattle.laws.proofs.SourceRequestLemmas.{add_source_cases}
use Rattle.laws.proofs.DerivationRequestLemmas.{add_derivation_cases}
use Rattle.laws.proofs.TrustRequestLemmas.{trust_cases, distrust_cases}
use Rattle.laws.proofs.PinRequestLemmas.{pin_cases}
use Rattle.laws.proofs.ClosureRequestLemmas.{take_cases}
use Rattle.laws.proofs.GoalRequestLemmas.{build_cases, plan_cases}
use Rattle.laws.proofs.ForgetRequestLemmas.{forget_cases}
use Rattle.laws.proofs.FinishedLemmas.{finished}
use Rattle.laws.proofs.KeptLemmas.{kept_in}
use Rattle.laws.proofs.HashedTreeLemmas.{closure_trees}

-- ---- desks that hold trees of a kind

abbrev pub AllHeld : (Source → Type 0) → Desk → Type 0
AllHeld Q d = (s : Source) → In s (held d) → Q s

-- a desk after an outcome of which nothing is delivered
abbrev pub HoldsQuietly : (Source → Type 0) → Outcome → Type 0
HoldsQuietly Q (Err why) = Unit {0}
HoldsQuietly Q (Ok c) = (c.notification ≡ NoNotification) × AllHeld Q c.desk

module _ (Q : Source → Type 0) where
  last_is : (s z : Source) → In s (z ∷ []) → Q z → Q s
  last_is s z h q = elim h [ inl e ↦ subst Q e q | inr none ↦ absurd none ]

  -- with an entry more
  pub held_with : (e : Entry) (d : Desk) → AllHeld Q d → Q (held_of e) → AllHeld Q (with_entry e d)
  held_with (OfSource z) d own new s h = elim (in_append s (d.sources ++ z ∷ []) (map tree_of_record d.records) h) [
    | inl a ↦ elim (in_append s d.sources (z ∷ []) a) [ inl b ↦ own s (in_left s d.sources (map tree_of_record d.records) b) | inr b ↦ last_is s z b new ]
    | inr b ↦ own s (in_right s d.sources (map tree_of_record d.records) b)
  ]
  held_with (OfRecord r) d own new s h = elim (in_append s d.sources (map tree_of_record (d.records ++ r ∷ [])) h) [
    | inl a ↦ own s (in_left s d.sources (map tree_of_record d.records) a)
    | inr b ↦
        let w = from_map tree_of_record s (d.records ++ r ∷ []) b in
        elim (in_append w.0 d.records (r ∷ []) w.1) [
          | inl c ↦ own s (in_right s d.sources (map tree_of_record d.records) (subst (λ z. In z (map tree_of_record d.records)) w.2 (in_map tree_of_record w.0 d.records c)))
          | inr c ↦ last_is s (tree_of_record r) (subst (λ z. In z (tree_of_record r ∷ [])) w.2 (in_map tree_of_record w.0 (r ∷ []) c)) new
        ]
  ]

  held_all : (es : List Entry) (d : Desk) → AllHeld Q d → ((e : Entry) → In e es → Q (held_of e)) → AllHeld Q (with_all es d)
  unfolding with_all
  held_all [] d own new = own
  held_all (e ∷ es) d own new = held_all es (with_entry e d) (held_with e d own (new e (inl refl))) (λ x h. new x (inr h))

  -- with those of entries that it does not have
  pub held_entries : (es : List Entry) (d : Desk) → AllHeld Q d → ((e : Entry) → In e es → Q (held_of e)) → AllHeld Q (with_entries es d)
  held_entries es d own new = held_all (missing es d) d own (λ e h. new e (from_filter (λ x. not (has_entry x d)) e es h).0)

  -- without some records
  held_without : (class path : List ℕ) (d : Desk) → AllHeld Q d → (s : Source) → In s (d.sources ++ map tree_of_record (remaining class path d.records)) → Q s
  held_without class path d own s h = elim (in_append s d.sources (map tree_of_record (remaining class path d.records)) h) [
    | inl a ↦ own s (in_left s d.sources (map tree_of_record d.records) a)
    | inr b ↦
        let w = from_map tree_of_record s (remaining class path d.records) b in
        let there : In w.0 d.records = (from_filter (λ r. not (is_record_at class path r)) w.0 d.records w.1).0 in
        own s (in_right s d.sources (map tree_of_record d.records) (subst (λ z. In z (map tree_of_record d.records)) w.2 (in_map tree_of_record w.0 d.records there)))
  ]

-- ---- requests

-- whether a request ends no job
abbrev pub is_quiet : Request → Bool
is_quiet (Finish number bytes) = false
is_quiet (Fail number status) = false
is_quiet request = true

module _ (Q : Source → Type 0) (setup : Setup) (w : World) (u : List ℕ) (own : AllHeld Q (w u))
    (seen : (d : Desk) → In d (observation_of setup w u).view → (s : Source) → In s (held d) → Q s)
    (kept : (n : ℕ) (g : Goal) (r : Resolved) → goal_at n (w u).goals ≡ Some g → g.resolved ≡ Some r → (e : Entry) → In e r.closure → Q (held_of e)) where
  abbrev s : Observation
  s = observation_of setup w u

  abbrev P : Outcome → Type 0
  P = HoldsQuietly Q

  -- an output
  module _ (derivation : List ℕ) (tree : Tree) (made : (z : Source) → IsTreeOf (texts_of setup w u (Offer derivation tree)) z → Q z) where
    by_settled : (a : Admission) → known_at (known_of (w u)) derivation ≡ Some a → (o : Result Settled RewriteFault)
        → output_settled (candidates (w u) a.derivation) a tree ≡ o
        → P (then_do (unless_rewrite_refused o) (λ z. add_entry setup (w u) (OfRecord (record_for (candidates (w u) a.derivation) a z))))
    by_settled a known (Err why) e = tt
    by_settled a known (Ok z) e =
        let r : Record = record_for (candidates (w u) a.derivation) a z in
        let self_part : List ℕ = hash_part_in a.class.path in
        let references : List (List ℕ) = paths_of_labels (candidates (w u) a.derivation) in
        let new : Q (tree_of_record r) =
        made (tree_of_record r) (OutputOf tree self_part references (name_of a.derivation) z e refl refl (rw known (All-contains_itself (settling_texts tree self_part references (name_of a.derivation))))) in
        entry_added P setup (w u) (OfRecord r) (refl, own) (refl, held_with Q (OfRecord r) (w u) own new) tt

    by_known : (o : Option Admission) → known_at (known_of (w u)) derivation ≡ o
        → P (need UnknownDerivation o (λ a. offer_output setup (w u) tree (candidates (w u) a.derivation) a))
    by_known None e = tt
    by_known (Some a) e = by_settled a e (output_settled (candidates (w u) a.derivation) a tree) refl

    offer_held : P (offer setup (w u) derivation tree)
    offer_held = by_known (known_at (known_of (w u)) derivation) refl

  -- a start
  module _ (n : ℕ) where
    again_held : (d : Desk) (g : Goal) (q : Record) → AllHeld Q d → Q (tree_of_record q) → P (done_again setup s d n g q)
    again_held d g q had new =
        let added : Outcome = if is_within setup (with_record q d) then turns s (with_record q d) n (in_status (Done q.path) g) else turns s d n (in_status (Failed Quota) g) in
        one_of P (has_record q d) (turns s d n (in_status (Done q.path) g)) added (λ there. (refl, had))
        (λ absent. one_of P (is_within setup (with_record q d)) (turns s (with_record q d) n (in_status (Done q.path) g)) (turns s d n (in_status (Failed Quota) g))
        (λ fits. (refl, held_with Q (OfRecord q) d had new)) (λ full. (refl, had)))

    copied_held : (d : Desk) (g : Goal) (r : Resolved) → AllHeld Q d → (known : Option Admission) (built : Option Record) → finished_build s.view r ≡ built
        → P (start_copied setup s d n g r known built)
    copied_held d g r had (Some a) (Some q) e =
        let f = finished s.view r q e in
        let there : In (tree_of_record q) (map tree_of_record f.desk.records) = in_map tree_of_record q f.desk.records f.there in
        let new : Q (tree_of_record q) = seen f.desk f.seen (tree_of_record q) (in_right (tree_of_record q) f.desk.sources (map tree_of_record f.desk.records) there) in
        again_held d g (for_class a.class q) had new
    copied_held d g r had (Some a) None e = (refl, had)
    copied_held d g r had None built e = (refl, had)

    planned_held : (g : Goal) → goal_at n (w u).goals ≡ Some g → (o : Option Resolved) → planned_in g.status g.resolved ≡ o
        → P (need WrongState o (start_goal setup s n g))
    planned_held g there None e = tt
    planned_held g there (Some r) e =
        let d : Desk = with_entries r.closure (w u) in
        let had : AllHeld Q d = held_entries Q r.closure (w u) own (kept n g r there (kept_in g.status g.resolved r e)) in
        one_of P (is_within setup d) (start_copied setup s d n g r (known_at (known_of (w u)) g.derivation) (finished_build s.view r)) (turns s (w u) n (in_status (Failed Quota) g))
        (λ within. copied_held d g r had (known_at (known_of (w u)) g.derivation) (finished_build s.view r) refl) (λ outside. (refl, own))

    goal_held : (o : Option Goal) → goal_at n (w u).goals ≡ o
        → P (need UnknownGoal o (λ g. need WrongState (planned_in g.status g.resolved) (start_goal setup s n g)))
    goal_held None e = tt
    goal_held (Some g) e = planned_held g e (planned_in g.status g.resolved) refl

  -- any request but one that ends a job
  pub quietly_held : (r : Request) → ((z : Source) → IsTreeOf (texts_of setup w u r) z → Q z) → is_quiet r ≡ true → P (outcome setup s r)
  unfolding outcome
  quietly_held (AddSource name tree) made quiet =
      add_source_cases P setup (w u) name tree (refl, own)
      (refl, held_with Q (OfSource (source_named name tree)) (w u) own (made (source_named name tree) (SourceOf name refl (All-contains_itself (source_texts name tree))))) tt
  quietly_held (AddDerivation text) made quiet =
      add_derivation_cases P setup (w u) text
      (record { had = λ a. (refl, own); added = λ d a is. (refl, own); over = tt; unread = tt; missing = tt; high = tt }) (λ large. tt)
  quietly_held (Offer derivation tree) made quiet = offer_held derivation tree made
  quietly_held (Trust other) made quiet =
      trust_cases P setup s other (λ known. (refl, cond_both (bytes_eq other u) (w u) (with_trust other (w u)) (AllHeld Q) (λ yes. own) (λ no. own))) tt
  quietly_held (Distrust other) made quiet = distrust_cases P setup s other (refl, own) tt
  quietly_held (Pin class path) made quiet = pin_cases P setup (w u) class path (refl, own) tt
  quietly_held (Unpin class) made quiet = (refl, own)
  quietly_held (Take class) made quiet =
      take_cases P s class setup
      (λ entries path given there. (refl, held_entries Q entries (w u) own (closure_trees s.view s.desk.pins (class ∷ []) [] Q seen made entries given))) tt tt (λ why. tt) tt
  quietly_held (Build path) made quiet = build_cases P (w u) path (λ a known. (refl, own)) (λ full. tt) (λ unknown. tt)
  quietly_held (Plan n) made quiet =
      plan_cases P s n (record { resolved = λ g r. (refl, own); failed = λ g why. (refl, own); unrealised = tt; unknown = tt; untimely = tt; absent = λ none. tt })
  quietly_held (Start n) made quiet = goal_held n (goal_at n (w u).goals) refl
  quietly_held (Forget class path) made quiet = forget_cases P s class path (refl, held_without Q class path (w u) own) tt tt
  quietly_held (Finish n bytes) made quiet = absurd (cc)
  quietly_held (Fail n status) made quiet = absurd (cc)
  quietly_held query made quiet = query_cases P setup s query refl (λ reply no_failure. (refl, own)) (λ why no_failure. tt)
