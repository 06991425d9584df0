-- What the desks of users hold after an event: what is of a kind, if all desks did, and what texts of the event were hashed for.
use Rattle.std.proofs.Common.{◌≡◌, ℕ, Bool, true, false, inl, inr, refl, sym, ◌∙◌, ap, subst, List, [], ◌∷◌, Option, Some, None, Result, Ok, Err}
use Rattle.std.specs.Prelude.{Contains, map, filter, bytes_eq, if◌then◌else◌}
use Rattle.std.proofs.lemmas.List.Elements.{All-weaker}
use Rattle.model.specs.declared.refusal.Refusal.{Refusal}
use Rattle.model.specs.declared.refusal.Refusal.TheVariants.{UnknownDerivation, BadOutput, Quota}
use Rattle.model.specs.Archives.{Tree, nar}
use Rattle.model.specs.Paths.{Source as SourceKind, with_fingerprint}
use Rattle.model.specs.ArchiveReading.{tree_of_archive}
use Rattle.model.specs.Classes.{Admission, Known, known_at}
use Rattle.model.specs.Derivations.{name_of}
use Rattle.model.specs.Settling.{hash_part_in, settling_texts}
use Rattle.model.specs.Results.{ok_or, unless_rewrite_refused}
use Rattle.model.specs.References.{paths_of_labels}
use Rattle.model.specs.Worlds.{Setup, is_user, World, Source, Record, OfRecord, Job, Resolved, Done, Failed, Goal, Desk, known_of, tree_of_record, has_record, with_record, is_within}
use Rattle.model.specs.Outputs.{settled_under, record_for}
use Rattle.model.specs.Goals.{goal_at, with_goal, in_status, members}
use Rattle.model.specs.Endings.{End, Output, Failure, labels_from, record_of_output, resolved_output, output_record, built_record, done_with, with_output, ended_goal, ended_goals}
use Rattle.model.specs.EndRequests.{member_texts, desk_texts, leads_job, finish_texts}
use Rattle.model.specs.Outcomes.{reaches, Outcome, Ended, delivered, desk_after}
use Rattle.model.specs.HashedValues.{IsTreeOf, SourceOf, OutputOf}
use Rattle.model.proofs.BoolLemmas.{same_bytes}
use Rattle.laws.proofs.MemberLemmas.{In, in_of, contains_of, in_filter, in_flat_map}
use Rattle.laws.proofs.ServedLemmas.{then_ok, ok_is, rewrite_ok}
use Rattle.laws.proofs.GoalLemmas.{keeps_ended}
use Rattle.laws.proofs.HashedRequestLemmas.{any_member}
use Rattle.laws.proofs.HashedEndLemmas.{either_desk, ended_other, Distinct, members_distinct}
use Rattle.laws.proofs.HashedTreeLemmas.{all_among}
use Rattle.laws.proofs.HashedDeskLemmas.{AllHeld, HoldsQuietly, held_with}

-- ---- the end of a job

-- what is recorded for a goal when its job ends so
abbrev Records : End → Known → Goal → Record → Type 0
Records (Output bytes) known g r = built_record known g bytes ≡ Ok r
Records Failure known g r = ⊥

module _ (Q : Source → Type 0) (setup : Setup) (reached : Bool) (end : End) where
  done_held : (n : ℕ) (g : Goal) (r : Record) (d : Desk) → AllHeld Q d → Q (tree_of_record r) → AllHeld Q (done_with setup n g r d)
  done_held n g r d own new =
      let failed : Desk = with_goal n (in_status (Failed Quota) g) d in
      let added : Desk = with_goal n (in_status (Done r.path) g) (with_record r d) in
      either_desk (AllHeld Q) (has_record r d) (with_goal n (in_status (Done r.path) g) d) (if is_within setup (with_record r d) then added else failed) own
      (either_desk (AllHeld Q) (is_within setup (with_record r d)) added failed (held_with Q (OfRecord r) d own new) own)

  output_held : (n : ℕ) (g : Goal) (o : Result Record Refusal) (d : Desk) → AllHeld Q d → ((r : Record) → o ≡ Ok r → Q (tree_of_record r))
      → AllHeld Q (with_output setup n g o d)
  output_held n g (Ok r) d own new = done_held n g r d own (new r refl)
  output_held n g (Err why) d own new = own

  ended_held : (n : ℕ) (o : Option Goal) (d : Desk) → AllHeld Q d
      → ((g : Goal) → o ≡ Some g → reached ≡ true → (r : Record) → Records end (known_of d) g r → Q (tree_of_record r))
      → AllHeld Q (ended_goal setup reached end n o d)
  ended_held n None d own new = own
  ended_held n (Some g) d own new = by_end end reached (new g refl)
    where
      by_end : (how : End) (b : Bool) → (b ≡ true → (r : Record) → Records how (known_of d) g r → Q (tree_of_record r))
          → AllHeld Q (ended_goal setup b how n (Some g) d)
      by_end how false new = own
      by_end (Output bytes) true new = output_held n g (built_record (known_of d) g bytes) d own (new refl)
      by_end Failure true new = own

  all_ended : (ns : List ℕ) (d : Desk) → Distinct ns → AllHeld Q d
      → ((n : ℕ) → In n ns → (g : Goal) → goal_at n d.goals ≡ Some g → reached ≡ true → (r : Record) → Records end (known_of d) g r → Q (tree_of_record r))
      → AllHeld Q (ended_goals setup reached end ns d)
  unfolding ended_goals
  all_ended [] d apart own new = own
  all_ended (n ∷ ns) d apart own new =
      let next : Desk = ended_goal setup reached end n (goal_at n d.goals) d in
      let keeps = keeps_ended setup reached end n (goal_at n d.goals) d in
      let knows : known_of next ≡ known_of d = λ i. record { derivations = keeps.derivations i; sources = map (λ (s : Source). s.path) (keeps.sources i) } in
      all_ended ns next apart.1 (ended_held n (goal_at n d.goals) d own (new n (inl refl)))
      (λ m h g there reach r built.
      let other : n ≡ m → ⊥ = λ e. apart.0 (subst (λ k. In k ns) (sym e) h) in
      new m (inr h) g (sym (ended_other setup end reached n m (goal_at n d.goals) d other) ∙ there) reach r (subst (λ k. Records end k g r) knows built))

-- ---- the output of a goal

some_of : {X : Type 0} (why : Refusal) (o : Option X) (x : X) → ok_or why o ≡ Ok x → o ≡ Some x
some_of why None x e = absurd (cc)
some_of why (Some y) x e = ap Some (ok_is y x (Ok y) refl e)

recorded : (q r : Record) → q ≡ r → (q.path ≡ r.path) × (q.tree ≡ r.tree)
recorded q r e = (ap (λ (z : Record). z.path) e, ap (λ (z : Record). z.tree) e)

texts_are : (tree : Tree) (d : Desk) (g : Goal) (a : Admission) (r : Resolved) → known_at (known_of d) g.derivation ≡ Some a → g.resolved ≡ Some r
    → member_texts tree d (Some g) ≡ settling_texts tree (hash_part_in r.scratch) (paths_of_labels (labels_from r)) (name_of a.derivation)
texts_are tree d g a r known kept = rw (known, kept) refl

-- the texts of a goal make the tree that is recorded for it
built_made : (d : Desk) (g : Goal) (bytes : List ℕ) (r : Record) → built_record (known_of d) g bytes ≡ Ok r
    → (tree : Tree) × (tree_of_archive bytes ≡ Some tree) × IsTreeOf (member_texts tree d (Some g)) (tree_of_record r)
built_made d g bytes r e =
    let t = then_ok (ok_or BadOutput (tree_of_archive bytes)) (output_record (known_of d) g) r e in
    let a = then_ok (ok_or UnknownDerivation (known_at (known_of d) g.derivation)) (λ a. resolved_output t.0 a g.resolved) r t.2 in
    let k = then_ok (ok_or BadOutput g.resolved) (λ k. record_of_output k a.0 t.0) r a.2 in
    let o = then_ok (unless_rewrite_refused (settled_under k.0.scratch (labels_from k.0) a.0 t.0)) (λ s. Ok (record_for (labels_from k.0) a.0 s)) r k.2 in
    let is : record_for (labels_from k.0) a.0 o.0 ≡ r = ok_is (record_for (labels_from k.0) a.0 o.0) r (Ok (record_for (labels_from k.0) a.0 o.0)) refl o.2 in
    let texts : List (List ℕ) = settling_texts t.0 (hash_part_in k.0.scratch) (paths_of_labels (labels_from k.0)) (name_of a.0.derivation) in
    let same : member_texts t.0 d (Some g) ≡ texts =
    texts_are t.0 d g a.0 k.0 (some_of UnknownDerivation (known_at (known_of d) g.derivation) a.0 a.1) (some_of BadOutput g.resolved k.0 k.1) in (
      t.0,
      some_of BadOutput (tree_of_archive bytes) t.0 t.1,
      OutputOf t.0 (hash_part_in k.0.scratch) (paths_of_labels (labels_from k.0)) (name_of a.0.derivation) o.0
          (rewrite_ok (settled_under k.0.scratch (labels_from k.0) a.0 t.0) o.0 o.1) (recorded r (record_for (labels_from k.0) a.0 o.0) (sym is)).0
          (recorded r (record_for (labels_from k.0) a.0 o.0) (sym is)).1
          (all_among texts (member_texts t.0 d (Some g)) (λ x h. subst (In x) (sym same) h)),
    )

-- texts that are all among others make no fewer trees
pub made_more : (xs ys : List (List ℕ)) (s : Source) → ((x : List ℕ) → In x xs → In x ys) → IsTreeOf xs s → IsTreeOf ys s
made_more xs ys s more (SourceOf name is hashed) = SourceOf name is (All-weaker (Contains xs) (Contains ys) (λ x c. contains_of ys x (more x (in_of xs x c))) (with_fingerprint SourceKind (nar s.tree) name) hashed)
made_more xs ys s more (OutputOf tree own references name is settles path same hashed) =
    OutputOf tree own references name is settles path same (All-weaker (Contains xs) (Contains ys) (λ x c. contains_of ys x (more x (in_of xs x c)))
    (settling_texts tree own references name) hashed)

-- ---- desks after an event

module _ (Q : Source → Type 0) (setup : Setup) (w : World) (u : List ℕ) where
  -- where nothing is delivered
  pub after_quiet : (o : Outcome) (x : List ℕ) (reached : Bool) → HoldsQuietly Q o → AllHeld Q (w x) → AllHeld Q (desk_after setup u o x reached (w x))
  after_quiet (Err why) x reached quiet own = own
  after_quiet (Ok c) x reached quiet own =
      let d : Desk = if bytes_eq x u then c.desk else w x in
      let same : delivered setup u reached c.notification d ≡ d = ap (λ n. delivered setup u reached n d) quiet.0 in
      subst (AllHeld Q) (sym same) (either_desk (AllHeld Q) (bytes_eq x u) c.desk (w x) quiet.1 own)

  -- where a job of the actor has ended
  pub after_end : (n : ℕ) (bytes x : List ℕ) → is_user setup x ≡ true → AllHeld Q (w x)
      → leads_job (record { leader = u; number = n }) (goal_at n (w u).goals) ≡ true
      → ((s : Source) → IsTreeOf (finish_texts setup w u n bytes) s → Q s)
      → AllHeld Q (delivered setup u (reaches setup w x u) (Ended n (Output bytes)) (w x))
  after_end n bytes x user own leads made =
      let job : Job = record { leader = u; number = n } in
      all_ended Q setup (reaches setup w x u) (Output bytes) (members job 1 (w x).goals) (w x) (members_distinct job 1 (w x).goals) own
      (λ m h g there reach r built.
      let b = built_made (w x) g bytes r built in
      let tree : Tree = b.0 in
      let w' = any_member (λ v. bytes_eq v x) setup.users user in
      let listed : In x setup.users = subst (λ v. In v setup.users) (same_bytes w'.0 x w'.2) w'.1 in
      made (tree_of_record r)
      (made_more (member_texts tree (w x) (Some g)) (finish_texts setup w u n bytes) (tree_of_record r)
      (λ y k. (rw (leads, b.1)
      (in_flat_map (λ v. desk_texts job tree (w v)) x y (filter (λ v. reaches setup w v u) setup.users) (in_filter (λ v. reaches setup w v u) x setup.users listed reach)
      (in_flat_map (λ k. member_texts tree (w x) (goal_at k (w x).goals)) m y (members job 1 (w x).goals) h (rw there k)))))
      b.2))

  -- and where it has failed
  pub after_failure : (n : ℕ) (x : List ℕ) → AllHeld Q (w x) → AllHeld Q (delivered setup u (reaches setup w x u) (Ended n Failure) (w x))
  after_failure n x own =
      let job : Job = record { leader = u; number = n } in
      all_ended Q setup (reaches setup w x u) Failure (members job 1 (w x).goals) (w x) (members_distinct job 1 (w x).goals) own (λ m h g there reach r none. absurd none)
