-- What the end of a job makes of desks: they are held as before.
use Rattle.std.proofs.Common.{◌≡◌, ℕ, Bool, true, false, inl, inr, refl, sym, ◌∙◌, ap, subst, List, [], ◌∷◌, Option, Some, None, Result, Ok, Err}
use Rattle.std.specs.Prelude.{All, Contains, map, filter, bytes_eq, if◌then◌else◌}
use Rattle.std.proofs.lemmas.List.Elements.{All-contains}
use Rattle.model.specs.declared.refusal.Refusal.{Refusal}
use Rattle.model.specs.declared.refusal.Refusal.TheVariants.{UnknownDerivation, BadOutput, Quota}
use Rattle.model.specs.Archives.{Tree, AreBytes}
use Rattle.model.specs.ArchiveReading.{tree_of_archive}
use Rattle.model.specs.Classes.{Admission, Known, known_at}
use Rattle.model.specs.Results.{ok_or, unless_rewrite_refused}
use Rattle.model.specs.Worlds.{Setup, is_user, World, Source, Record, Job, Resolved, Status, Waiting, Planned, Building, Done, Failed, Goal, Desk, known_of, has_record, with_record, is_within}
use Rattle.model.specs.Outputs.{settled_under, record_for, texts_under}
use Rattle.model.specs.Goals.{goal_at, with_goal, in_status, is_in, is_building, members}
use Rattle.model.specs.Endings.{End, Output, Failure, labels_from, record_of_output, resolved_output, output_record, built_record, done_with, with_output, ended_goal, ended_goals}
use Rattle.model.specs.EndRequests.{member_texts, desk_texts, leads_job, finish_texts}
use Rattle.model.specs.Outcomes.{reaches, Ended, delivered}
use Rattle.model.proofs.BoolLemmas.{same_bytes}
use Rattle.nar.proofs.ArchiveSoundness.{tree_of_archive-sound}
use Rattle.laws.proofs.MemberLemmas.{In, contains_of, in_filter, in_flat_map}
use Rattle.laws.proofs.ServedLemmas.{then_ok, ok_is, rewrite_ok, some_same}
use Rattle.laws.proofs.GoalLemmas.{keeps_ended}
use Rattle.laws.proofs.HashedRequestLemmas.{any_member}
use Rattle.laws.proofs.HashedEndLemmas.{either_desk, ended_other, Distinct, members_distinct, member_goal}
use Rattle.closure_laws.proofs.MadeLemmas.{all_from}
use Rattle.closure_laws.proofs.HeldLemmas.{IsMadeRecord, HasLabelled, IsHeld, held_record, held_goal, goal_in}
use Rattle.closure_laws.proofs.OutputLemmas.{made_output, output_labelled, closure_made, closure_source}
use Rattle.closure_laws.proofs.RequestLemmas.{IsSoundDesk, known_sound}

-- what is recorded for a goal when its job ends so
abbrev Records : End → Known → Goal → Record → Type 0
Records (Output bytes) known g r = built_record known g bytes ≡ Ok r
Records Failure known g r = ⊥

-- ---- goals that end

-- a record that may be put on a desk with these sources
abbrev Fits : List (List ℕ) → List Source → Record → Type 0
Fits texts sources r = IsMadeRecord texts r × HasLabelled sources r

module _ (texts : List (List ℕ)) (setup : Setup) (reached : Bool) (end : End) where
  idle : (n : ℕ) (x : Goal) (d : Desk) → is_building x.status ≡ false → IsHeld texts d → IsHeld texts (with_goal n x d)
  idle n x d none is = held_goal texts n x d is (λ built r kept s h. absurd (cc))

  done_held : (n : ℕ) (g : Goal) (r : Record) (d : Desk) → IsHeld texts d → Fits texts d.sources r → IsHeld texts (done_with setup n g r d)
  done_held n g r d is fits =
      let full : Desk = with_goal n (in_status (Failed Quota) g) d in
      let added : Desk = with_goal n (in_status (Done r.path) g) (with_record r d) in
      let had : Desk = with_goal n (in_status (Done r.path) g) d in
      either_desk (IsHeld texts) (has_record r d) had (if is_within setup (with_record r d) then added else full)
      (idle n (in_status (Done r.path) g) d refl is)
      (either_desk (IsHeld texts) (is_within setup (with_record r d)) added full
      (idle n (in_status (Done r.path) g) (with_record r d) refl (held_record texts r d is fits.0 fits.1)) (idle n (in_status (Failed Quota) g) d refl is))

  output_held : (n : ℕ) (g : Goal) (o : Result Record Refusal) (d : Desk) → IsHeld texts d → ((r : Record) → o ≡ Ok r → Fits texts d.sources r)
      → IsHeld texts (with_output setup n g o d)
  output_held n g (Ok r) d is new = done_held n g r d is (new r refl)
  output_held n g (Err why) d is new = idle n (in_status (Failed why) g) d refl is

  ended_held : (n : ℕ) (o : Option Goal) (d : Desk) → IsHeld texts d
      → ((g : Goal) → o ≡ Some g → reached ≡ true → (r : Record) → Records end (known_of d) g r → Fits texts d.sources r)
      → IsHeld texts (ended_goal setup reached end n o d)
  ended_held n None d is new = is
  ended_held n (Some g) d is new = by_end end reached (new g refl)
    where
      by_end : (how : End) (b : Bool) → (b ≡ true → (r : Record) → Records how (known_of d) g r → Fits texts d.sources r)
          → IsHeld texts (ended_goal setup b how n (Some g) d)
      by_end how false new = idle n (in_status Waiting g) d refl is
      by_end (Output bytes) true new = output_held n g (built_record (known_of d) g bytes) d is (new refl)
      by_end Failure true new = idle n _ d refl is

  all_ended : (ns : List ℕ) (d : Desk) → Distinct ns → IsHeld texts d
      → ((n : ℕ) → In n ns → (g : Goal) → goal_at n d.goals ≡ Some g → reached ≡ true → (r : Record) → Records end (known_of d) g r → Fits texts d.sources r)
      → IsHeld texts (ended_goals setup reached end ns d)
  unfolding ended_goals
  all_ended [] d apart is new = is
  all_ended (n ∷ ns) d apart is new =
      let next : Desk = ended_goal setup reached end n (goal_at n d.goals) d in
      let keeps = keeps_ended setup reached end n (goal_at n d.goals) d in
      let knows : known_of next ≡ known_of d = λ i. record { derivations = keeps.derivations i; sources = map (λ (s : Source). s.path) (keeps.sources i) } in
      all_ended ns next apart.1 (ended_held n (goal_at n d.goals) d is (new n (inl refl)))
      (λ m h g there reach r built.
      let other : n ≡ m → ⊥ = λ e. apart.0 (subst (λ k. In k ns) (sym e) h) in
      subst (λ (all : List Source). Fits texts all r) (sym keeps.sources)
      (new m (inr h) g (sym (ended_other setup end reached n m (goal_at n d.goals) d other) ∙ there) reach r (subst (λ k. Records end k g r) knows built)))

-- ---- the output of a goal

some_of : {X : Type 0} (why : Refusal) (o : Option X) (x : X) → ok_or why o ≡ Ok x → o ≡ Some x
some_of why None x e = absurd (cc)
some_of why (Some y) x e = ap Some (ok_is y x (Ok y) refl e)

in_building : (job : Job) (g : Goal) → is_in job g.status ≡ true → is_building g.status ≡ true
in_building job g h = by g.status h
  where
    by : (status : Status) → is_in job status ≡ true → is_building status ≡ true
    by Waiting h = absurd (cc)
    by Planned h = absurd (cc)
    by (Building other) h = refl
    by (Done path) h = absurd (cc)
    by (Failed why) h = absurd (cc)

-- what is hashed for a goal
member_are : (tree : Tree) (d : Desk) (g : Goal) (a : Admission) (r : Resolved) → known_at (known_of d) g.derivation ≡ Some a → g.resolved ≡ Some r
    → member_texts tree d (Some g) ≡ texts_under r.scratch (labels_from r) a tree
member_are tree d g a r known kept = rw (known, kept) refl

-- what is recorded for a goal that was built
module _ (texts : List (List ℕ)) (d : Desk) (own : IsSoundDesk texts d) (job : Job) (bytes : List ℕ) (are : AreBytes bytes) (n : ℕ) (g : Goal)
    (there : goal_at n d.goals ≡ Some g) (built : is_in job g.status ≡ true)
    (hashed : (tree : Tree) → tree_of_archive bytes ≡ Some tree → All (Contains texts) (member_texts tree d (Some g))) where
  pub recorded_fits : (r : Record) → built_record (known_of d) g bytes ≡ Ok r → Fits texts d.sources r
  recorded_fits r e =
      let t = then_ok (ok_or BadOutput (tree_of_archive bytes)) (output_record (known_of d) g) r e in
      let a = then_ok (ok_or UnknownDerivation (known_at (known_of d) g.derivation)) (λ a. resolved_output t.0 a g.resolved) r t.2 in
      let k = then_ok (ok_or BadOutput g.resolved) (λ k. record_of_output k a.0 t.0) r a.2 in
      let o = then_ok (unless_rewrite_refused (settled_under k.0.scratch (labels_from k.0) a.0 t.0)) (λ s. Ok (record_for (labels_from k.0) a.0 s)) r k.2 in
      let is : record_for (labels_from k.0) a.0 o.0 ≡ r = ok_is (record_for (labels_from k.0) a.0 o.0) r (Ok (record_for (labels_from k.0) a.0 o.0)) refl o.2 in
      let read = some_of BadOutput (tree_of_archive bytes) t.0 t.1 in
      let known = some_of UnknownDerivation (known_at (known_of d) g.derivation) a.0 a.1 in
      let keeps = some_of BadOutput g.resolved k.0 k.1 in
      let kept = own.kept n g k.0 there keeps in
      let sound = known_sound texts d g.derivation a.0 own known in
      let all : All (Contains texts) (texts_under k.0.scratch (labels_from k.0) a.0 t.0) =
      subst (All (Contains texts)) (member_are t.0 d g a.0 k.0 known keeps) (hashed t.0 read) in
      let has = own.held.building g (goal_in n g d.goals there) (in_building job g built) k.0 keeps in
      subst (Fits texts d.sources) is (
        made_output texts k.0.scratch (labels_from k.0) a.0 t.0 o.0 kept.scratch sound.name (tree_of_archive-sound bytes t.0 are read).0
            (closure_made texts k.0 kept.entries) (rewrite_ok (settled_under k.0.scratch (labels_from k.0) a.0 t.0) o.0 o.1) all,
        output_labelled d.sources (labels_from k.0) a.0 o.0 (closure_source d.sources k.0 has),
      )

-- ---- a job that ends

module _ (texts : List (List ℕ)) (setup : Setup) (w : World) (u x : List ℕ) (own : IsSoundDesk texts (w x)) (n : ℕ) where
  abbrev job : Job
  job = record { leader = u; number = n }

  abbrev ends : List ℕ
  ends = members job 1 (w x).goals

  -- with bytes that its builder wrote
  pub output_ends : (bytes : List ℕ) → AreBytes bytes → is_user setup x ≡ true → leads_job job (goal_at n (w u).goals) ≡ true
      → All (Contains texts) (finish_texts setup w u n bytes)
      → IsHeld texts (delivered setup u (reaches setup w x u) (Ended n (Output bytes)) (w x))
  output_ends bytes are user leads hashed =
      all_ended texts setup (reaches setup w x u) (Output bytes) ends (w x) (members_distinct job 1 (w x).goals) own.held
      (λ m h g there reach r built.
      let member = member_goal job m (w x).goals h in
      let same : member.0 ≡ g = some_same member.0 g (sym member.1 ∙ there) in
      recorded_fits texts (w x) own job bytes are m g there (subst (λ (z : Goal). is_in job z.status ≡ true) same member.2)
      (λ tree read. all_from (Contains texts) (member_texts tree (w x) (Some g))
      (λ y k. All-contains (Contains texts) (finish_texts setup w u n bytes) y hashed
      (contains_of (finish_texts setup w u n bytes) y (text_there m h g there reach tree read y k))))
      r built)
    where
      text_there : (m : ℕ) → In m ends → (g : Goal) → goal_at m (w x).goals ≡ Some g → reaches setup w x u ≡ true → (tree : Tree)
          → tree_of_archive bytes ≡ Some tree
          → (y : List ℕ) → In y (member_texts tree (w x) (Some g)) → In y (finish_texts setup w u n bytes)
      text_there m h g there reach tree read y k =
          let v = any_member (λ z. bytes_eq z x) setup.users user in
          let listed : In x setup.users = subst (λ z. In z setup.users) (same_bytes v.0 x v.2) v.1 in
          rw (leads, read)
          (in_flat_map (λ z. desk_texts job tree (w z)) x y (filter (λ z. reaches setup w z u) setup.users) (in_filter (λ z. reaches setup w z u) x setup.users listed reach)
          (in_flat_map (λ i. member_texts tree (w x) (goal_at i (w x).goals)) m y ends h (rw there k)))

  -- without any
  pub failure_ends : IsHeld texts (delivered setup u (reaches setup w x u) (Ended n Failure) (w x))
  failure_ends = all_ended texts setup (reaches setup w x u) Failure ends (w x) (members_distinct job 1 (w x).goals) own.held (λ m h g there reach r none. absurd none)
