-- What a core keeps whose table has lost the trees that nobody holds.
use Rattle.std.proofs.Common.{◌≡◌, ℕ, suc, Bool, true, inl, inr, List, [], ◌∷◌, length, map, refl, sym, ◌∙◌, ap, subst}
use Rattle.std.specs.Prelude.{All, bytes_eq, option_map}
use Rattle.std.specs.List.{list_any}
use Rattle.std.proofs.lemmas.Bool.{or_left, or_right, and_from}
use Rattle.std.proofs.lemmas.List.Elements.{All-nil, All-cons, All-head, All-tail, All-filter}
use Rattle.std.proofs.lemmas.List.Folds.{list_any-append}
use Rattle.model.specs.Archives.{nar}
use Rattle.model.specs.Classes.{is_one_of}
use Rattle.model.specs.Worlds.{Source, Entry, path_of_entry, Goal, tree_at, charge_of}
use Rattle.model.specs.KeptClosures.{is_planned}
use Rattle.model.proofs.BoolLemmas.{either, bytes_same}
use Rattle.records.specs.Recorded.{Recorded}
use Rattle.realise.specs.Held.{paths_held}
use Rattle.realise.specs.Holdings.{Holdings, paths_of}
use Rattle.store.specs.Stored.{kept_at}
use Rattle.store.proofs.EntryLemmas.{kept_tree}
use Rattle.trust.specs.Trusting.{trusts}
use Rattle.handlers.specs.Sound.{Beside, sources_at, records_at, desk_of, IsHashed, IsSized, IsSound, IsStored, IsResolvedIn, AreGoalsSound}
use Rattle.handlers.specs.Parts.{desk_among, beside_at}
use Rattle.handlers.proofs.WorldLemmas.{among_stored}
use Rattle.schedule.specs.declared.state.Core.{Core}
use Rattle.schedule.specs.Standing.{world_of, stored_in, HasHashed, HoldsStored}
use Rattle.handlers.proofs.DeskLemmas.{IsKnown}
use Rattle.schedule.proofs.HoldingLemmas.{one_of_sym}
use Rattle.schedule.specs.Sweeping.{is_held, hold_path, has_entry_at, is_built_from_path, keeps_path, keep_path, keep_any_path, IsHolding}

-- what holds wherever a path is one of a list holds of the list
all_members : (P : List ℕ → Type 0) (paths : List (List ℕ)) → ((p : List ℕ) → is_one_of paths p ≡ true → P p) → All P paths
all_members P [] holds = All-nil P
all_members P (p ∷ paths) holds =
    All-cons P p paths (holds p (or_left (bytes_eq p p) _ (bytes_same p))) (all_members P paths (λ q m. holds q (or_right (bytes_eq p q) _ m)))

-- each archive is that of a path that is held
archives_held : (paths : List (List ℕ)) (archives : List (List ℕ × ℕ))
    → ((p : List ℕ) → list_any (bytes_eq p) (paths_held archives) ≡ true → is_one_of paths p ≡ true)
    → All (λ a. is_one_of paths a.0 ≡ true) archives
archives_held paths [] within = All-nil (λ a. is_one_of paths a.0 ≡ true)
archives_held paths (a ∷ archives) within =
    All-cons (λ b. is_one_of paths b.0 ≡ true) a archives (within a.0 (or_left (bytes_eq a.0 a.0) _ (bytes_same a.0)))
    (archives_held paths archives (λ p m. within p (or_right (bytes_eq p a.0) _ m)))

all_held : (d : Holdings) → IsHolding d → All (λ a. is_one_of (paths_of d) a.0 ≡ true) d.archives
all_held d holding = archives_held (paths_of d) d.archives (λ p m. sym (one_of_sym (paths_of d) p) ∙ sym (holding p) ∙ m)

module _ (old : List Source) (test : List ℕ → Bool) where
  abbrev now : List Source
  now = kept_at test old

  abbrev Passes : List ℕ → Type 0
  Passes p = test p ≡ true

  -- a path that passes has the tree that it had
  tree_kept : (p : List ℕ) → Passes p → tree_at p now ≡ tree_at p old
  tree_kept p t = kept_tree test old p ∙ rw t refl

  sources_kept : (paths : List (List ℕ)) → All Passes paths → sources_at now paths ≡ sources_at old paths
  sources_kept [] pass = refl
  sources_kept (p ∷ paths) pass = rw (tree_kept p (All-head Passes p paths pass), sources_kept paths (All-tail Passes p paths pass)) refl

  records_kept : (records : List Recorded) → All Passes (map (λ r. r.path) records) → records_at now records ≡ records_at old records
  records_kept [] pass = refl
  records_kept (r ∷ records) pass =
      let paths : List (List ℕ) = map (λ q. q.path) records in
      rw (tree_kept r.path (All-head Passes r.path paths pass), records_kept records (All-tail Passes r.path paths pass)) refl

  known_kept : (paths : List (List ℕ)) → All Passes paths → All (IsKnown old) paths → All (IsKnown now) paths
  known_kept [] pass known = All-nil (IsKnown now)
  known_kept (p ∷ paths) pass known =
      let here : IsKnown now p = rw (tree_kept p (All-head Passes p paths pass)) (All-head (IsKnown old) p paths known) in
      All-cons (IsKnown now) p paths here (known_kept paths (All-tail Passes p paths pass) (All-tail (IsKnown old) p paths known))

  -- ---- a desk

  module _ (d : Holdings) (pass : (p : List ℕ) → is_one_of (paths_of d) p ≡ true → Passes p) where
    sources_pass : All Passes d.known.sources
    sources_pass = all_members Passes d.known.sources (λ p m.
        pass p (list_any-append (λ q. bytes_eq q p) d.known.sources (map (λ r. r.path) d.records) ∙ or_left (is_one_of d.known.sources p) _ m))

    records_pass : All Passes (map (λ r. r.path) d.records)
    records_pass = all_members Passes (map (λ r. r.path) d.records) (λ p m.
        pass p (list_any-append (λ q. bytes_eq q p) d.known.sources (map (λ r. r.path) d.records) ∙ or_right (is_one_of d.known.sources p) _ m))

    desk_swept : (beside : Beside) → desk_of beside now d ≡ desk_of beside old d
    desk_swept beside =
        let sources = sources_kept d.known.sources sources_pass in
        let records = records_kept d.records records_pass in
        λ i. record { trusted = beside.trusted; sources = sources i; derivations = d.known.derivations; records = records i; pins = d.pins; goals = beside.goals }

    sized_kept : (archives : List (List ℕ × ℕ)) → All (λ a. is_one_of (paths_of d) a.0 ≡ true) archives → All (IsSized old) archives
        → All (IsSized now) archives
    sized_kept [] held sized = All-nil (IsSized now)
    sized_kept (a ∷ archives) held sized =
        let inside : is_one_of (paths_of d) a.0 ≡ true = All-head (λ b. is_one_of (paths_of d) b.0 ≡ true) a archives held in
        let one : IsSized now a = ap (option_map (λ t. length (nar t))) (tree_kept a.0 (pass a.0 inside)) ∙ All-head (IsSized old) a archives sized in
        All-cons (IsSized now) a archives one
        (sized_kept archives (All-tail (λ b. is_one_of (paths_of d) b.0 ≡ true) a archives held) (All-tail (IsSized old) a archives sized))

    sound_swept : (limit : ℕ) → IsHolding d → IsSound old limit d → IsSound now limit d
    sound_swept limit holding sound = record {
      charged = λ beside. sound.charged beside ∙ ap charge_of (sym (desk_swept beside));
      sized = sized_kept d.archives (all_held d holding) sound.sized;
      within = sound.within;
      few_sources = sound.few_sources;
      few_derivations = sound.few_derivations;
      few_records = sound.few_records;
      few_pins = sound.few_pins;
      known = known_kept (paths_of d) (all_members Passes (paths_of d) pass) sound.known;
      closed = sound.closed;
    }

  pub desks_swept : (limit : ℕ) (desks : List Holdings) → ((p : List ℕ) → hold_path desks p ≡ true → Passes p) → All IsHolding desks
      → All (IsSound old limit) desks
      → All (IsSound now limit) desks
  desks_swept limit [] pass holding sound = All-nil (IsSound now limit)
  desks_swept limit (d ∷ desks) pass holding sound =
      All-cons (IsSound now limit) d desks
      (sound_swept d (λ p m. pass p (or_left (is_one_of (paths_of d) p) _ m)) limit (All-head IsHolding d desks holding) (All-head (IsSound old limit) d desks sound))
      (desks_swept limit desks (λ p m. pass p (or_right (is_one_of (paths_of d) p) _ m)) (All-tail IsHolding d desks holding) (All-tail (IsSound old limit) d desks sound))

  pub among_swept : (beside : ℕ → Beside) (names : List (List ℕ)) (desks : List Holdings) (u : List ℕ) → ((p : List ℕ) → hold_path desks p ≡ true → Passes p)
      → desk_among beside now names desks u ≡ desk_among beside old names desks u
  among_swept beside [] desks u pass = refl
  among_swept beside (name ∷ names) [] u pass = refl
  among_swept beside (name ∷ names) (d ∷ desks) u pass = elim (either (bytes_eq name u)) [
    | inl t ↦ rw t (desk_swept d (λ p m. pass p (or_left (is_one_of (paths_of d) p) _ m)) (beside 0))
    | inr f ↦ rw f (among_swept (λ k. beside (suc k)) names desks u (λ p m. pass p (or_right (is_one_of (paths_of d) p) _ m)))
  ]

  -- ---- goals

  entries_stored : (entries : List Entry) → ((p : List ℕ) → has_entry_at entries p ≡ true → Passes p) → All (IsStored old) entries
      → All (IsStored now) entries
  entries_stored [] pass stored = All-nil (IsStored now)
  entries_stored (e ∷ entries) pass stored =
      let own : Passes (path_of_entry e) = pass (path_of_entry e) (or_left (bytes_eq (path_of_entry e) (path_of_entry e)) _ (bytes_same (path_of_entry e))) in
      All-cons (IsStored now) e entries (tree_kept (path_of_entry e) own ∙ All-head (IsStored old) e entries stored)
      (entries_stored entries (λ p m. pass p (or_right (bytes_eq (path_of_entry e) p) _ m)) (All-tail (IsStored old) e entries stored))

  goal_swept : (g : Goal) → ((p : List ℕ) → keeps_path g p ≡ true → Passes p) → IsResolvedIn old g → IsResolvedIn now g
  goal_swept g pass sound r keeps =
      let own = sound r keeps in (
        own.0,
        λ needs. entries_stored r.closure
            (λ p m. pass p (and_from (is_planned g.status) (is_built_from_path g.resolved p) needs (ap (λ o. is_built_from_path o p) keeps ∙ m))) (own.1 needs),
      )

  own_swept : (goals : List Goal) → ((p : List ℕ) → keep_path goals p ≡ true → Passes p) → AreGoalsSound old goals → AreGoalsSound now goals
  own_swept [] pass sound = All-nil (IsResolvedIn now)
  own_swept (g ∷ goals) pass sound =
      All-cons (IsResolvedIn now) g goals (goal_swept g (λ p m. pass p (or_left (keeps_path g p) _ m)) (All-head (IsResolvedIn old) g goals sound))
      (own_swept goals (λ p m. pass p (or_right (keeps_path g p) _ m)) (All-tail (IsResolvedIn old) g goals sound))

  pub goals_swept : (all : List (List Goal)) → ((p : List ℕ) → keep_any_path all p ≡ true → Passes p) → All (AreGoalsSound old) all
      → All (AreGoalsSound now) all
  goals_swept [] pass sound = All-nil (AreGoalsSound now)
  goals_swept (goals ∷ all) pass sound =
      All-cons (AreGoalsSound now) goals all (own_swept goals (λ p m. pass p (or_left (keep_path goals p) _ m)) (All-head (AreGoalsSound old) goals all sound))
      (goals_swept all (λ p m. pass p (or_right (keep_path goals p) _ m)) (All-tail (AreGoalsSound old) goals all sound))

-- ---- a core

-- a test that answers alike keeps the same
pub kept_same : (f g : List ℕ → Bool) → ((p : List ℕ) → f p ≡ g p) → (sources : List Source) → kept_at f sources ≡ kept_at g sources
kept_same f g same [] = refl
kept_same f g same (s ∷ sources) = elim (either (g s.path)) [
  | inl t ↦ rw (same s.path, t) (ap (λ l. s ∷ l) (kept_same f g same sources))
  | inr n ↦ rw (same s.path, n) (kept_same f g same sources)
]

module _ (core : Core) (held : List ℕ → Bool) (same : (p : List ℕ) → held p ≡ is_held core p) where
  abbrev pub swept : List Source
  swept = kept_at held core.state.table.sources

  pub swept_is : swept ≡ kept_at (is_held core) core.state.table.sources
  swept_is = kept_same held (is_held core) same core.state.table.sources

  on_desk : (p : List ℕ) → hold_path core.state.desks.items p ≡ true → held p ≡ true
  on_desk p m = same p ∙ or_left (hold_path core.state.desks.items p) _ m

  with_goal : (p : List ℕ) → keep_any_path core.state.jobs.goals p ≡ true → held p ≡ true
  with_goal p m = same p ∙ or_right (hold_path core.state.desks.items p) _ m

  pub core_sound : All IsHolding core.state.desks.items → All (IsSound swept core.state.limits.charge) core.state.desks.items
  core_sound holding = desks_swept core.state.table.sources held core.state.limits.charge core.state.desks.items on_desk holding core.state.run.sound

  pub core_goals : All (AreGoalsSound swept) core.state.jobs.goals
  core_goals = goals_swept core.state.table.sources held core.state.jobs.goals with_goal core.state.run.goals_sound

  pub core_world : (u : List ℕ)
      → desk_among (beside_at core.state.users (trusts core.state.trust) core.state.jobs.goals) swept core.state.users core.state.desks.items u
      ≡ desk_among (beside_at core.state.users (trusts core.state.trust) core.state.jobs.goals) core.state.table.sources core.state.users core.state.desks.items u
  core_world u =
      among_swept core.state.table.sources held (beside_at core.state.users (trusts core.state.trust) core.state.jobs.goals) core.state.users core.state.desks.items u on_desk

-- every path that a desk holds is stored
pub holds_stored : (core : Core) → HoldsStored core
unfolding world_of stored_in
holds_stored core u path h =
    among_stored (beside_at core.state.users (trusts core.state.trust) core.state.jobs.goals) core.state.table.sources core.state.limits.charge core.state.users core.state.desks.items u path core.state.run.sound h

-- what is left was made by texts that were hashed
pub hashed_swept : (texts : List (List ℕ)) (old new : Core) (test : List ℕ → Bool) → stored_in new ≡ kept_at test (stored_in old)
    → HasHashed texts old → HasHashed texts new
unfolding stored_in HasHashed
hashed_swept texts old new test are hashed =
    subst (All (IsHashed texts)) (sym are) (All-filter (λ s. test s.path) (IsHashed texts) old.state.table.sources hashed)
