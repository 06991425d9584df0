-- The world that paired users and desks stand for, before and after one desk changes.
use Rattle.std.proofs.Common.{◌≡◌, ℕ, zero, suc, ◌+◌, ◌<◌, ◌≢◌, Bool, true, false, inl, inr, List, [], ◌∷◌, length, refl, sym, ◌∙◌, ap, arith, get_or, Some, None}
use Rattle.std.specs.Prelude.{All, bytes_eq, slice_get, slice_set, position, if◌then◌else◌, is_some, nat_lt}
use Rattle.std.specs.List.{position_or_len, list_any}
use Rattle.std.proofs.lemmas.List.Elements.{All-nil, All-head, All-tail}
use Rattle.std.proofs.lemmas.List.Quantifiers.{position-Some}
use Rattle.std.proofs.lemmas.Bool.Decides.{nat_tests}
use Rattle.model.specs.Reach.{is_among}
use Rattle.model.specs.Classes.{Known}
use Rattle.model.specs.Worlds.{Source, Pin, Desk, World, empty_desk, tree_at, held_at}
use Rattle.model.proofs.BoolLemmas.{either, same_bytes, bytes_eq_sym}
use Rattle.trust.proofs.FirstPlaceLemmas.{IsPlace}
use Rattle.records.specs.Recorded.{Recorded}
use Rattle.store.specs.Stored.{Extends}
use Rattle.realise.specs.Holdings.{Holdings, paths_of}
use Rattle.handlers.specs.Sound.{Beside, sources_at, records_at, desk_of, IsSound, IsEmpty, IsResolvedIn, AreGoalsSound}
use Rattle.handlers.specs.Parts.{desk_among}
use Rattle.handlers.proofs.DeskLemmas.{desk_kept, held_in_table}

-- the desk at a user's place is his
pub desk_found : (beside : ℕ → Beside) (table : List Source) (names : List (List ℕ)) (desks : List Holdings) (u : List ℕ) (i : ℕ) (d : Holdings)
    → IsPlace names u i
    → slice_get desks i ≡ Some d → desk_among beside table names desks u ≡ desk_of (beside i) table d
desk_found beside table [] desks u i d p h = absurd p
desk_found beside table (name ∷ names) [] u i d p h = cc
desk_found beside table (name ∷ names) (x ∷ desks) u zero d p h = let is : x ≡ d = cc in rw p (ap (desk_of (beside 0) table) is)
desk_found beside table (name ∷ names) (x ∷ desks) u (suc i) d p h = rw p.0 (desk_found (λ k. beside (suc k)) table names desks u i d p.1 h)

-- a later table leaves the desks of those who trust the same
pub among_kept : (given now : ℕ → Beside) (old new : List Source) (limit : ℕ) (names : List (List ℕ)) (desks : List Holdings) (v : List ℕ)
    → ((k : ℕ) → now k ≡ given k)
    → Extends old new → All (IsSound old limit) desks → desk_among now new names desks v ≡ desk_among given old names desks v
among_kept given now old new limit [] desks v same later sound = refl
among_kept given now old new limit (name ∷ names) [] v same later sound = refl
among_kept given now old new limit (name ∷ names) (d ∷ desks) v same later sound = elim (either (bytes_eq name v)) [
  | inl t ↦ rw (t, same 0) (desk_kept (given 0) old new limit d later (All-head (IsSound old limit) d desks sound))
  | inr f ↦ rw f
      (among_kept (λ k. given (suc k)) (λ k. now (suc k)) old new limit names desks v (λ k. same (suc k)) later (All-tail (IsSound old limit) d desks sound))
]

-- and what changes at a user's place is his alone
pub among_changed : (given now : ℕ → Beside) (old new : List Source) (limit : ℕ) (names : List (List ℕ)) (desks : List Holdings) (u : List ℕ) (i : ℕ)
    (after : Holdings)
    → ((k : ℕ) → k ≢ i → now k ≡ given k) → Extends old new → All (IsSound old limit) desks → IsPlace names u i → i < length desks
    → (v : List ℕ)
    → desk_among now new names (slice_set desks i after) v ≡ (if bytes_eq v u then desk_of (now i) new after else desk_among given old names desks v)
among_changed given now old new limit [] desks u i after others later sound p below v = absurd p
among_changed given now old new limit (name ∷ names) [] u i after others later sound p below v = absurd (omega arith)
among_changed given now old new limit (name ∷ names) (d ∷ desks) u zero after others later sound p below v =
    let is : name ≡ u = same_bytes name u p in
    let test : bytes_eq v u ≡ bytes_eq name v = bytes_eq_sym v u ∙ ap (λ n. bytes_eq n v) (sym is) in
    elim (either (bytes_eq name v)) [
      | inl t ↦ rw (test, t) refl
      | inr f ↦
          rw (test, f) (among_kept (λ k. given (suc k)) (λ k. now (suc k)) old new limit names desks v (λ k. others (suc k) (omega arith)) later
          (All-tail (IsSound old limit) d desks sound))
    ]
among_changed given now old new limit (name ∷ names) (d ∷ desks) u (suc i) after others later sound p below v = elim (either (bytes_eq name v)) [
  | inl t ↦
      let is : name ≡ v = same_bytes name v t in
      let test : bytes_eq v u ≡ false = ap (λ n. bytes_eq n u) (sym is) ∙ p.0 in
      let same : now 0 ≡ given 0 = others 0 (omega arith) in
      rw (t, test, same) (desk_kept (given 0) old new limit d later (All-head (IsSound old limit) d desks sound))
  | inr f ↦
      rw f (among_changed (λ k. given (suc k)) (λ k. now (suc k)) old new limit names desks u i after (λ k other. others (suc k) (omega arith)) later
      (All-tail (IsSound old limit) d desks sound) p.1 (omega arith) v)
]

-- functions that agree everywhere are the same
pub same_world : {w v : World} → ((u : List ℕ) → w u ≡ v u) → w ≡ v
same_world h = λ i u. h u i

-- beside an empty desk nobody is trusted, and there are no goals
abbrev pub nothing_beside : Beside
nothing_beside = record { trusted = λ name. false; goals = [] }

-- empty desks of users who trust nobody and have no goals are the desks of nothing
pub empty_world : (beside : ℕ → Beside) (table : List Source) (names : List (List ℕ)) (desks : List Holdings) → ((k : ℕ) → beside k ≡ nothing_beside)
    → All IsEmpty desks
    → (u : List ℕ) → desk_among beside table names desks u ≡ empty_desk
empty_world beside table [] desks nobody all u = refl
empty_world beside table (name ∷ names) [] nobody all u = refl
empty_world beside table (name ∷ names) (d ∷ desks) nobody all u = elim (either (bytes_eq name u)) [
  | inl t ↦
      let D : Beside → Known → List Recorded → List Pin → Desk = λ more known records pins.
      record {
        trusted = more.trusted;
        sources = sources_at table known.sources;
        derivations = known.derivations;
        records = records_at table records;
        pins = pins;
        goals = more.goals;
      } in
      let empty = All-head IsEmpty d desks all in
      let none : beside 0 ≡ nothing_beside = nobody 0 in
      rw t (λ i. D (none i) (empty.known i) (empty.records i) (empty.pins i))
  | inr f ↦ rw f (empty_world (λ k. beside (suc k)) table names desks (λ k. nobody (suc k)) (All-tail IsEmpty d desks all) u)
]

-- what a desk holds is stored, with the tree that the desk has
stored_there : (beside : Beside) (table : List Source) (limit : ℕ) (d : Holdings) (path : List ℕ) → IsSound table limit d
    → is_some (held_at path (desk_of beside table d)) ≡ true → tree_at path table ≡ held_at path (desk_of beside table d)
stored_there beside table limit d path sound h = elim (either (list_any (λ p. bytes_eq p path) (paths_of d))) [
  | inl t ↦ rw t at (held_in_table beside table limit d path sound)
  | inr f ↦
      let none : None ≡ held_at path (desk_of beside table d) = rw f at (held_in_table beside table limit d path sound) in
      (let found = rw (← none) at h in cc)
]

pub among_stored : (beside : ℕ → Beside) (table : List Source) (limit : ℕ) (names : List (List ℕ)) (desks : List Holdings) (u path : List ℕ)
    → All (IsSound table limit) desks → is_some (held_at path (desk_among beside table names desks u)) ≡ true
    → tree_at path table ≡ held_at path (desk_among beside table names desks u)
among_stored beside table limit [] desks u path sound h = cc
among_stored beside table limit (name ∷ names) [] u path sound h = cc
among_stored beside table limit (name ∷ names) (d ∷ desks) u path sound h = elim (either (bytes_eq name u)) [
  | inl t ↦ rw t (stored_there (beside 0) table limit d path (All-head (IsSound table limit) d desks sound) (rw t at h))
  | inr f ↦ rw f (among_stored (λ k. beside (suc k)) table limit names desks u path (All-tail (IsSound table limit) d desks sound) (rw f at h))
]

-- all that goals are built from is stored
pub among_goals : (beside : ℕ → Beside) (table : List Source) (names : List (List ℕ)) (desks : List Holdings) (u : List ℕ)
    → ((k : ℕ) → AreGoalsSound table (beside k).goals) → AreGoalsSound table (desk_among beside table names desks u).goals
among_goals beside table [] desks u sound = All-nil (IsResolvedIn table)
among_goals beside table (name ∷ names) [] u sound = All-nil (IsResolvedIn table)
among_goals beside table (name ∷ names) (d ∷ desks) u sound = elim (either (bytes_eq name u)) [
  | inl t ↦ rw t (sound 0)
  | inr f ↦ rw f (among_goals (λ k. beside (suc k)) table names desks u (λ k. sound (suc k)))
]
