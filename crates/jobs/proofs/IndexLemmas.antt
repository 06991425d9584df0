-- Numbers by keys that are the same.
use Rattle.std.proofs.Common.{◌≡◌, ℕ, Bool, true, false, inl, inr, List, [], ◌∷◌, ◌+◌, ◌≤◌, length, refl, sym, ◌∙◌, ap, Some, None, Option, Result, Ok, Err, arith}
use Rattle.std.specs.Prelude.{cond, ◌==◌, bytes_eq, MatchResult}
use Rattle.std.specs.Cmp.{IsEquivalence}
use Rattle.std.specs.Map.{lookup}
use Rattle.jobs.specs.declared.ascending.Ascending.{Ascending}
use Rattle.model.proofs.BoolLemmas.{either}
use Rattle.std.proofs.lemmas.Bool.Decides.{Decides-eqb}
use Rattle.model.specs.declared.refusal.Refusal.{Refusal}
use Rattle.model.specs.declared.refusal.Refusal.TheVariants.{Memory}
use Rattle.model.specs.Worlds.{Resolved, Job}
use Rattle.model.specs.Goals.{same_job}
use Rattle.model.proofs.BoolLemmas.{both_parts, same_bytes, bytes_same}
use Rattle.jobs.specs.Rising.{with_number, without_number}
use Rattle.jobs.specs.Numbers.{numbers_at, room_at, moved, has_scratch, ChangesAt, HasSameNumbers, KeepsRoom, HasRoom, MovesPath}
use Rattle.jobs.proofs.NumberLemmas.{put_back, moved_in, moved_out}

-- two keys that are the same find the same
lookup_same : {K X : Type 0} {eq : K → K → Bool} → IsEquivalence eq → (a b : K) → eq a b ≡ true → (es : List (K × X)) → lookup (eq a) es ≡ lookup (eq b) es
lookup_same laws a b same [] = refl
lookup_same laws a b same (e ∷ es) = rw (laws.congr a b e.0 same, lookup_same laws a b same es) refl

-- where nothing is at a key, nothing is taken out
pub nothing_removed : {K : Type 0} {eq : K → K → Bool} → IsEquivalence eq → (key : K) (n : ℕ) (es : List (K × Ascending)) → None ≡ lookup (eq key) es
    → ChangesAt eq key (without_number n) es es
unfolding without_number
nothing_removed {eq = eq} laws key n es none k = elim (either (eq key k)) [
  | inl t ↦ rw (t, ← lookup_same laws key k t es, ← none) refl
  | inr f ↦ rw f refl
]

-- the first number at a key
pub first_inserted : {K : Type 0} {eq : K → K → Bool} → IsEquivalence eq → (key : K) (n : ℕ) (list : Ascending) (old mid new : List (K × Ascending))
    → mid ≡ old → None ≡ lookup (eq key) old
    → list.numbers.items ≡ n ∷ [] → ((k : K) → lookup (eq k) new ≡ cond (eq key k) (Some list) (lookup (eq k) mid)) → ChangesAt eq key (with_number n) old new
unfolding with_number
first_inserted {eq = eq} laws key n list old mid new same none items updates k = elim (either (eq key k)) [
  | inl t ↦
      let here : lookup (eq k) new ≡ Some list = rw t at (updates k) in
      let before : lookup (eq k) old ≡ None = sym (lookup_same laws key k t old) ∙ sym none in
      rw (t, before, here, items) refl
  | inr f ↦
      let here : lookup (eq k) new ≡ lookup (eq k) mid = rw f at (updates k) in
      rw (f, here, same) refl
]

-- jobs of one leader and one number are one job
pub job_same : (a b : Job) → same_job a b ≡ true → a ≡ b
job_same a b t =
    let parts = both_parts (bytes_eq a.leader b.leader) (a.number == b.number) t in
    let leaders : a.leader ≡ b.leader = same_bytes a.leader b.leader parts.0 in
    let numbers : a.number ≡ b.number = (Decides-eqb a.number b.number).0 parts.1 in
    λ i. record { leader = leaders i; number = numbers i }

-- a number that was put in anew, and taken out again
pub undone : (key copy : Job) (n : ℕ) (old mid next new : List (Job × Ascending)) → copy ≡ key → next ≡ mid
    → without_number n (numbers_at (same_job key) old) ≡ numbers_at (same_job key) old
    → ChangesAt same_job copy (with_number n) old mid → ChangesAt same_job key (without_number n) next new → HasSameNumbers same_job old new
undone key copy n old mid next new copied same fresh enters leaves k = elim (either (same_job key k)) [
  | inl t ↦
      let is : k ≡ key = sym (job_same key k t) in
      let put : numbers_at (same_job k) mid ≡ with_number n (numbers_at (same_job k) old) = rw (copied, t) at (enters k) in
      let taken : numbers_at (same_job k) new ≡ without_number n (numbers_at (same_job k) next) = rw t at (leaves k) in
      let was : without_number n (numbers_at (same_job k) old) ≡ numbers_at (same_job k) old = rw is fresh in
      taken ∙ ap (λ es. without_number n (numbers_at (same_job k) es)) same ∙ ap (without_number n) put ∙ put_back n (numbers_at (same_job k) old) was
  | inr f ↦
      let put : numbers_at (same_job k) mid ≡ numbers_at (same_job k) old = rw (copied, f) at (enters k) in
      let taken : numbers_at (same_job k) new ≡ numbers_at (same_job k) next = rw f at (leaves k) in
      taken ∙ ap (numbers_at (same_job k)) same ∙ put
]

-- ---- goals that are planned

-- one that was built from nothing
listed_at : (path : List ℕ) (r : Resolved) (n : ℕ) (old new : List (List ℕ × Ascending)) → path ≡ r.scratch → ChangesAt bytes_eq path (with_number n) old new
    → MovesPath None (Some r) n old new
listed_at path r n old new is changes p = elim (either (bytes_eq r.scratch p)) [
  | inl t ↦ rw t (rw (is, t) at (changes p))
  | inr f ↦ rw f (rw (is, f) at (changes p))
]

pub is_listed : (path : List ℕ) (r : Resolved) (n : ℕ) (old new : List (List ℕ × Ascending)) (o : Result (Unit {0}) Refusal) → path ≡ r.scratch
    → MatchResult o (λ _. ChangesAt bytes_eq path (with_number n) old new) (λ e. (e ≡ Memory) × HasSameNumbers bytes_eq old new)
    → MatchResult o (λ _. MovesPath None (Some r) n old new) (λ e. (e ≡ Memory) × HasSameNumbers bytes_eq old new)
is_listed path r n old new (Ok done) is changes = listed_at path r n old new is changes
is_listed path r n old new (Err why) is changes = changes

-- one that was built under the same path
pub stays_listed : (h r : Resolved) (n : ℕ) (lists : List (List ℕ × Ascending)) → bytes_eq h.scratch r.scratch ≡ true
    → MovesPath (Some h) (Some r) n lists lists
stays_listed h r n lists same p =
    let paths : r.scratch ≡ h.scratch = sym (same_bytes h.scratch r.scratch same) in
    elim (either (bytes_eq h.scratch p)) [
      | inl t ↦ rw (paths, t) refl
      | inr f ↦ rw (paths, f) refl
    ]

-- one that was built under another path
pub relisted : (h r : Resolved) (n : ℕ) (old mid next new : List (List ℕ × Ascending)) → bytes_eq h.scratch r.scratch ≡ false → next ≡ mid
    → ChangesAt bytes_eq r.scratch (with_number n) old mid → ChangesAt bytes_eq h.scratch (without_number n) next new → MovesPath (Some h) (Some r) n old new
relisted h r n old mid next new other same enters leaves p = elim (either (bytes_eq h.scratch p)) [
  | inl t ↦
      let path : h.scratch ≡ p = same_bytes h.scratch p t in
      let apart : bytes_eq r.scratch p ≡ false = ap (bytes_eq r.scratch) (sym path) ∙ not_same r.scratch h.scratch other in
      let put : numbers_at (bytes_eq p) mid ≡ numbers_at (bytes_eq p) old = rw apart at (enters p) in
      let taken : numbers_at (bytes_eq p) new ≡ without_number n (numbers_at (bytes_eq p) next) = rw t at (leaves p) in
      rw (t, apart) (taken ∙ ap (λ es. without_number n (numbers_at (bytes_eq p) es)) same ∙ ap (without_number n) put)
  | inr f ↦
      let taken : numbers_at (bytes_eq p) new ≡ numbers_at (bytes_eq p) next = rw f at (leaves p) in
      let before : numbers_at (bytes_eq p) new ≡ numbers_at (bytes_eq p) mid = taken ∙ ap (numbers_at (bytes_eq p)) same in
      elim (either (bytes_eq r.scratch p)) [
        | inl u ↦ rw (f, u) (before ∙ (rw u at (enters p)))
        | inr g ↦ rw (f, g) (before ∙ (rw g at (enters p)))
      ]
]
  where
    not_same : (a b : List ℕ) → bytes_eq b a ≡ false → bytes_eq a b ≡ false
    not_same a b f = elim (either (bytes_eq a b)) [
      | inl t ↦ (let same : a ≡ b = same_bytes a b t in let yes : bytes_eq b a ≡ true = ap (bytes_eq b) same ∙ bytes_same b in let no = sym yes ∙ f in cc)
      | inr g ↦ g
    ]

-- ---- room for goals that are done

-- a goal that is planned under a path has room there
pub room_planned : (from : Option Resolved) (r : Resolved) (n count : ℕ) (built new_built done new_done : List (List ℕ × Ascending))
    (o : Result (Unit {0}) Refusal)
    → count ≡ length (numbers_at (bytes_eq r.scratch) built) + 1 → count ≤ room_at (bytes_eq r.scratch) new_done
    → KeepsRoom bytes_eq done new_done → HasRoom built done
    → MatchResult o (λ _. MovesPath from (Some r) n built new_built) (λ e. (e ≡ Memory) × HasSameNumbers bytes_eq built new_built) → HasRoom new_built new_done
room_planned from r n count built new_built done new_done (Err why) many room kept had changes p =
    let had_here = had p in let kept_here = kept p in
    rw (changes.1 p) (omega (arith, had_here, kept_here))
room_planned from r n count built new_built done new_done (Ok u) many room kept had changes p =
    let had_here = had p in
    let kept_here = kept p in
    let ns : List ℕ = numbers_at (bytes_eq p) built in
    let was : Bool = has_scratch p from in
    elim (either (bytes_eq r.scratch p)) [
      | inl t ↦
          let path : r.scratch ≡ p = same_bytes r.scratch p t in
          let most : length (moved was true n ns) ≤ length ns + 1 = moved_in was n ns in
          let is : numbers_at (bytes_eq p) new_built ≡ moved was true n ns = rw t at (changes p) in
          let here : length ns + 1 ≤ room_at (bytes_eq p) new_done = rw (many, path) at room in
          rw is (omega (arith, most, here))
      | inr f ↦
          let most : length (moved was false n ns) ≤ length ns = moved_out was n ns in
          let is : numbers_at (bytes_eq p) new_built ≡ moved was false n ns = rw f at (changes p) in
          rw is (omega (arith, most, had_here, kept_here))
    ]
