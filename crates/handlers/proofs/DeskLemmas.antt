-- What a desk holds in the table.
use Rattle.std.proofs.Common.{◌≡◌, ℕ, suc, ◌+◌, ◌≤◌, Bool, true, false, inl, inr, List, [], ◌∷◌, ◌++◌, length, refl, sym, ◌∙◌, ap, subst, arith, Option, Some, None}
use Rattle.std.specs.Prelude.{is_some, option_map, All, map, unwrap_or, bytes_eq, nat_le, ◌&&◌, if◌then◌else◌}
use Rattle.std.specs.List.{list_any}
use Rattle.std.proofs.lemmas.List.Elements.{All-nil, All-cons, All-head, All-tail, All-push, All-weaker}
use Rattle.std.proofs.lemmas.List.{length-append}
use Rattle.std.proofs.lemmas.Bool.Decides.{nat_tests}
use Rattle.model.specs.Archives.{Tree, Link, nar}
use Rattle.model.specs.Classes.{Known, Admission}
use Rattle.model.specs.Limits.{most_sources, most_derivations, most_records, most_pins}
use Rattle.model.specs.Worlds.{Source, tree_at, tree_of_record, held, held_at, one_of_each, charge_of, is_within, known_of, with_derivation}
use Rattle.model.proofs.BoolLemmas.{either, same_bytes}
use Rattle.records.specs.Recorded.{Recorded, without_tree}
use Rattle.store.specs.Stored.{Extends}
use Rattle.realise.specs.Held.{paths_held, with_archive, with_archives}
use Rattle.realise.specs.Holdings.{Holdings, paths_of, holds_derivation, IsClosedWith}
use Rattle.records.specs.Trees.{source_at}
use Rattle.handlers.specs.Sound.{sources_at, records_at, desk_of, IsSized, IsSound, IsEmpty, Beside}

-- a path of the table
abbrev pub IsKnown : List Source → List ℕ → Type 0
IsKnown table path = is_some (tree_at path table) ≡ true

-- ---- a later table

-- the same sources stand in it
pub same_sources : (old new : List Source) → Extends old new → (paths : List (List ℕ)) → All (IsKnown old) paths
    → sources_at new paths ≡ sources_at old paths
same_sources old new later [] known = refl
same_sources old new later (p ∷ paths) known =
    rw (later p (All-head (IsKnown old) p paths known), same_sources old new later paths (All-tail (IsKnown old) p paths known)) refl

pub known_kept : (old new : List Source) → Extends old new → (paths : List (List ℕ)) → All (IsKnown old) paths → All (IsKnown new) paths
known_kept old new later paths known = All-weaker (IsKnown old) (IsKnown new) (λ p h. rw (later p h) h) paths known

-- the same records stand in it
pub same_records : (old new : List Source) → Extends old new → (records : List Recorded) → All (IsKnown old) (map (λ r. r.path) records)
    → records_at new records ≡ records_at old records
same_records old new later [] known = refl
same_records old new later (r ∷ records) known =
    let paths : List (List ℕ) = map (λ q. q.path) records in
    rw (later r.path (All-head (IsKnown old) r.path paths known), same_records old new later records (All-tail (IsKnown old) r.path paths known)) refl

-- the archives have as many bytes there
is_sized_there : (o : Option Tree) (n : ℕ) → option_map (λ t. length (nar t)) o ≡ Some n → is_some o ≡ true
is_sized_there None n e = cc
is_sized_there (Some t) n e = refl

pub sized_kept : (old new : List Source) → Extends old new → (archives : List (List ℕ × ℕ)) → All (IsSized old) archives → All (IsSized new) archives
sized_kept old new later archives sized =
    All-weaker (IsSized old) (IsSized new)
    (λ a is. ap (option_map (λ t. length (nar t))) (later a.0 (is_sized_there (tree_at a.0 old) a.1 is)) ∙ is) archives sized

-- with one more, or with several
pub sized_with : (table : List Source) (a : List ℕ × ℕ) (held : List (List ℕ × ℕ)) → IsSized table a → All (IsSized table) held
    → All (IsSized table) (with_archive a held)
sized_with table a held one all = elim (either (list_any (bytes_eq a.0) (paths_held held))) [
  | inl t ↦ rw t all
  | inr f ↦ rw f (All-push (IsSized table) held a all one)
]

pub sized_with_all : (table : List Source) (archives held : List (List ℕ × ℕ)) → All (IsSized table) archives → All (IsSized table) held
    → All (IsSized table) (with_archives archives held)
unfolding with_archives
sized_with_all table [] held some all = all
sized_with_all table (a ∷ archives) held some all =
    sized_with_all table archives (with_archive a held) (All-tail (IsSized table) a archives some)
    (sized_with table a held (All-head (IsSized table) a archives some) all)

-- what is known in front, and behind
known_front : (table : List Source) (xs ys : List (List ℕ)) → All (IsKnown table) (xs ++ ys) → All (IsKnown table) xs
known_front table [] ys known = All-nil (IsKnown table)
known_front table (x ∷ xs) ys known = All-cons (IsKnown table) x xs (All-head (IsKnown table) x (xs ++ ys) known) (known_front table xs ys (All-tail (IsKnown table) x (xs ++ ys) known))

known_back : (table : List Source) (xs ys : List (List ℕ)) → All (IsKnown table) (xs ++ ys) → All (IsKnown table) ys
known_back table [] ys known = known
known_back table (x ∷ xs) ys known = known_back table xs ys (All-tail (IsKnown table) x (xs ++ ys) known)

pub sources_known : (table : List Source) (limit : ℕ) (d : Holdings) → IsSound table limit d → All (IsKnown table) d.known.sources
sources_known table limit d sound = known_front table d.known.sources (map (λ r. r.path) d.records) sound.known

pub records_known : (table : List Source) (limit : ℕ) (d : Holdings) → IsSound table limit d → All (IsKnown table) (map (λ r. r.path) d.records)
records_known table limit d sound = known_back table d.known.sources (map (λ r. r.path) d.records) sound.known

pub desk_kept : (beside : Beside) (old new : List Source) (limit : ℕ) (d : Holdings) → Extends old new → IsSound old limit d
    → desk_of beside new d ≡ desk_of beside old d
desk_kept beside old new limit d later sound =
    let sources : sources_at new d.known.sources ≡ sources_at old d.known.sources = same_sources old new later d.known.sources (sources_known old limit d sound) in
    let records : records_at new d.records ≡ records_at old d.records = same_records old new later d.records (records_known old limit d sound) in
    λ i. record { trusted = beside.trusted; sources = sources i; derivations = d.known.derivations; records = records i; pins = d.pins; goals = beside.goals }

pub sound_kept : (old new : List Source) (limit : ℕ) (d : Holdings) → Extends old new → IsSound old limit d → IsSound new limit d
sound_kept old new limit d later sound = record {
  charged = λ beside. rw (desk_kept beside old new limit d later sound) (sound.charged beside);
  sized = sized_kept old new later d.archives sound.sized;
  within = sound.within;
  few_sources = sound.few_sources;
  few_derivations = sound.few_derivations;
  few_records = sound.few_records;
  few_pins = sound.few_pins;
  known = known_kept old new later (paths_of d) sound.known;
  closed = sound.closed;
}

-- ---- what is held

-- what a desk holds is among its sources
pub held_found : (table : List Source) (paths : List (List ℕ)) (path : List ℕ)
    → list_any (λ p. bytes_eq p path) paths ≡ list_any (λ s. bytes_eq s.path path) (sources_at table paths)
held_found table [] path = refl
held_found table (p ∷ paths) path = rw (held_found table paths path) refl

pub not_held : (table : List Source) (paths : List (List ℕ)) (path : List ℕ) → list_any (λ p. bytes_eq p path) paths ≡ false
    → tree_at path (sources_at table paths) ≡ None
not_held table [] path h = refl
not_held table (p ∷ paths) path h = elim (either (bytes_eq p path)) [
  | inl t ↦ let there = rw t at h in cc
  | inr f ↦ rw f (not_held table paths path (rw f at h))
]

pub some_of : (o : Option Tree) (d : Tree) → is_some o ≡ true → Some (unwrap_or o d) ≡ o
some_of None d h = cc
some_of (Some t) d h = refl

-- what is held is found as the table has it
pub held_same : (table : List Source) (paths : List (List ℕ)) (path : List ℕ) → All (IsKnown table) paths
    → list_any (λ p. bytes_eq p path) paths ≡ true → tree_at path (sources_at table paths) ≡ tree_at path table
held_same table [] path known h = cc
held_same table (p ∷ paths) path known h = elim (either (bytes_eq p path)) [
  | inl t ↦
      let is : p ≡ path = same_bytes p path t in
      rw t (some_of (tree_at p table) (Link []) (All-head (IsKnown table) p paths known) ∙ ap (λ q. tree_at q table) is)
  | inr f ↦ rw f (held_same table paths path (All-tail (IsKnown table) p paths known) (rw f at h))
]

-- what a user holds at a path is what the table has there, if the path is his
pub held_is : (table : List Source) (paths : List (List ℕ)) (path : List ℕ) → All (IsKnown table) paths
    → (if list_any (λ p. bytes_eq p path) paths then tree_at path table else None) ≡ tree_at path (sources_at table paths)
held_is table paths path known = elim (either (list_any (λ p. bytes_eq p path) paths)) [
  | inl t ↦ rw t (sym (held_same table paths path known t))
  | inr f ↦ rw f (sym (not_held table paths path f))
]

pub held_known : (table : List Source) (paths : List (List ℕ)) (path : List ℕ) → All (IsKnown table) paths
    → list_any (λ p. bytes_eq p path) paths ≡ true → is_some (tree_at path table) ≡ true
held_known table [] path known h = cc
held_known table (p ∷ paths) path known h = elim (either (bytes_eq p path)) [
  | inl t ↦ subst (IsKnown table) (same_bytes p path t) (All-head (IsKnown table) p paths known)
  | inr f ↦ held_known table paths path (All-tail (IsKnown table) p paths known) (rw f at h)
]

-- the trees of records are those at their paths
pub trees_at : (table : List Source) (records : List Recorded)
    → map tree_of_record (records_at table records) ≡ sources_at table (map (λ r. r.path) records)
trees_at table [] = refl
trees_at table (r ∷ records) = ap (λ rest. source_at table r.path ∷ rest) (trees_at table records)

sources_at-append : (table : List Source) (xs ys : List (List ℕ)) → sources_at table (xs ++ ys) ≡ sources_at table xs ++ sources_at table ys
sources_at-append table [] ys = refl
sources_at-append table (x ∷ xs) ys = ap (λ rest. source_at table x ∷ rest) (sources_at-append table xs ys)

-- what a desk holds, by its paths
pub held_paths : (beside : Beside) (table : List Source) (d : Holdings) → held (desk_of beside table d) ≡ sources_at table (paths_of d)
held_paths beside table d =
    let paths : List (List ℕ) = map (λ r. r.path) d.records in
    ap (λ rest. sources_at table d.known.sources ++ rest) (trees_at table d.records) ∙ sym (sources_at-append table d.known.sources paths)

-- what a user holds at a path is what the table has there, if the path is his
pub held_in_table : (beside : Beside) (table : List Source) (limit : ℕ) (d : Holdings) (path : List ℕ) → IsSound table limit d
    → (if list_any (λ p. bytes_eq p path) (paths_of d) then tree_at path table else None) ≡ held_at path (desk_of beside table d)
held_in_table beside table limit d path sound = held_is table (paths_of d) path sound.known ∙ ap (tree_at path) (sym (held_paths beside table d))

-- records without their trees
pub records_without : (table : List Source) (records : List Recorded) → map without_tree (records_at table records) ≡ records
records_without table [] = refl
records_without table (r ∷ records) = ap (λ rest. r ∷ rest) (records_without table records)

-- ---- how many there are

pub length-sources_at : (table : List Source) (paths : List (List ℕ)) → length (sources_at table paths) ≡ length paths
length-sources_at table [] = refl
length-sources_at table (p ∷ paths) = ap (λ n. suc n) (length-sources_at table paths)

pub length-records_at : (table : List Source) (records : List Recorded) → length (records_at table records) ≡ length records
length-records_at table [] = refl
length-records_at table (r ∷ records) = ap (λ n. suc n) (length-records_at table records)

-- ---- derivations

pub and_true : (b : Bool) → (b && true) ≡ b
and_true true = refl
and_true false = refl

paths_at : (table : List Source) (paths : List (List ℕ)) → map (λ s. s.path) (sources_at table paths) ≡ paths
paths_at table [] = refl
paths_at table (p ∷ paths) = ap (λ rest. p ∷ rest) (paths_at table paths)

-- what the model's desk knows is what the desk knows
pub known_of-desk_of : (beside : Beside) (table : List Source) (d : Holdings) → known_of (desk_of beside table d) ≡ d.known
known_of-desk_of beside table d =
    let K : List (List ℕ) → Known = λ paths. record { derivations = d.known.derivations; sources = paths } in
    ap K (paths_at table d.known.sources)

pub sound-derivation : (table : List Source) (limit : ℕ) (d : Holdings) (a : Admission) → IsSound table limit d
    → length d.known.derivations + 1 ≤ most_derivations → IsSound table limit (holds_derivation a d)
unfolding charge_of
sound-derivation table limit d a sound few = record {
  charged = sound.charged;
  sized = sound.sized;
  within = sound.within;
  few_sources = sound.few_sources;
  few_derivations = omega (arith, few, length-append d.known.derivations (a ∷ []));
  few_records = sound.few_records;
  few_pins = sound.few_pins;
  known = sound.known;
  closed = sound.closed;
}

-- whether a desk with one derivation more is within its limits
pub is_within-derivation : (users : List (List ℕ)) (beside : Beside) (table : List Source) (limit : ℕ) (d : Holdings) (a : Admission) → IsSound table limit d
    → is_within (record { users = users; charge = limit }) (with_derivation a (desk_of beside table d)) ≡ nat_le (length d.known.derivations + 1) most_derivations
unfolding is_within charge_of
is_within-derivation users beside table limit d a sound =
    let count : length (d.known.derivations ++ a ∷ []) ≡ length d.known.derivations + 1 = length-append d.known.derivations (a ∷ []) in
    let few : nat_le (length (sources_at table d.known.sources)) most_sources ≡ true = grind (arith, nat_tests, sound.few_sources, length-sources_at table d.known.sources) in
    let recorded : nat_le (length (records_at table d.records)) most_records ≡ true = grind (arith, nat_tests, sound.few_records, length-records_at table d.records) in
    let pinned : nat_le (length d.pins) most_pins ≡ true = grind (arith, nat_tests, sound.few_pins) in
    let charge : nat_le (charge_of (desk_of beside table d)) limit ≡ true = grind (arith, nat_tests, sound.within, sound.charged beside) in
    rw (few, count, recorded, pinned, charge) (and_true (nat_le (length d.known.derivations + 1) most_derivations))

-- ---- empty desks

pub empty_sound : (table : List Source) (limit : ℕ) (d : Holdings) → IsEmpty d → IsSound table limit d
unfolding charge_of one_of_each
empty_sound table limit d e = record {
  charged = λ beside. rw (e.known, e.records, e.charge) refl;
  sized = subst (All (IsSized table)) (sym e.archives) (All-nil (IsSized table));
  within = rw e.charge (omega arith);
  few_sources = rw e.known (omega arith);
  few_derivations = rw e.known (omega arith);
  few_records = rw e.records (omega arith);
  few_pins = rw e.pins (omega arith);
  known = rw (e.known, e.records) (All-nil (IsKnown table));
  closed = subst (All (IsClosedWith d)) (sym e.records) (All-nil (IsClosedWith d));
}
