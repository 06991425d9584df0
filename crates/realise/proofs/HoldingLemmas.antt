-- What a desk holds, with more paths.
use Rattle.std.proofs.Common.{◌≡◌, ℕ, ◌+◌, ◌≤◌, ◌<◌, ◌^◌, false, inl, inr, ◌||◌, List, [], ◌∷◌, ◌++◌, map, refl, sym, ap, ◌∙◌, append_assoc, append-nil, arith, Option, None, Some}
use Rattle.std.specs.Prelude.{bytes_eq, is_some, sum_by, if◌then◌else◌}
use Rattle.std.specs.List.{list_any}
use Rattle.std.specs.Map.{lookup}
use Rattle.std.proofs.lemmas.List.{map-append}
use Rattle.std.proofs.lemmas.List.Folds.{list_any-append}
use Rattle.std.proofs.lemmas.List.Sums.{sum_by-append, sum_by-cons}
use Rattle.std.proofs.lemmas.Map.Made.{is_some-lookup}
use Rattle.indexmap.specs.IndexSet.{insert_key}
use Rattle.model.specs.Classes.{is_one_of}
use Rattle.model.proofs.BoolLemmas.{either}
use Rattle.path_sets.proofs.PathSetLemmas.{one_of_keys}
use Rattle.classes.proofs.EntryLemmas.{any_insert}
use Rattle.records.specs.declared.desk_entry.DeskEntry.{DeskEntry}
use Rattle.realise.specs.Held.{paths_held, bytes_held, with_archive, with_archives, charged_beside, IsSetOf}
use Rattle.records.specs.DeskEntries.{entry_path}
use Rattle.realise.specs.Holdings.{Holdings, paths_of, archive_of, holds_entry, holds_each, charged_more, charged_all}
use Rattle.realise.proofs.ChargingLemmas.{paths_more}

-- ---- one path more

none_of : {A : Type 0} (o : Option A) → is_some o ≡ false → o ≡ None
none_of None is = refl
none_of (Some x) is = cc

-- looking up a path that is not held
pub absent_held : (path : List ℕ) (held : List (List ℕ × ℕ)) → list_any (bytes_eq path) (paths_held held) ≡ false
    → lookup (bytes_eq path) held ≡ None
absent_held path held absent = none_of (lookup (bytes_eq path) held) (is_some-lookup (bytes_eq path) held ∙ absent)

-- a path that is not held goes to the end
pub put_last : (held : List (List ℕ × ℕ)) (a : List ℕ × ℕ) → list_any (bytes_eq a.0) (paths_held held) ≡ false
    → with_archive a held ≡ held ++ a ∷ []
put_last held a absent = rw absent refl

pub bytes_last : (held : List (List ℕ × ℕ)) (a : List ℕ × ℕ) → bytes_held (held ++ a ∷ []) ≡ bytes_held held + a.1
bytes_last held a =
    let value = λ (b : List ℕ × ℕ). b.1 in
    let both = sum_by-append value held (a ∷ []) in
    let one : sum_by value (a ∷ []) ≡ a.1 + 0 = sum_by-cons value a [] in
    omega (arith, both, one)

keys_with : (a : List ℕ × ℕ) (held : List (List ℕ × ℕ)) → paths_held (with_archive a held) ≡ insert_key bytes_eq (paths_held held) a.0
keys_with a held = elim (either (list_any (bytes_eq a.0) (paths_held held))) [
  | inl t ↦ rw t refl
  | inr f ↦ rw f (map-append (λ (b : List ℕ × ℕ). b.0) held (a ∷ []))
]

-- the paths that are held with one more
pub held_with : (a : List ℕ × ℕ) (held : List (List ℕ × ℕ)) (paths : List (List ℕ)) → IsSetOf (paths_held held) paths
    → IsSetOf (paths_held (with_archive a held)) (paths ++ a.0 ∷ [])
held_with a held paths set q = ap (list_any (bytes_eq q)) (keys_with a held) ∙ any_insert a.0 (paths_held held) paths set q

-- and the bytes of their archives
pub bytes_with : (a : List ℕ × ℕ) (held : List (List ℕ × ℕ)) (paths : List (List ℕ)) → IsSetOf (paths_held held) paths
    → bytes_held (with_archive a held) ≡ bytes_held held + (if is_one_of paths a.0 then 0 else a.1)
bytes_with a held paths set =
    let same : list_any (bytes_eq a.0) (paths_held held) ≡ is_one_of paths a.0 = set a.0 ∙ one_of_keys a.0 paths in
    let none : bytes_held held ≡ bytes_held held + 0 = omega arith in
    elim (either (is_one_of paths a.0)) [
      | inl t ↦ let there = same ∙ t in rw (t, there) none
      | inr f ↦ let absent = same ∙ f in rw (f, absent) (bytes_last held a)
    ]

-- ---- several paths more

pub bytes_beside : (archives held : List (List ℕ × ℕ)) (paths : List (List ℕ)) → IsSetOf (paths_held held) paths
    → bytes_held (with_archives archives held) ≡ bytes_held held + charged_beside archives paths
unfolding with_archives
bytes_beside [] held paths set = omega arith
bytes_beside (a ∷ others) held paths set =
    let rest = bytes_beside others (with_archive a held) (paths ++ a.0 ∷ []) (held_with a held paths set) in
    let first = bytes_with a held paths set in
    omega (arith, first, rest)

pub held_beside : (archives held : List (List ℕ × ℕ)) (paths : List (List ℕ)) → IsSetOf (paths_held held) paths
    → IsSetOf (paths_held (with_archives archives held)) (paths ++ paths_held archives)
unfolding with_archives
held_beside [] held paths set q = set q ∙ ap (list_any (bytes_eq q)) (sym (append-nil paths))
held_beside (a ∷ others) held paths set q =
    held_beside others (with_archive a held) (paths ++ a.0 ∷ []) (held_with a held paths set) q
    ∙ ap (list_any (bytes_eq q)) (append_assoc paths (a.0 ∷ []) (paths_held others))

-- with more paths there are no fewer bytes
pub bytes_more : (archives held : List (List ℕ × ℕ)) → bytes_held held ≤ bytes_held (with_archives archives held)
bytes_more archives held =
    let more = bytes_beside archives held (paths_held held) (λ q. refl) in
    omega (arith, more)

-- while there are paths left, the next fits
pub next_fits : (a : List ℕ × ℕ) (rest held all : List (List ℕ × ℕ)) → with_archives (a ∷ rest) held ≡ all → bytes_held all < 2 ^ 64
    → bytes_held (with_archive a held) < 2 ^ 64
unfolding with_archives
next_fits a rest held all is fits =
    let more = bytes_more rest (with_archive a held) in
    let same : bytes_held (with_archives rest (with_archive a held)) ≡ bytes_held all = ap bytes_held is in
    omega (arith, more, same, fits)

-- ---- entries

-- what is charged for entries, one after another
pub charged_entries : (es : List (DeskEntry × ℕ)) (paths : List (List ℕ)) (d : Holdings) → IsSetOf paths (paths_of d)
    → charged_beside (map archive_of es) paths ≡ charged_all es d
charged_entries [] paths d set = refl
charged_entries (e ∷ es) paths d set =
    let path = entry_path e.0 in
    let more = charged_more path e.1 d in
    let same : is_one_of paths path ≡ is_one_of (paths_of d) path = sym (one_of_keys path paths) ∙ set path ∙ one_of_keys path (paths_of d) in
    let first : (if is_one_of paths path then 0 else e.1) ≡ more = ap (λ b. if b then 0 else e.1) same in
    let next : IsSetOf (paths ++ path ∷ []) (paths_of (holds_entry e.0 e.1 d)) =
    λ q. list_any-append (bytes_eq q) paths (path ∷ []) ∙ ap (λ b. b || list_any (bytes_eq q) (path ∷ [])) (set q)
    ∙ sym (list_any-append (bytes_eq q) (paths_of d) (path ∷ [])) ∙ paths_more (bytes_eq q) e.0 e.1 d in
    let rest = charged_entries es (paths ++ path ∷ []) (holds_entry e.0 e.1 d) next in
    λ i. first i + rest i

-- the paths that are held with them
pub held_entries : (es : List (DeskEntry × ℕ)) (paths : List (List ℕ)) (d : Holdings) → IsSetOf paths (paths_of d)
    → IsSetOf (paths ++ paths_held (map archive_of es)) (paths_of (holds_each es d))
held_entries [] paths d set q = ap (list_any (bytes_eq q)) (append-nil paths) ∙ set q
held_entries (e ∷ es) paths d set q =
    let path = entry_path e.0 in
    let next : IsSetOf (paths ++ path ∷ []) (paths_of (holds_entry e.0 e.1 d)) =
    λ q. list_any-append (bytes_eq q) paths (path ∷ []) ∙ ap (λ b. b || list_any (bytes_eq q) (path ∷ [])) (set q)
    ∙ sym (list_any-append (bytes_eq q) (paths_of d) (path ∷ [])) ∙ paths_more (bytes_eq q) e.0 e.1 d in
    sym (ap (list_any (bytes_eq q)) (append_assoc paths (path ∷ []) (paths_held (map archive_of es))))
    ∙ held_entries es (paths ++ path ∷ []) (holds_entry e.0 e.1 d) next q
