-- What is charged for several entries.
use Rattle.std.proofs.Common.{◌≡◌, ℕ, ◌+◌, ◌≤◌, ◌<◌, ◌^◌, Bool, true, false, ◌||◌, List, [], ◌∷◌, ◌++◌, map, length, drop, get_or, refl, sym, ap, ◌∙◌, subst, append_assoc, arith}
use Rattle.std.specs.Prelude.{bytes_eq, sum_by, if◌then◌else◌}
use Rattle.std.specs.List.{list_any}
use Rattle.std.proofs.lemmas.List.{map-append}
use Rattle.std.proofs.lemmas.List.Folds.{list_any-append}
use Rattle.std.proofs.lemmas.List.Sums.{sum_by-cons}
use Rattle.indexmap.specs.IndexSet.{insert_key}
use Rattle.model.specs.Classes.{is_one_of}
use Rattle.path_sets.proofs.PathSetLemmas.{one_of_keys}
use Rattle.classes.proofs.EntryLemmas.{any_insert}
use Rattle.records.specs.Recorded.{Recorded}
use Rattle.records.specs.declared.desk_entry.DeskEntry.{DeskEntry}
use Rattle.records.specs.declared.desk_entry.DeskEntry.TheVariants as entry
use Rattle.realise.specs.Held.{charged_beside, IsSetOf}
use Rattle.records.specs.DeskEntries.{entry_path}
use Rattle.realise.specs.Holdings.{Holdings, paths_of, archive_of, holds_entry}
use Rattle.records.proofs.LoopLemmas.{drop_next}

counted_or_not : (b : Bool) (n rest total : ℕ) → rest ≤ total → (if b then 0 else n) + rest ≤ n + total
counted_or_not true n rest total h = omega arith
counted_or_not false n rest total h = omega arith

-- no more is charged than the archives have bytes
pub no_more : (es : List (DeskEntry × ℕ)) (paths : List (List ℕ)) → charged_beside (map archive_of es) paths ≤ sum_by (λ e. e.1) es
no_more [] paths = omega arith
no_more (e ∷ es) paths =
    let next = paths ++ entry_path e.0 ∷ [] in
    let here = is_one_of paths (entry_path e.0) in
    subst (λ n. charged_beside (map archive_of (e ∷ es)) paths ≤ n) (sym (sum_by-cons (λ (f : DeskEntry × ℕ). f.1) e es))
    (counted_or_not here e.1 (charged_beside (map archive_of es) next) (sum_by (λ f. f.1) es) (no_more es next))

-- what is charged is told by which paths are among those that are held, and not by their order
pub charged_members : (archives : List (List ℕ × ℕ)) (held others : List (List ℕ)) → IsSetOf held others
    → charged_beside archives held ≡ charged_beside archives others
charged_members [] held others set = refl
charged_members (a ∷ archives) held others set =
    let here : is_one_of held a.0 ≡ is_one_of others a.0 = sym (one_of_keys a.0 held) ∙ set a.0 ∙ one_of_keys a.0 others in
    let first : (if is_one_of held a.0 then 0 else a.1) ≡ (if is_one_of others a.0 then 0 else a.1) = ap (λ b. if b then 0 else a.1) here in
    let next : IsSetOf (held ++ a.0 ∷ []) (others ++ a.0 ∷ []) =
    λ q. list_any-append (bytes_eq q) held (a.0 ∷ []) ∙ ap (λ b. b || list_any (bytes_eq q) (a.0 ∷ [])) (set q)
    ∙ sym (list_any-append (bytes_eq q) others (a.0 ∷ [])) in
    let rest = charged_members archives (held ++ a.0 ∷ []) (others ++ a.0 ∷ []) next in
    λ i. first i + rest i

-- nothing is charged for a path that is among them
charged_again : (a : List ℕ × ℕ) (archives : List (List ℕ × ℕ)) (held : List (List ℕ)) → list_any (bytes_eq a.0) held ≡ true
    → charged_beside (a ∷ archives) held ≡ charged_beside archives held
charged_again a archives held there =
    let here : is_one_of held a.0 ≡ true = sym (one_of_keys a.0 held) ∙ there in
    let first : (if is_one_of held a.0 then 0 else a.1) ≡ 0 = ap (λ b. if b then 0 else a.1) here in
    let stay : insert_key bytes_eq held a.0 ≡ held = rw there refl in
    let same : IsSetOf (held ++ a.0 ∷ []) held = λ q. sym (any_insert a.0 held held (λ p. refl) q) ∙ ap (list_any (bytes_eq q)) stay in
    let rest = charged_members archives (held ++ a.0 ∷ []) held same in
    omega (arith, first, rest)

-- the whole archive is charged for another
charged_first : (a : List ℕ × ℕ) (archives : List (List ℕ × ℕ)) (held : List (List ℕ)) → list_any (bytes_eq a.0) held ≡ false
    → charged_beside (a ∷ archives) held ≡ a.1 + charged_beside archives (held ++ a.0 ∷ [])
charged_first a archives held absent =
    let here : is_one_of held a.0 ≡ false = sym (one_of_keys a.0 held) ∙ absent in
    ap (λ b. (if b then 0 else a.1) + charged_beside archives (held ++ a.0 ∷ [])) here

-- whether a path is held, or was counted
pub among : (test : List ℕ → Bool) (held counted : List (List ℕ)) → list_any test held ≡ true → list_any test (held ++ counted) ≡ true
among test held counted there = list_any-append test held counted ∙ ap (λ b. b || list_any test counted) there

pub beside : (test : List ℕ → Bool) (held counted : List (List ℕ)) → list_any test held ≡ false
    → list_any test (held ++ counted) ≡ list_any test counted
beside test held counted absent = list_any-append test held counted ∙ ap (λ b. b || list_any test counted) absent

-- so much was counted for the entries in front, whose paths are held or were counted; the next entry follows
module _ (held counted : List (List ℕ)) (es : List (DeskEntry × ℕ)) (i more : ℕ) (e : DeskEntry × ℕ) (lt : i < length es) (is : e ≡ get_or es i e)
    (so_far : more + charged_beside (map archive_of (drop i es)) (held ++ counted) ≡ charged_beside (map archive_of es) held) where
  abbrev path : List ℕ
  path = entry_path e.0

  abbrev others : List (List ℕ × ℕ)
  others = map archive_of (drop (i + 1) es)

  left : map archive_of (drop i es) ≡ archive_of e ∷ others
  left = ap (map archive_of) (drop_next es i e lt is)

  -- it is one of those
  pub counted_again : list_any (bytes_eq path) (held ++ counted) ≡ true
      → more + charged_beside others (held ++ counted) ≡ charged_beside (map archive_of es) held
  counted_again there =
      let here = ap (λ all. charged_beside all (held ++ counted)) left ∙ charged_again (archive_of e) others (held ++ counted) there in
      ap (λ n. more + n) (sym here) ∙ so_far

  -- it is none
  pub counted_first : list_any (bytes_eq path) (held ++ counted) ≡ false
      → (more + e.1) + charged_beside others (held ++ (counted ++ path ∷ [])) ≡ charged_beside (map archive_of es) held
  counted_first absent =
      let here = ap (λ all. charged_beside all (held ++ counted)) left ∙ charged_first (archive_of e) others (held ++ counted) absent in
      let group = ap (charged_beside others) (append_assoc held counted (path ∷ [])) in
      omega (arith, here, group, so_far)

  -- and can be counted
  pub counted_fits : list_any (bytes_eq path) (held ++ counted) ≡ false → sum_by (λ f. f.1) es < 2 ^ 64 → more + e.1 < 2 ^ 64
  counted_fits absent fits = omega (arith, counted_first absent, no_more es held, fits)

moved : (a b c : Bool) → ((a || b) || c) ≡ ((a || c) || b)
moved true b c = refl
moved false true true = refl
moved false true false = refl
moved false false true = refl
moved false false false = refl

-- a path at the end is one in the middle
any_moved : (test : List ℕ → Bool) (xs ys : List (List ℕ)) (path : List ℕ) → list_any test ((xs ++ ys) ++ path ∷ []) ≡ list_any test ((xs ++ path ∷ []) ++ ys)
any_moved test xs ys path =
    list_any-append test (xs ++ ys) (path ∷ []) ∙ ap (λ b. b || list_any test (path ∷ [])) (list_any-append test xs ys)
    ∙ moved (list_any test xs) (list_any test ys) (list_any test (path ∷ []))
    ∙ ap (λ b. b || list_any test ys) (sym (list_any-append test xs (path ∷ []))) ∙ sym (list_any-append test (xs ++ path ∷ []) ys)

-- the paths of a desk with one entry more
pub paths_more : (test : List ℕ → Bool) (e : DeskEntry) (archive : ℕ) (d : Holdings)
    → list_any test (paths_of d ++ entry_path e ∷ []) ≡ list_any test (paths_of (holds_entry e archive d))
paths_more test (entry.Source path) archive d = any_moved test d.known.sources (map (λ r. r.path) d.records) path
paths_more test (entry.Record r) archive d =
    let path = λ (q : Recorded). q.path in
    ap (list_any test)
    (append_assoc d.known.sources (map path d.records) (r.path ∷ []) ∙ ap (λ ps. d.known.sources ++ ps) (sym (map-append path d.records (r ∷ []))))
