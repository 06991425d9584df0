-- Sets of paths by their hash parts.
use Rattle.std.proofs.Common.{◌≡◌, ℕ, ◌-◌, ◌+◌, ◌<◌, inl, inr, Bool, true, false, cond, List, [], ◌∷◌, ◌++◌, length, take, drop, refl, ap, sym, ◌∙◌, subst, arith, Some, Option}
use Rattle.std.specs.Cmp.{both_ways}
use Rattle.std.specs.Prelude.{◌||◌, ◌==◌, ◌&&◌, not, codes, nat_lt, nat_le, All, unwrap_or}
use Rattle.std.specs.Map.{lookup}
use Rattle.std.specs.Str.{bytes_eq}
use Rattle.std.proofs.lemmas.Bool.{false≢true, cases_Bool, or_cases, leb-true, and_parts}
use Rattle.std.proofs.lemmas.List.{length-append, length-drop, append-nil}
use Rattle.std.proofs.lemmas.List.Elements.{filter-append, All-push, All-nil, All-head, All-tail, All-take}
use Rattle.std.proofs.lemmas.List.Folds.{list_any-append}
use Rattle.std.specs.List.{list_any, list_all, flat_map}
use Rattle.std.proofs.lemmas.Grind.{flat_map-append}
use Rattle.std.proofs.lemmas.Slice.Eq.{bytes_eq-Decides, slice_eq-Decides}
use Rattle.std.specs.Cmp.Lexicographic.{pointwise}
use Rattle.std.proofs.Math.Seq.{take-append_seam, drop-append_seam}
use Rattle.std.proofs.Math.Dec.{eqb-suc-zero}
use Rattle.model.specs.Occurrences.{AreKeys, IsHashPart, among}
use Rattle.model.specs.Classes.{is_one_of}
use Rattle.model.specs.Paths.{IsPath, path_text, base32, is_name, is_name_byte, begins_with_dot}
use Rattle.storepath.proofs.PathLemmas.{length-base32, parts_of-path_text, drop-path_text}
use Rattle.model.proofs.BoolLemmas.{bytes_eq_sym}
use Rattle.model.specs.Settling.{hash_part_in}
use Rattle.path_sets.specs.Slots.{is_marked, with_mark}
use Rattle.path_sets.specs.PathSets.{Groups, HasOneLess, HasOneMore, HasSame, IsTable, base_name, counted, group_at, parts_of, with_part, without_last}
use Rattle.path_sets.proofs.SlotLemmas.{marked_more}

-- ---- hash parts

pub are_keys : (paths : List (List ℕ)) → All (λ path. IsHashPart (hash_part_in path)) paths → AreKeys (among (parts_of paths))
are_keys [] all w there = absurd (false≢true there)
are_keys (p ∷ ps) all w there = elim (or_cases (bytes_eq (hash_part_in p) w) (among (parts_of ps) w) there) [
  | inl same ↦ subst IsHashPart ((bytes_eq-Decides (hash_part_in p) w).0 same) (All-head (λ q. IsHashPart (hash_part_in q)) p ps all)
  | inr later ↦ are_keys ps (All-tail (λ q. IsHashPart (hash_part_in q)) p ps all) w later
]

-- a hash part is that of a path where there are paths with it
pub part_is_there : (part : List ℕ) (paths : List (List ℕ)) → among (parts_of paths) part ≡ not (length (with_part part paths) == 0)
part_is_there part [] = refl
part_is_there part (p ∷ ps) = elim (cases_Bool (bytes_eq (hash_part_in p) part)) [
  | inl same ↦ rw same (sym (ap not (eqb-suc-zero (length (with_part part ps)))))
  | inr other ↦ rw other (part_is_there part ps)
]

none_with : (part : List ℕ) (paths : List (List ℕ)) → among (parts_of paths) part ≡ false → with_part part paths ≡ []
none_with part [] none = refl
none_with part (p ∷ ps) none = elim (cases_Bool (bytes_eq (hash_part_in p) part)) [
  | inl same ↦ absurd (false≢true (sym none ∙ ap (λ b. b || among (parts_of ps) part) same))
  | inr other ↦ rw other (none_with part ps (sym (ap (λ b. b || among (parts_of ps) part) other) ∙ none))
]

-- no path has a hash part whose slot is not marked
pub none_unmarked : (paths : List (List ℕ)) (groups : Groups) (slots names window : List ℕ) → IsTable paths groups slots names
    → is_marked slots window ≡ false → with_part window paths ≡ []
none_unmarked paths groups slots names window is unmarked = elim (cases_Bool (among (parts_of paths) window)) [
  | inl there ↦ absurd (false≢true (sym unmarked ∙ is.marked window there))
  | inr none ↦ none_with window paths none
]

-- a path is sought among those with its hash part
pub with_own_part : (paths : List (List ℕ)) (path : List ℕ) → is_one_of (with_part (hash_part_in path) paths) path ≡ is_one_of paths path
with_own_part [] path = refl
with_own_part (p ∷ ps) path = elim (cases_Bool (bytes_eq (hash_part_in p) (hash_part_in path))) [
  | inl same ↦ rw same (ap (λ b. bytes_eq p path || b) (with_own_part ps path))
  | inr other ↦
      let apart : bytes_eq p path ≡ false = elim (cases_Bool (bytes_eq p path)) [
        | inl equal ↦ absurd (false≢true (sym other ∙ (bytes_eq-Decides (hash_part_in p) (hash_part_in path)).1 (ap hash_part_in ((bytes_eq-Decides p path).0 equal))))
        | inr not_equal ↦ not_equal
      ] in
      rw other (with_own_part ps path ∙ sym (ap (λ b. b || is_one_of ps path) apart))
]

-- ---- one path more

with_more : (part path : List ℕ) (paths : List (List ℕ)) → with_part part (paths ++ path ∷ []) ≡ (with_part part paths ++ cond (bytes_eq
    (hash_part_in path) part) (path ∷ []) [])
with_more part path paths = filter-append (λ p. bytes_eq (hash_part_in p) part) paths (path ∷ [])

parts_more : (paths : List (List ℕ)) (path : List ℕ) → parts_of (paths ++ path ∷ []) ≡ parts_of paths ++ hash_part_in path ∷ []
parts_more [] path = refl
parts_more (p ∷ ps) path = ap (λ rest. hash_part_in p ∷ rest) (parts_more ps path)

names_more : (paths : List (List ℕ)) (path : List ℕ) → flat_map counted paths ++ counted path ≡ flat_map counted (paths ++ path ∷ [])
names_more paths path = sym (flat_map-append counted paths (path ∷ []) ∙ ap (λ ts. flat_map counted paths ++ ts) (append-nil (counted path)))

pub table_more : (paths : List (List ℕ)) (old new : Groups) (slots marked names part path : List ℕ) → IsTable paths old slots names
    → IsPath path → IsHashPart part → part ≡ hash_part_in path → ((window : List ℕ) → is_marked marked window ≡ with_mark part slots window)
    → HasOneMore part path old new
    → IsTable (paths ++ path ∷ []) new marked (names ++ counted path)
table_more paths old new slots marked names part path is is_path is_part same marks more = record {
  paths_are = All-push IsPath paths path is.paths_are is_path;
  parts_are = All-push (λ p. IsHashPart (hash_part_in p)) paths path is.parts_are (subst IsHashPart same is_part);
  grouped = λ p. elim (cases_Bool (bytes_eq part p)) [
    | inl here ↦
        let there : bytes_eq (hash_part_in path) p ≡ true = ap (λ q. bytes_eq q p) (sym same) ∙ here in
        let now : group_at p new ≡ group_at p old ++ path ∷ [] = more p ∙ ap (λ b. cond b (group_at p old ++ path ∷ []) (group_at p old)) here in
        now ∙ ap (λ ps. ps ++ path ∷ []) (is.grouped p) ∙ sym (with_more p path paths ∙ ap (λ b. with_part p paths ++ cond b (path ∷ []) []) there)
    | inr other ↦
        let apart : bytes_eq (hash_part_in path) p ≡ false = ap (λ q. bytes_eq q p) (sym same) ∙ other in
        let now : group_at p new ≡ group_at p old = more p ∙ ap (λ b. cond b (group_at p old ++ path ∷ []) (group_at p old)) other in
        now ∙ is.grouped p ∙ sym (append-nil (with_part p paths)) ∙ sym (with_more p path paths ∙ ap (λ b. with_part p paths ++ cond b (path ∷ []) []) apart)
  ];
  marked = λ w there.
      let among_more : among (parts_of paths ++ part ∷ []) w ≡ true = ap (λ ps. among ps w) (ap (λ q. parts_of paths ++ q ∷ []) same
      ∙ sym (parts_more paths path)) ∙ there in
      marked_more (parts_of paths) slots marked part w (is.marked w) (marks w) among_more;
  names_are = ap (λ ts. ts ++ counted path) is.names_are ∙ names_more paths path;
}

-- the same paths in the same groups
pub table_same : (paths : List (List ℕ)) (old new : Groups) (slots names : List ℕ) → IsTable paths old slots names → HasSame old new
    → IsTable paths new slots names
table_same paths old new slots names is same = record {
  paths_are = is.paths_are;
  parts_are = is.parts_are;
  grouped = λ p. same p ∙ is.grouped p;
  marked = is.marked;
  names_are = is.names_are;
}

pub table_new : (slots : List ℕ) → IsTable [] [] slots []
table_new slots = record {
  paths_are = All-nil IsPath;
  parts_are = All-nil (λ p. IsHashPart (hash_part_in p));
  grouped = λ p. refl;
  marked = λ w there. absurd (false≢true there);
  names_are = refl;
}

-- ---- one path less

without_more : (paths : List (List ℕ)) (path : List ℕ) → without_last (paths ++ path ∷ []) ≡ paths
without_more paths path =
    let long : length (paths ++ path ∷ []) - 1 ≡ length paths = let e = length-append paths (path ∷ []) in omega (arith, e) in
    ap (λ n. take n (paths ++ path ∷ [])) long ∙ take-append_seam paths (path ∷ [])

-- the base names of all, and how many bytes those are in front of the last
names_of : (paths : List (List ℕ)) (path names : List ℕ) → names ≡ flat_map counted (paths ++ path ∷ [])
    → (names ≡ flat_map counted paths ++ counted path) × (length names - length (base_name path) - 1 ≡ length (flat_map counted paths))
    × (length (base_name path) < length names)
names_of paths path names are =
    let split : names ≡ flat_map counted paths ++ counted path = are ∙ sym (names_more paths path) in
    let long : length names ≡ length (flat_map counted paths) + (length (base_name path) + 1) =
    ap length split ∙ length-append (flat_map counted paths) (counted path) ∙ (let n = length (flat_map counted paths) in omega arith) in
    (split, omega (arith, long), omega (arith, long))

-- the base name of the last stands among those, behind its length
pub last_name_within : (paths : List (List ℕ)) (path names : List ℕ) → names ≡ flat_map counted (paths ++ path ∷ [])
    → length (base_name path) < length names
last_name_within paths path names are = (names_of paths path names are).2

pub table_less : (paths : List (List ℕ)) (old new : Groups) (slots names part path : List ℕ) → IsTable (paths ++ path ∷ []) old slots names
    → part ≡ hash_part_in path → HasOneLess part old new → IsTable paths new slots (take (length names - length (base_name path) - 1) names)
table_less paths old new slots names part path is same less = record {
  paths_are = subst (All IsPath) (without_more paths path) (All-take IsPath (length (paths ++ path ∷ []) - 1) (paths ++ path ∷ []) is.paths_are);
  parts_are = subst (All (λ p. IsHashPart (hash_part_in p))) (without_more paths path)
      (All-take (λ p. IsHashPart (hash_part_in p)) (length (paths ++ path ∷ []) - 1) (paths ++ path ∷ []) is.parts_are);
  grouped = λ p. elim (cases_Bool (bytes_eq part p)) [
    | inl here ↦
        let there : bytes_eq (hash_part_in path) p ≡ true = ap (λ q. bytes_eq q p) (sym same) ∙ here in
        let before : group_at p old ≡ with_part p paths ++ path ∷ [] = is.grouped p ∙ with_more p path paths
        ∙ ap (λ b. with_part p paths ++ cond b (path ∷ []) []) there in
        less p ∙ ap (λ b. cond b (without_last (group_at p old)) (group_at p old)) here ∙ ap without_last before ∙ without_more (with_part p paths) path
    | inr other ↦
        let apart : bytes_eq (hash_part_in path) p ≡ false = ap (λ q. bytes_eq q p) (sym same) ∙ other in
        less p ∙ ap (λ b. cond b (without_last (group_at p old)) (group_at p old)) other
        ∙ is.grouped p ∙ with_more p path paths ∙ ap (λ b. with_part p paths ++ cond b (path ∷ []) []) apart ∙ append-nil (with_part p paths)
  ];
  marked = λ w there.
      let still : among (parts_of (paths ++ path ∷ [])) w ≡ true = ap (λ ps. among ps w) (parts_more paths path)
      ∙ list_any-append (λ q. bytes_eq q w) (parts_of paths) (hash_part_in path ∷ [])
      ∙ ap (λ b. b || list_any (λ q. bytes_eq q w) (hash_part_in path ∷ [])) there in
      is.marked w still;
  names_are = let long = names_of paths path names is.names_are in
      ap (λ n. take n names) long.1 ∙ ap (take (length (flat_map counted paths))) long.0 ∙ take-append_seam (flat_map counted paths) (counted path);
}

-- ---- the same paths

same_front : (m n : ℕ) (xs ys more others : List ℕ) → m ≡ length xs → n ≡ length ys → (m ∷ xs) ++ more ≡ (n ∷ ys) ++ others → (xs ≡ ys) × (more ≡ others)
same_front m n xs ys more others long wide same =
    let count : m ≡ n = cc in
    let tails : xs ++ more ≡ ys ++ others = cc in
    let as_long : length xs ≡ length ys = sym long ∙ count ∙ wide in (
      sym (take-append_seam xs more) ∙ ap (take (length xs)) tails ∙ ap (λ k. take k (ys ++ others)) as_long ∙ take-append_seam ys others,
      sym (drop-append_seam xs more) ∙ ap (drop (length xs)) tails ∙ ap (λ k. drop k (ys ++ others)) as_long ∙ drop-append_seam ys others,
    )

-- a path is its base name behind `/nix/store/`
behind_store : (path : List ℕ) → IsPath path → path ≡ codes "/nix/store/" ++ base_name path
behind_store path is = is.is ∙ parts_of-path_text is.hash_part is.name
    ∙ ap (λ name. codes "/nix/store/" ++ name) (sym (ap (drop 11) is.is ∙ drop-path_text is.hash_part is.name))

-- the base names of paths, each behind its length, are those of no others
same_paths : (xs ys : List (List ℕ)) → All IsPath xs → All IsPath ys → flat_map counted xs ≡ flat_map counted ys → xs ≡ ys
same_paths [] [] of_xs of_ys same = refl
same_paths [] (y ∷ ys) of_xs of_ys same = cc
same_paths (x ∷ xs) [] of_xs of_ys same = cc
same_paths (x ∷ xs) (y ∷ ys) of_xs of_ys same =
    let both = same_front (length (base_name x)) (length (base_name y)) (base_name x) (base_name y) (flat_map counted xs) (flat_map counted ys)
    refl refl same in
    let first : x ≡ y = behind_store x (All-head IsPath x xs of_xs) ∙ ap (λ name. codes "/nix/store/" ++ name) both.0
    ∙ sym (behind_store y (All-head IsPath y ys of_ys)) in
    let rest : xs ≡ ys = same_paths xs ys (All-tail IsPath x xs of_xs) (All-tail IsPath y ys of_ys) both.1 in
    ap (λ z. z ∷ xs) first ∙ ap (λ zs. y ∷ zs) rest

pub names_tell : (xs ys : List (List ℕ)) (one two : List ℕ) → All IsPath xs → All IsPath ys → one ≡ flat_map counted xs
    → two ≡ flat_map counted ys → bytes_eq one two ≡ pointwise bytes_eq xs ys
names_tell xs ys one two of_xs of_ys one_is two_is =
    let names = bytes_eq-Decides one two in
    let paths = slice_eq-Decides bytes_eq-Decides xs ys (pointwise bytes_eq xs ys) refl in
    both_ways (bytes_eq one two) (pointwise bytes_eq xs ys)
    (λ t. paths.1 (same_paths xs ys of_xs of_ys (sym one_is ∙ names.0 t ∙ two_is)))
    (λ t. names.1 (one_is ∙ ap (flat_map counted) (paths.0 t) ∙ sym two_is))

-- two sets, one of which has no table: they are the same where both are empty
pub none_tell : (ys : List (List ℕ)) → (length ys == 0) ≡ pointwise bytes_eq [] ys
none_tell [] = refl
none_tell (y ∷ ys) = eqb-suc-zero (length ys)

-- ---- the length of a base name

pub base_name_is_short : (path : List ℕ) → IsPath path → length (base_name path) < 256
unfolding path_text is_name
base_name_is_short path is =
    let ended : Bool = not (begins_with_dot is.name) && list_all is_name_byte is.name in
    let within = (and_parts (nat_lt 0 (length is.name)) (nat_le (length is.name) 211 && ended) is.named).1 in
    let few = leb-true (length is.name) 211 (and_parts (nat_le (length is.name) 211) ended within).0 in
    let front : length (codes "/nix/store/") ≡ 11 = refl in
    let long : length path ≡ length (codes "/nix/store/") + length (base32 is.hash_part ++ codes "-" ++ is.name) =
    ap length is.is ∙ length-append (codes "/nix/store/") (base32 is.hash_part ++ codes "-" ++ is.name) in
    let rest = length-append (base32 is.hash_part ++ codes "-") is.name in
    let digits = length-append (base32 is.hash_part) (codes "-") in
    let dash : length (codes "-") ≡ 1 = refl in
    let part = length-base32 is.hash_part in
    let behind = length-drop 11 path in
    omega (arith, few, front, long, rest, digits, dash, part, behind)

-- ---- what is added

-- a path is one of the keys whichever of the two is compared with the other
pub one_of_keys : (path : List ℕ) (keys : List (List ℕ)) → list_any (bytes_eq path) keys ≡ is_one_of keys path
one_of_keys path [] = refl
one_of_keys path (k ∷ keys) = rw (bytes_eq_sym path k, one_of_keys path keys) refl

-- ---- a group that is written

pub group_more : (old new : Groups) (part path : List ℕ) (group after : List (List ℕ)) → lookup (bytes_eq part) old ≡ Some group
    → ((q : List ℕ) → lookup (bytes_eq q) new ≡ cond (bytes_eq part q) (Some after) (lookup (bytes_eq q) old)) → after ≡ group ++ path ∷ []
    → HasOneMore part path old new
group_more old new part path group after there written pushed p =
    let now : group_at p new ≡ unwrap_or (cond (bytes_eq part p) (Some after) (lookup (bytes_eq p) old)) [] = ap (λ (g : Option (List (List ℕ))).
    unwrap_or g []) (written p) in
    elim (cases_Bool (bytes_eq part p)) [
      | inl same ↦
          let before : group_at p old ≡ group =
          ap (λ q. group_at q old) (sym ((bytes_eq-Decides part p).0 same)) ∙ ap (λ (g : Option (List (List ℕ))). unwrap_or g []) there in
          rw same (now ∙ ap (λ b. unwrap_or (cond b (Some after) (lookup (bytes_eq p) old)) []) same ∙ pushed ∙ ap (λ g. g ++ path ∷ []) (sym before))
      | inr other ↦ rw other (now ∙ ap (λ b. unwrap_or (cond b (Some after) (lookup (bytes_eq p) old)) []) other)
    ]
