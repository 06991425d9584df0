-- Candidates: a set of sources and other labels stand for a label for each path.
use Rattle.std.proofs.Common.{◌≡◌, ℕ, Bool, true, false, cond, inl, inr, List, [], ◌∷◌, ◌++◌, map, refl, sym, ap, ◌∙◌, All}
use Rattle.std.specs.Prelude.{◌||◌, bytes_eq, filter}
use Rattle.std.proofs.lemmas.List.Elements.{filter-append, All-nil, All-cons, All-head, All-filter, All-append, All-contains}
use Rattle.std.proofs.lemmas.List.Folds.{list_any-append}
use Rattle.model.specs.Archives.{bytes_before}
use Rattle.model.specs.Classes.{is_one_of}
use Rattle.model.specs.Laws.{AreOneSet}
use Rattle.model.specs.Occurrences.{among}
use Rattle.model.specs.Paths.{IsPath}
use Rattle.model.specs.Worlds.{Label}
use Rattle.model.specs.References.{labels_in_order, labels_of, least_label, paths_of_labels, with_label}
use Rattle.model.proofs.BoolLemmas.{either, bytes_same, same_bytes}
use Rattle.laws.proofs.LabelLemmas.{from_labels_in_order, labels_in_order_have}
use Rattle.laws.proofs.MapLemmas.{both_ways, in_of_among, among_of_in}
use Rattle.laws.proofs.MemberLemmas.{In, contains_of, in_map, from_map, in_filter, from_filter}
use Rattle.records.specs.Ordered.{source_label}
use Rattle.records.specs.Recorded.{AreInPathOrder}
use Rattle.records.proofs.PathOrderLemmas.{before_all, labels_are_in_order, least_path, pairs_head, pairs_tail}
use Rattle.outputs.specs.Outputs.{candidates_of}
use Rattle.outputs.proofs.SameLemmas.{order, past, onto, ahead, commute_paths}

in_of_one : (paths : List (List ℕ)) (x : List ℕ) → is_one_of paths x ≡ true → In x paths
in_of_one = in_of_among

one_of_in : (paths : List (List ℕ)) (x : List ℕ) → In x paths → is_one_of paths x ≡ true
one_of_in = among_of_in

all_from_members : (paths : List (List ℕ)) → ((x : List ℕ) → In x paths → IsPath x) → All IsPath paths
all_from_members [] all = All-nil IsPath
all_from_members (p ∷ ps) all = All-cons IsPath p ps (all p (inl refl)) (all_from_members ps (λ x h. all x (inr h)))

-- ---- source labels in front, in any order and however often

twice : (path : List ℕ) (xs : List Label) → with_label (source_label path) (with_label (source_label path) xs) ≡ with_label (source_label path) xs
twice path [] = onto (source_label path) (source_label path) [] (bytes_same path)
twice path (f ∷ fs) =
    let l = source_label path in
    elim (order f.path path) [
      | inl t ↦ ap (with_label l) (past l f fs t) ∙ past l f (with_label l fs) t ∙ ap (λ rest. f ∷ rest) (twice path fs) ∙ sym (past l f fs t)
      | inr (inl s) ↦ ap (with_label l) (onto l f fs s) ∙ onto l f fs s ∙ sym (onto l f fs s)
      | inr (inr t) ↦ ap (with_label l) (ahead l f fs t) ∙ onto l l (f ∷ fs) (bytes_same path) ∙ sym (ahead l f fs t)
    ]

swapped : (one other : List ℕ) (xs : List Label)
    → with_label (source_label one) (with_label (source_label other) xs) ≡ with_label (source_label other) (with_label (source_label one) xs)
swapped one other xs = elim (order one other) [
  | inl t ↦ commute_paths (source_label one) (source_label other) t xs
  | inr (inl s) ↦ let same = same_bytes one other s in
      ap (λ p. with_label (source_label p) (with_label (source_label other) xs)) same ∙ ap (λ p. with_label (source_label other) (with_label (source_label p) xs)) (sym same)
  | inr (inr t) ↦ sym (commute_paths (source_label other) (source_label one) t xs)
]

-- the labels of sources put before others
abbrev put : List (List ℕ) → List Label → List Label
put [] labels = labels
put (p ∷ ps) labels = with_label (source_label p) (put ps labels)

put_is : (sources : List (List ℕ)) (others : List Label) → put sources (labels_in_order others) ≡ candidates_of sources others
put_is [] others = refl
put_is (p ∷ ps) others = ap (with_label (source_label p)) (put_is ps others)

past_all : (p : List ℕ) (ps : List (List ℕ)) (labels : List Label) → with_label (source_label p) (put ps labels) ≡ put ps (with_label (source_label p) labels)
past_all p [] labels = refl
past_all p (q ∷ qs) labels = swapped p q (put qs labels) ∙ ap (with_label (source_label q)) (past_all p qs labels)

absorbed : (p : List ℕ) (ps : List (List ℕ)) (labels : List Label) → In p ps → with_label (source_label p) (put ps labels) ≡ put ps labels
absorbed p [] labels never = absurd never
absorbed p (q ∷ qs) labels (inl here) = ap (λ r. with_label (source_label r) (with_label (source_label q) (put qs labels))) (sym here) ∙ twice q (put qs labels)
absorbed p (q ∷ qs) labels (inr later) = swapped p q (put qs labels) ∙ ap (with_label (source_label q)) (absorbed p qs labels later)

all_absorbed : (ps qs : List (List ℕ)) (labels : List Label) → ((x : List ℕ) → In x ps → In x qs) → put ps (put qs labels) ≡ put qs labels
all_absorbed [] qs labels within = refl
all_absorbed (p ∷ ps) qs labels within =
    ap (with_label (source_label p)) (all_absorbed ps qs labels (λ x h. within x (inr h))) ∙ absorbed p qs labels (within p (inl refl))

all_past : (ps qs : List (List ℕ)) (labels : List Label) → put ps (put qs labels) ≡ put qs (put ps labels)
all_past [] qs labels = refl
all_past (p ∷ ps) qs labels = ap (with_label (source_label p)) (all_past ps qs labels) ∙ past_all p qs (put ps labels)

-- the same sources give the same labels
same_sources : (ps qs : List (List ℕ)) (others : List Label) → ((x : List ℕ) → In x ps → In x qs) → ((x : List ℕ) → In x qs → In x ps)
    → candidates_of ps others ≡ candidates_of qs others
same_sources ps qs others there back =
    let labels = labels_in_order others in
    sym (put_is ps others) ∙ sym (all_absorbed qs ps labels back) ∙ sym (all_past ps qs labels) ∙ all_absorbed ps qs labels there ∙ put_is qs others

-- ---- those of some paths

module _ (paths : List (List ℕ)) where
  abbrev chosen : Label → Bool
  chosen l = is_one_of paths l.path

  abbrev IsBefore : Label → Label → Type 0
  IsBefore k l = bytes_before k.path l.path ≡ true

  front : (l : Label) (ls : List Label) → All (λ m. bytes_before l.path m.path ≡ true) ls → with_label l ls ≡ l ∷ ls
  front l [] all = refl
  front l (f ∷ fs) all = ahead l f fs (All-head (λ (m : Label). bytes_before l.path m.path ≡ true) f fs all)

  -- a label of none of the paths is not among those chosen, and one of them is put among them
  chosen_with : (l : Label) (ls : List Label) → AreInPathOrder ls
      → filter chosen (with_label l ls) ≡ cond (chosen l) (with_label l (filter chosen ls)) (filter chosen ls)
  chosen_with l [] h = elim (either (chosen l)) [ inl t ↦ rw t refl | inr f ↦ rw f refl ]
  chosen_with l (f ∷ fs) h =
      let rest : List Label = filter chosen fs in
      elim (order f.path l.path) [
        | inl t ↦
            let later = chosen_with l fs (pairs_tail f fs h) in
            ap (filter chosen) (past l f fs t) ∙ (elim (either (chosen f)) [
              | inl c ↦ rw c (ap (λ ls. f ∷ ls) later ∙ (elim (either (chosen l)) [
                | inl d ↦ rw d (sym (past l f rest t))
                | inr d ↦ rw d refl
              ]))
              | inr c ↦ rw c later
            ])
        | inr (inl s) ↦
            let same : chosen f ≡ chosen l = ap (is_one_of paths) (same_bytes f.path l.path s) in
            let least : chosen (least_label f l) ≡ chosen l = least_path (λ p. is_one_of paths p ≡ is_one_of paths l.path) f l same refl in
            ap (filter chosen) (onto l f fs s) ∙ (elim (either (chosen l)) [
              | inl d ↦ rw (least ∙ d, d, same ∙ d) (sym (onto l f rest s))
              | inr d ↦ rw (least ∙ d, d, same ∙ d) refl
            ])
        | inr (inr t) ↦
            let after : All (IsBefore l) (f ∷ fs) = All-cons (IsBefore l) f fs t (before_all l f fs t (pairs_head f fs h)) in
            ap (filter chosen) (ahead l f fs t) ∙ (elim (either (chosen l)) [
              | inl d ↦ rw d (sym (front l (filter chosen (f ∷ fs)) (All-filter chosen (IsBefore l) (f ∷ fs) after)))
              | inr d ↦ rw d refl
            ])
      ]

  pub chosen_all : (ls : List Label) → filter chosen (labels_in_order ls) ≡ labels_in_order (filter chosen ls)
  chosen_all [] = refl
  chosen_all (l ∷ ls) =
      chosen_with l (labels_in_order ls) (labels_are_in_order ls) ∙ (elim (either (chosen l)) [
        | inl t ↦ rw t (ap (with_label l) (chosen_all ls))
        | inr f ↦ rw f (chosen_all ls)
      ])

  chosen_sources : (sources : List (List ℕ)) → filter chosen (map source_label sources) ≡ map source_label (filter (is_one_of paths) sources)
  chosen_sources [] = refl
  chosen_sources (s ∷ ss) = elim (either (is_one_of paths s)) [
    | inl t ↦ rw t (ap (λ rest. source_label s ∷ rest) (chosen_sources ss))
    | inr f ↦ rw f (chosen_sources ss)
  ]

  -- those of the paths that are sources, and the others of the paths, stand for the labels of the paths
  pub chosen_are : (sources : List (List ℕ)) (others : List Label)
      → labels_in_order (map source_label (filter (is_one_of sources) paths) ++ labels_of paths others) ≡ labels_of paths (candidates_of sources others)
  chosen_are sources others =
      let there : (x : List ℕ) → In x (filter (is_one_of sources) paths) → In x (filter (is_one_of paths) sources) = λ x h.
      (let w = from_filter (is_one_of sources) x paths h in in_filter (is_one_of paths) x sources (in_of_one sources x w.1) (one_of_in paths x w.0)) in
      let back : (x : List ℕ) → In x (filter (is_one_of paths) sources) → In x (filter (is_one_of sources) paths) = λ x h.
      (let w = from_filter (is_one_of paths) x sources h in in_filter (is_one_of sources) x paths (in_of_one paths x w.1) (one_of_in sources x w.0)) in
      same_sources (filter (is_one_of sources) paths) (filter (is_one_of paths) sources) (labels_of paths others) there back
      ∙ ap (λ ls. labels_in_order (ls ++ labels_of paths others)) (sym (chosen_sources sources))
      ∙ ap labels_in_order (sym (filter-append chosen (map source_label sources) others)) ∙ sym (chosen_all (map source_label sources ++ others))

-- ---- labels that are in order

pub in_order_already : (labels : List Label) → AreInPathOrder labels → candidates_of [] labels ≡ labels
in_order_already [] h = refl
in_order_already (l ∷ ls) h = ap (with_label l) (in_order_already ls (pairs_tail l ls h)) ∙ front [] l ls (pairs_head l ls h)

-- ---- the paths

in_paths : (labels : List Label) (x : List ℕ) → among (paths_of_labels labels) x ≡ true → (l : Label) × In l labels × (l.path ≡ x)
in_paths labels x t = from_map (λ (l : Label). l.path) x labels (in_of_among (paths_of_labels labels) x t)

paths_have : (labels : List Label) (l : Label) (x : List ℕ) → In l labels → l.path ≡ x → among (paths_of_labels labels) x ≡ true
paths_have labels l x here is = ap (among (paths_of_labels labels)) (sym is) ∙ among_of_in (paths_of_labels labels) l.path (in_map (λ (m : Label). m.path) l labels here)

-- those of the labels in order are those of the labels
in_order_paths : (labels : List Label) → AreOneSet (paths_of_labels labels) (paths_of_labels (labels_in_order labels))
in_order_paths labels x =
    both_ways (among (paths_of_labels labels) x) (among (paths_of_labels (labels_in_order labels)) x)
    (λ t. let w = in_paths labels x t in let m = labels_in_order_have labels w.0 w.1 in paths_have (labels_in_order labels) m.0 x m.1 (m.2 ∙ w.2))
    (λ t. let w = in_paths (labels_in_order labels) x t in paths_have labels w.0 x (from_labels_in_order labels w.0 w.1) w.2)

source_paths : (sources : List (List ℕ)) (others : List Label) → paths_of_labels (map source_label sources ++ others) ≡ sources ++ paths_of_labels others
source_paths [] others = refl
source_paths (s ∷ ss) others = ap (λ rest. s ∷ rest) (source_paths ss others)

swap_or : (a b : Bool) → (a || b) ≡ (b || a)
swap_or true true = refl
swap_or true false = refl
swap_or false true = refl
swap_or false false = refl

-- the paths of both, in either order, are those of the candidates
pub paths_are : (sources : List (List ℕ)) (others : List Label) → AreOneSet (paths_of_labels others ++ sources) (paths_of_labels (candidates_of sources others))
paths_are sources others x =
    list_any-append (λ p. bytes_eq p x) (paths_of_labels others) sources ∙ swap_or (among (paths_of_labels others) x) (among sources x)
    ∙ sym (list_any-append (λ p. bytes_eq p x) sources (paths_of_labels others)) ∙ ap (λ ps. among ps x) (sym (source_paths sources others))
    ∙ in_order_paths (map source_label sources ++ others) x

-- and all of them are paths, where those of both are
pub all_paths : (sources : List (List ℕ)) (others : List Label) → All IsPath sources → All IsPath (paths_of_labels others)
    → All IsPath (paths_of_labels (candidates_of sources others))
all_paths sources others these those =
    let both : All IsPath (paths_of_labels others ++ sources) = All-append IsPath (paths_of_labels others) sources those these in
    all_from_members (paths_of_labels (candidates_of sources others)) (λ x h.
    All-contains IsPath (paths_of_labels others ++ sources) x both
    (contains_of (paths_of_labels others ++ sources) x (in_of_among (paths_of_labels others ++ sources) x
    (paths_are sources others x ∙ among_of_in (paths_of_labels (candidates_of sources others)) x h))))
