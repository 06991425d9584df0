-- The one image that settling needs: the hash part of self-references becomes that of the path, and all others stay.
use Rattle.std.proofs.Common.{◌≡◌, inl, inr, ◌⊎◌, Bool, true, false, cond, ℕ, List, [], ◌∷◌, ◌++◌, map, refl, ap, sym, subst, ◌∙◌}
use Rattle.std.specs.Prelude.{◌||◌, ◌&&◌, not, filter}
use Rattle.std.specs.List.{list_any, flat_map}
use Rattle.std.specs.Str.{bytes_eq}
use Rattle.std.specs.Cmp.Lexicographic.{pointwise}
use Rattle.std.proofs.lemmas.Bool.{cases_Bool, or_cases}
use Rattle.std.proofs.lemmas.Bool.{or_left, or_right}
use Rattle.std.proofs.lemmas.List.Folds.{list_any-append}
use Rattle.model.specs.Archives.{bytes_before}
use Rattle.model.specs.Occurrences.{AreKeys, IsHashPart, Place, Keys, among}
use Rattle.model.specs.Orders.{set_of}
use Rattle.model.specs.Substitutions.{AreImages, Images, written, are_true, image_of, imaged, is_replaced, keys_of, parts_of, same_place}
use Rattle.model.specs.Settling.{hash_part_in, references_of, settling, sought, stands_in}
use Rattle.model.proofs.BoolLemmas.{bytes_same, same_bytes}
use Rattle.laws.proofs.MapLemmas.{both_ways, kept_image, parts_split}
use Rattle.laws.proofs.MemberLemmas.{In, in_left, in_right, in_append, in_filter, from_filter, in_flat_map, from_flat_map}
use Rattle.laws.proofs.SetLemmas.{same_set}
use Rattle.path_sets.specs.PathSets.{with_part}
use Rattle.rewrite.specs.Laws.{text_with}
use Rattle.rewrite.specs.Settled.{HasPartsOf, has_part}
use Rattle.model.specs.Paths.{IsPath}
use Rattle.rewrite.proofs.OneTreeLemmas.{path_part}
use Rattle.rewrite.proofs.SettleLemmas.{keys-settling}

map-append : (xs ys : List (List ℕ)) → map hash_part_in (xs ++ ys) ≡ map hash_part_in xs ++ map hash_part_in ys
map-append [] ys = refl
map-append (x ∷ xs) ys = ap (λ rest. hash_part_in x ∷ rest) (map-append xs ys)

-- what is sought for a list and a set
pub sought_both : (self_part : List ℕ) (listed found : List (List ℕ)) → sought self_part (listed ++ found) ≡ sought self_part listed ++ map hash_part_in found
sought_both self_part listed found = ap (λ rest. self_part ∷ rest) (map-append listed found)

and_false : (b : Bool) → false ≡ (b && false)
and_false true = refl
and_false false = refl

module _ (self_part : List ℕ) (candidates : List (List ℕ)) (path : List ℕ) where
  abbrev part : List ℕ
  part = hash_part_in path

  abbrev one : Images
  one = (self_part, hash_part_in path) ∷ []

  abbrev all : Images
  all = settling self_part candidates path

  kept_are : (cs : List (List ℕ)) → AreKeys (among (map hash_part_in cs)) → AreImages (map (λ c. (hash_part_in c, hash_part_in c)) cs)
  kept_are [] keys = tt
  kept_are (c ∷ cs) keys =
      let here = keys (hash_part_in c) (or_left (bytes_eq (hash_part_in c) (hash_part_in c)) (among (map hash_part_in cs) (hash_part_in c)) (bytes_same (hash_part_in c))) in
      (here, here, kept_are cs (λ w t. keys w (or_right (bytes_eq (hash_part_in c) w) (among (map hash_part_in cs) w) t)))

  -- all of them are hash parts
  pub images_are : AreKeys (among (sought self_part candidates)) → IsPath path → AreImages all
  images_are keys is = (
    keys self_part (or_left (bytes_eq self_part self_part) (among (map hash_part_in candidates) self_part) (bytes_same self_part)),
    subst (λ p. IsHashPart (hash_part_in p)) (sym is.is) (path_part is.hash_part is.name),
    kept_are candidates (λ w t. keys w (or_right (bytes_eq self_part w) (among (map hash_part_in candidates) w) t)),
  )

  image_alike : (w : List ℕ) → image_of one w ≡ image_of all w
  image_alike w = elim (cases_Bool (bytes_eq self_part w)) [
    | inl t ↦ rw t refl
    | inr f ↦ rw f (sym (kept_image candidates w))
  ]

  pub images_same : image_of one ≡ image_of all
  images_same = λ i w. image_alike w i

  replaced_alike : (w : List ℕ) → is_replaced one w ≡ is_replaced all w
  replaced_alike w = elim (cases_Bool (bytes_eq self_part w)) [
    | inl t ↦ rw t refl
    | inr f ↦ rw (f, kept_image candidates w, bytes_same w) (and_false (among (keys_of (map (λ c. (hash_part_in c, hash_part_in c)) candidates)) w))
  ]

  pub replaced_same : is_replaced one ≡ is_replaced all
  replaced_same = λ i w. replaced_alike w i

  pub true_same : (old new : List Place) → are_true one old new ≡ are_true all old new
  true_same old new = λ i. pointwise same_place new (map (λ (p : Place). (p.0, images_same i p.1)) old) && not (list_any (λ (p : Place). replaced_same i p.1) new)

  pub text_same : (places : List Place) (text : List ℕ) → text_with one places text ≡ text_with all places text
  text_same places text = λ i. written 0 (map (λ (p : Place). (p.0, images_same i p.1)) places) text

  -- ---- what is sought in the new tree

  images_within : (keys : List (List ℕ)) (w : List ℕ) → among (map (image_of one) keys) w ≡ true → (among keys w ≡ true) ⊎ (bytes_eq part w ≡ true)
  images_within [] w t = absurd (cc)
  images_within (k ∷ ks) w t = elim (or_cases (bytes_eq (image_of one k) w) (among (map (image_of one) ks) w) t) [
    | inl here ↦ elim (cases_Bool (bytes_eq self_part k)) [
      | inl same ↦ inr (ap (λ b. bytes_eq (cond b part k) w) (sym same) ∙ here)
      | inr other ↦ inl (ap (λ b. b || among ks w) (ap (λ b. bytes_eq (cond b part k) w) (sym other) ∙ here))
    ]
    | inr later ↦ elim (images_within ks w later) [ inl a ↦ inl (or_right (bytes_eq k w) (among ks w) a) | inr p ↦ inr p ]
  ]

  image_of_self : image_of all self_part ≡ part
  image_of_self = ap (λ b. cond b part (image_of (map (λ c. (hash_part_in c, hash_part_in c)) candidates) self_part)) (bytes_same self_part)

  new_parts : (w : List ℕ) → among (parts_of all) w ≡ (among (sought self_part candidates) w || bytes_eq part w)
  new_parts w =
      let keys : keys_of all ≡ sought self_part candidates = keys-settling self_part candidates path in
      let split : among (parts_of all) w ≡ (among (sought self_part candidates) w || among (map (image_of all) (sought self_part candidates)) w) =
      parts_split all w ∙ ap (λ ks. among ks w || among (map (image_of all) ks) w) keys in
      split ∙ both_ways (among (sought self_part candidates) w || among (map (image_of all) (sought self_part candidates)) w) (among (sought self_part candidates) w || bytes_eq part w)
      (λ t. elim (or_cases (among (sought self_part candidates) w) (among (map (image_of all) (sought self_part candidates)) w) t) [
        | inl a ↦ or_left (among (sought self_part candidates) w) (bytes_eq part w) a
        | inr b ↦ elim (images_within (sought self_part candidates) w (ap (λ f. among (map f (sought self_part candidates)) w) images_same ∙ b)) [
          | inl a ↦ or_left (among (sought self_part candidates) w) (bytes_eq part w) a
          | inr p ↦ or_right (among (sought self_part candidates) w) (bytes_eq part w) p
        ]
      ])
      (λ t. elim (or_cases (among (sought self_part candidates) w) (bytes_eq part w) t) [
        | inl a ↦ or_left (among (sought self_part candidates) w) (among (map (image_of all) (sought self_part candidates)) w) a
        | inr p ↦ or_right (among (sought self_part candidates) w) (among (map (image_of all) (sought self_part candidates)) w)
            (or_left (bytes_eq (image_of all self_part) w) (among (map (image_of all) (map hash_part_in candidates)) w) (ap (λ q. bytes_eq q w) image_of_self ∙ p))
      ])

move_last : (a p f : Bool) → ((a || (p || false)) || f) ≡ ((a || f) || p)
move_last true p f = refl
move_last false true true = refl
move_last false true false = refl
move_last false false true = refl
move_last false false false = refl

-- the new hash part beside what is sought for a list and a set
pub parts_same : (self_part : List ℕ) (listed found : List (List ℕ)) (path : List ℕ)
    → among ((sought self_part listed ++ hash_part_in path ∷ []) ++ map hash_part_in found) ≡ among (parts_of (settling self_part (listed ++ found) path))
parts_same self_part listed found path = λ i w.
    let part = hash_part_in path in
    let first : among ((sought self_part listed ++ part ∷ []) ++ map hash_part_in found) w ≡ ((among (sought self_part listed) w || (bytes_eq part w || false)) || among (map hash_part_in found) w) =
    list_any-append (λ q. bytes_eq q w) (sought self_part listed ++ part ∷ []) (map hash_part_in found)
    ∙ ap (λ b. b || among (map hash_part_in found) w) (list_any-append (λ q. bytes_eq q w) (sought self_part listed) (part ∷ [])) in
    let both : among (sought self_part (listed ++ found)) w ≡ (among (sought self_part listed) w || among (map hash_part_in found) w) =
    ap (λ ks. among ks w) (sought_both self_part listed found) ∙ list_any-append (λ q. bytes_eq q w) (sought self_part listed) (map hash_part_in found) in
    (first ∙ move_last (among (sought self_part listed) w) (bytes_eq part w) (among (map hash_part_in found) w)
    ∙ ap (λ b. b || bytes_eq part w) (sym both) ∙ sym (new_parts self_part (listed ++ found) path w)) i

-- ---- references

any_in : (q : List ℕ) (ps : List (List ℕ)) → list_any (bytes_eq q) ps ≡ true → (p : List ℕ) × In p ps × (bytes_eq q p ≡ true)
any_in q [] t = absurd (cc)
any_in q (p ∷ ps) t = elim (or_cases (bytes_eq q p) (list_any (bytes_eq q) ps) t) [
  | inl same ↦ (p, inl refl, same)
  | inr later ↦ let rest = any_in q ps later in (rest.0, inr rest.1, rest.2)
]

in_any : (q p : List ℕ) (ps : List (List ℕ)) → In p ps → bytes_eq q p ≡ true → list_any (bytes_eq q) ps ≡ true
in_any q p [] never same = absurd never
in_any q p (x ∷ xs) (inl here) same = or_left (bytes_eq q x) (list_any (bytes_eq q) xs) (ap (bytes_eq q) here ∙ same)
in_any q p (x ∷ xs) (inr later) same = or_right (bytes_eq q x) (list_any (bytes_eq q) xs) (in_any q p xs later same)

-- the candidates with one of the hash parts: those of the list, and those of the set under each hash part
pub references_are : (listed found : List (List ℕ)) (places : List Place) (parts : List (List ℕ)) → HasPartsOf places parts
    → set_of bytes_before (filter (has_part parts) listed ++ flat_map (λ part. with_part part found) parts) ≡ references_of (listed ++ found) places
references_are listed found places parts has =
    let stands : List ℕ → Bool = λ path. stands_in places (hash_part_in path) in
    same_set (filter (has_part parts) listed ++ flat_map (λ part. with_part part found) parts) (filter stands (listed ++ found))
    (λ x h. elim (in_append x (filter (has_part parts) listed) (flat_map (λ part. with_part part found) parts) h) [
      | inl left ↦ let w = from_filter (has_part parts) x listed left in in_filter stands x (listed ++ found) (in_left x listed found w.0) (sym (has (hash_part_in x)) ∙ w.1)
      | inr right ↦
          let p = from_flat_map (λ part. with_part part found) x parts right in
          let w = from_filter (λ path. bytes_eq (hash_part_in path) p.0) x found p.2 in
          in_filter stands x (listed ++ found) (in_right x listed found w.0) (sym (has (hash_part_in x)) ∙ in_any (hash_part_in x) p.0 parts p.1 w.1)
    ])
    (λ x h.
    let w = from_filter stands x (listed ++ found) h in
    let there : has_part parts x ≡ true = has (hash_part_in x) ∙ w.1 in
    elim (in_append x listed found w.0) [
      | inl left ↦ in_left x (filter (has_part parts) listed) (flat_map (λ part. with_part part found) parts) (in_filter (has_part parts) x listed left there)
      | inr right ↦
          let p = any_in (hash_part_in x) parts there in
          in_right x (filter (has_part parts) listed) (flat_map (λ part. with_part part found) parts)
          (in_flat_map (λ part. with_part part found) p.0 x parts p.1 (in_filter (λ path. bytes_eq (hash_part_in path) p.0) x found right p.2))
    ])
