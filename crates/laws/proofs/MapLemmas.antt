-- Images are a map, and candidates a set: their order does not matter, nor how often one is listed.
use Rattle.std.proofs.Common.{◌≡◌, ℕ, zero, suc, Bool, true, false, inl, inr, refl, sym, ◌∙◌, ap, subst, List, [], ◌∷◌, ◌++◌, take, map, Result, Ok, Err}
use Rattle.std.specs.Prelude.{◌||◌, ◌&&◌, not, bytes_eq, if◌then◌else◌}
use Rattle.std.specs.List.{list_any}
use Rattle.std.specs.Cmp.Lexicographic.{pointwise}
use Rattle.std.proofs.lemmas.Bool.{or_left, or_right}
use Rattle.std.proofs.lemmas.List.Folds.{list_any-append}
use Rattle.sha2.specs.Sha256.{sha256}
use Rattle.model.specs.declared.refusal.RewriteFault.{RewriteFault}
use Rattle.model.specs.declared.refusal.RewriteFault.TheVariants.{Accidental}
use Rattle.model.specs.Archives.{Tree, File, Link, Directory, Entries, NoEntries, Entry, nar}
use Rattle.model.specs.Paths.{Output, store_path, with_fingerprint}
use Rattle.model.specs.Occurrences.{Keys, among, Place, occurrences, fault}
use Rattle.model.specs.Substitutions.{Images, image_of, keys_of, parts_of, put_from, put_text, put, put_entries, same_place, is_true_put}
use Rattle.model.specs.Settling.{Settled, blanked_text, hash_part_in, sought, self_offsets_of, references_of, stands_in, settled_path, settling, settled_at, unless, settled, path_texts, unless_refused, settling_texts}
use Rattle.model.specs.Laws.{AreOneSet, SettlingIsBySet, AreOneMap, PuttingIsByMap}
use Rattle.model.proofs.BoolLemmas.{either, or_cases, same_bytes, bytes_same}
use Rattle.laws.proofs.MemberLemmas.{In}
use Rattle.laws.proofs.SetLemmas.{same_filtered}

-- ---- members

pub both_ways : (a b : Bool) → (a ≡ true → b ≡ true) → (b ≡ true → a ≡ true) → a ≡ b
both_ways true b to from = sym (to refl)
both_ways false true to from = from refl
both_ways false false to from = refl

pub in_of_among : (xs : List (List ℕ)) (x : List ℕ) → among xs x ≡ true → In x xs
in_of_among [] x h = absurd (cc)
in_of_among (y ∷ ys) x h = elim (or_cases (bytes_eq y x) (among ys x) h) [ inl e ↦ inl (same_bytes y x e) | inr r ↦ inr (in_of_among ys x r) ]

pub among_of_in : (xs : List (List ℕ)) (x : List ℕ) → In x xs → among xs x ≡ true
among_of_in [] x h = absurd h
among_of_in (y ∷ ys) x h = elim h [
  | inl e ↦ or_left _ _ (subst (λ z. bytes_eq y z ≡ true) e (bytes_same y))
  | inr r ↦ or_right _ _ (among_of_in ys x r)
]

member_of : (some others : List (List ℕ)) → AreOneSet some others → (x : List ℕ) → In x some → In x others
member_of some others same x h = in_of_among others x (sym (same x) ∙ among_of_in some x h)

-- a member whose image by a function this is
from_image : (f : List ℕ → List ℕ) (xs : List (List ℕ)) (w : List ℕ) → among (map f xs) w ≡ true → (x : List ℕ) × (among xs x ≡ true) × (f x ≡ w)
from_image f [] w h = absurd (cc)
from_image f (x ∷ xs) w h = elim (or_cases (bytes_eq (f x) w) (among (map f xs) w) h) [
  | inl e ↦ (x, or_left _ _ (bytes_same x), same_bytes (f x) w e)
  | inr r ↦ let s = from_image f xs w r in (s.0, or_right _ _ s.1, s.2)
]

to_image : (f : List ℕ → List ℕ) (xs : List (List ℕ)) (x w : List ℕ) → among xs x ≡ true → f x ≡ w → among (map f xs) w ≡ true
to_image f [] x w h e = absurd (cc)
to_image f (y ∷ ys) x w h e = elim (or_cases (bytes_eq y x) (among ys x) h) [
  | inl same ↦ or_left _ _ (subst (λ z. bytes_eq (f y) z ≡ true) (ap f (same_bytes y x same) ∙ e) (bytes_same (f y)))
  | inr r ↦ or_right _ _ (to_image f ys x w r e)
]

image_goes : (f g : List ℕ → List ℕ) (xs ys : List (List ℕ)) → ((x : List ℕ) → f x ≡ g x) → AreOneSet xs ys → (w : List ℕ)
    → among (map f xs) w ≡ true → among (map g ys) w ≡ true
image_goes f g xs ys alike same w h = let s = from_image f xs w h in to_image g ys s.0 w (sym (same s.0) ∙ s.1) (sym (alike s.0) ∙ s.2)

-- the images of one set by one function are one set
images_are_one : (f g : List ℕ → List ℕ) (xs ys : List (List ℕ)) → ((x : List ℕ) → f x ≡ g x) → AreOneSet xs ys → AreOneSet (map f xs) (map g ys)
images_are_one f g xs ys alike same w =
    both_ways (among (map f xs) w) (among (map g ys) w) (image_goes f g xs ys alike same w)
    (image_goes g f ys xs (λ x. sym (alike x)) (λ x. sym (same x)) w)

-- ---- substitution

-- the images of the keys
pub images_listed : (f : List ℕ → List ℕ) (images : Images) → map (λ e. f e.0) images ≡ map f (keys_of images)
images_listed f [] = refl
images_listed f (e ∷ es) = ap (λ t. f e.0 ∷ t) (images_listed f es)

pub parts_split : (images : Images) (w : List ℕ) → among (parts_of images) w ≡ (among (keys_of images) w || among (map (image_of images) (keys_of images)) w)
parts_split images w =
    list_any-append (λ part. bytes_eq part w) (keys_of images) (map (λ e. image_of images e.0) images)
    ∙ ap (λ t. among (keys_of images) w || among t w) (images_listed (image_of images) images)

module _ (some others : Images) (one : AreOneMap some others) where
  keys_same : among (keys_of some) ≡ among (keys_of others)
  keys_same = λ i key. (one.keys key) i

  images_same : image_of some ≡ image_of others
  images_same = λ i key. (one.images key) i

  part_same : (w : List ℕ) → among (parts_of some) w ≡ among (parts_of others) w
  part_same w =
      let images : AreOneSet (map (image_of some) (keys_of some)) (map (image_of others) (keys_of others)) =
      images_are_one (image_of some) (image_of others) (keys_of some) (keys_of others) one.images one.keys in
      parts_split some w
      ∙ ap (λ b. b || among (map (image_of some) (keys_of some)) w) (one.keys w)
      ∙ ap (λ b. among (keys_of others) w || b) (images w)
      ∙ sym (parts_split others w)

  parts_same : among (parts_of some) ≡ among (parts_of others)
  parts_same = λ i w. (part_same w) i

  from_same : (k : ℕ) (text : List ℕ) → put_from some k text ≡ put_from others k text
  unfolding put_from
  from_same k [] = refl
  from_same (suc k) (b ∷ bs) = from_same k bs
  from_same zero (b ∷ bs) = λ i.
      if keys_same i (take 32 (b ∷ bs)) then images_same i (take 32 (b ∷ bs)) ++ from_same 31 bs i else b ∷ from_same zero bs i

  text_same : (text : List ℕ) → put_text some text ≡ put_text others text
  text_same text = from_same zero text

  mutual
    tree_same : (tree : Tree) → put some tree ≡ put others tree
    tree_same (File executable bytes) = ap (File executable) (text_same bytes)
    tree_same (Link target) = ap Link (text_same target)
    tree_same (Directory entries) = ap Directory (entries_same entries)

    entries_same : (entries : Entries) → put_entries some entries ≡ put_entries others entries
    entries_same NoEntries = refl
    entries_same (Entry name tree rest) = λ i. Entry name (tree_same tree i) (entries_same rest i)

  true_same : (tree : Tree) → is_true_put some tree ≡ is_true_put others tree
  true_same tree = λ i.
      let old : List Place = occurrences (keys_same i) tree in
      let new : List Place = occurrences (parts_same i) (tree_same tree i) in
      pointwise same_place new (map (λ (p : Place). (p.0, images_same i p.1)) old)
      && not (list_any (λ (p : Place). keys_same i p.1 && not (bytes_eq (images_same i p.1) p.1)) new)

pub puts_the_same : PuttingIsByMap
puts_the_same some others one =
    record { text = text_same some others one; tree = tree_same some others one; is_true = true_same some others one }

-- ---- settling

pub kept_image : (candidates : List (List ℕ)) (w : List ℕ) → image_of (map (λ c. (hash_part_in c, hash_part_in c)) candidates) w ≡ w
kept_image [] w = refl
kept_image (c ∷ cs) w = elim (either (bytes_eq (hash_part_in c) w)) [
  | inl t ↦ rw t (same_bytes (hash_part_in c) w t)
  | inr f ↦ rw f (kept_image cs w)
]

kept_keys : (candidates : List (List ℕ)) → keys_of (map (λ c. (hash_part_in c, hash_part_in c)) candidates) ≡ map hash_part_in candidates
kept_keys [] = refl
kept_keys (c ∷ cs) = ap (λ t. hash_part_in c ∷ t) (kept_keys cs)

module _ (own : List ℕ) (some others : List (List ℕ)) (one : AreOneSet some others) where
  sought_one : AreOneSet (sought own some) (sought own others)
  sought_one w = ap (λ b. bytes_eq own w || b) (images_are_one hash_part_in hash_part_in some others (λ x. refl) one w)

  settling_one : (path : List ℕ) → AreOneMap (settling own some path) (settling own others path)
  settling_one path = record {
    keys = λ w. ap (λ ks. among (own ∷ ks) w) (kept_keys some) ∙ sought_one w ∙ sym (ap (λ ks. among (own ∷ ks) w) (kept_keys others));
    images = λ w. ap (λ v. if bytes_eq own w then hash_part_in path else v) (kept_image some w ∙ sym (kept_image others w));
  }

  sought_same : among (sought own some) ≡ among (sought own others)
  sought_same = λ i w. (sought_one w) i

  references_same : (places : List Place) → references_of some places ≡ references_of others places
  references_same places =
      same_filtered (λ path. stands_in places (hash_part_in path)) some others (member_of some others one) (member_of others some (λ x. sym (one x)))

  module _ (tree : Tree) (name : List ℕ) (places : List Place) where
    path_same : settled_path tree own some name places ≡ settled_path tree own others name places
    unfolding settled_path
    path_same =
        ap (λ refs. store_path (Output refs (stands_in places own)) (sha256 (blanked_text (self_offsets_of own places) (nar tree))) name) (references_same places)

    at_same : settled_at tree own some name places ≡ settled_at tree own others name places
    at_same =
        let with_path : List ℕ → Result Settled RewriteFault = λ path.
        if is_true_put (settling own some path) tree
        then Ok (record { path = path; tree = put (settling own some path) tree; references = references_of some places; self_offsets = self_offsets_of own places })
        else Err Accidental in
        let path : List ℕ = settled_path tree own others name places in
        let same = puts_the_same (settling own some path) (settling own others path) (settling_one path) in
        let last : with_path path ≡ settled_at tree own others name places = λ i.
        if same.is_true tree i
        then Ok (record { path = path; tree = same.tree tree i; references = references_same places i; self_offsets = self_offsets_of own places })
        else Err Accidental in
        ap with_path path_same ∙ last

    texts_same : path_texts tree own some name places ≡ path_texts tree own others name places
    texts_same =
        ap (λ refs. with_fingerprint (Output refs (stands_in places own)) (blanked_text (self_offsets_of own places) (nar tree)) name) (references_same places)

pub settled_by_set : SettlingIsBySet
unfolding settled settling_texts
settled_by_set tree own some others name one =
    let keys : Keys = among (sought own others) in
    let same = sought_same own some others one in (
      ap (λ (k : Keys). unless (fault k tree) (settled_at tree own some name (occurrences k tree))) same
          ∙ ap (unless (fault keys tree)) (at_same own some others one tree name (occurrences keys tree)),
      ap (λ (k : Keys). unless_refused (fault k tree) (path_texts tree own some name (occurrences k tree))) same
          ∙ ap (unless_refused (fault keys tree)) (texts_same own some others one tree name (occurrences keys tree)),
    )
