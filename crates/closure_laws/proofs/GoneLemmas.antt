-- A path that is replaced is gone.
use Rattle.std.proofs.Common.{◌≡◌, ℕ, zero, suc, ◌+◌, ◌-◌, ◌⊎◌, inl, inr, Bool, true, false, List, [], ◌∷◌, take, drop, map, refl, ap, sym, ◌∙◌, subst, arith, Contains, Ok}
use Rattle.std.specs.Prelude.{bytes_eq}
use Rattle.std.specs.List.{list_any}
use Rattle.std.proofs.lemmas.Bool.{cases_Bool, both_ways, or_left, or_right}
use Rattle.std.proofs.lemmas.List.{length-take, length-drop}
use Rattle.model.specs.Archives.{Tree, IsTree, nar}
use Rattle.model.specs.Occurrences.{Keys, AreKeys, IsHashPart, Place, among, places_in, pieces, occurrences}
use Rattle.model.specs.Substitutions.{Images, image_of, keys_of, is_replaced, put, is_true_put}
use Rattle.model.specs.Settling.{Settled, ShareNone, IsGone, places_of_path, hash_part_in, name_in, sought, settling, settled}
use Rattle.model.specs.Worlds.{Label, Record}
use Rattle.model.specs.References.{paths_of_labels}
use Rattle.model.specs.Repairs.{Replacement, changes_path as is_relabelled, images_of, new_labels}
use Rattle.model.proofs.BoolLemmas.{same_bytes, bytes_same, bytes_differ}
use Rattle.laws.proofs.MemberLemmas.{In, in_of, contains_of, in_left, in_right, in_map}
use Rattle.scan.proofs.PlaceLemmas.{places_in-here, places_in-none_here}
use Rattle.scan.proofs.PieceLemmas.{places_in-nar}
use Rattle.rewrite.specs.Laws.{window_at}
use Rattle.rewrite.proofs.ApartLemmas.{one_among, settled_parts, settling_leaves_others}
use Rattle.rewrite.proofs.KeepLemmas.{Standing, standing_in}
use Rattle.rewrite.proofs.KeyLemmas.{Found, Found-places_in}
use Rattle.rewrite.proofs.StayLemmas.{none_in_pieces, none_stays}
use Rattle.records.specs.Sound.{IsSoundRecord}
use Rattle.closure_laws.specs.SoundPlans.{AreReplacements, PartsTellApart}
use Rattle.closure_laws.specs.RepairLaws.{replaced_paths, ReplacedIsGone}
use Rattle.laws.proofs.ServedLemmas.{relabelled_cases}
use Rattle.closure_laws.proofs.TreeLemmas.{pairs, part_of_path, parts_of, paths_of_replacement, tree_of_settled}

-- ---- places and windows

-- a text with a key at an offset has a place
key_has_place : (keys : Keys) → AreKeys keys → (m n : ℕ) (text : List ℕ) → keys (take 32 (drop n text)) ≡ true → places_in keys m text ≡ [] → ⊥
key_has_place keys ok m n [] found none = absurd (omega (arith, (ok (take 32 (drop n [])) found).length, length-take {A = ℕ} 32 (drop n []), length-drop {A = ℕ} n []))
key_has_place keys ok m zero (b ∷ bs) found none = let no = sym (places_in-here keys m b bs found) ∙ none in absurd (cc)
key_has_place keys ok m (suc n) (b ∷ bs) found none = elim (cases_Bool (keys (take 32 (b ∷ bs)))) [
  | inl here ↦ let no = sym (places_in-here keys m b bs here) ∙ none in absurd (cc)
  | inr other ↦ key_has_place keys ok (m + 1) n bs found (sym (places_in-none_here keys m b bs other) ∙ none)
]

no_window : (keys : Keys) → AreKeys keys → (tree : Tree) → IsTree tree → occurrences keys tree ≡ [] → (n : ℕ) → keys (window_at tree n) ≡ true → ⊥
no_window keys ok tree is none n found = key_has_place keys ok 0 n (nar tree) found (places_in-nar keys ok tree is ∙ none)

found_at : (keys : Keys) (ps : List Place) → Found keys ps → (p : Place) → In p ps → keys p.1 ≡ true
found_at keys [] all p h = absurd h
found_at keys (q ∷ ps) all p h = elim h [ inl e ↦ subst (λ (z : Place). keys z.1 ≡ true) e all.0 | inr behind ↦ found_at keys ps all.1 p behind ]

standing_at : (text : List ℕ) (ps : List Place) → Standing 0 text ps → (p : Place) → In p ps → take 32 (drop p.0 text) ≡ p.1
standing_at text [] all p h = absurd h
standing_at text (q ∷ ps) all p h = elim h [
  | inl e ↦
      let none : q.0 ≡ q.0 - 0 = omega arith in
      subst (λ (z : Place). take 32 (drop z.0 text) ≡ z.1) e (ap (λ k. take 32 (drop k text)) none ∙ all.1)
  | inr behind ↦ standing_at text ps all.2 p behind
]

-- at each place of a key it stands in the archive
window_of : (keys : Keys) → AreKeys keys → (tree : Tree) → IsTree tree → (p : Place) → In p (occurrences keys tree)
    → (keys p.1 ≡ true) × (window_at tree p.0 ≡ p.1)
window_of keys ok tree is p h =
    let there : In p (places_in keys 0 (nar tree)) = subst (In p) (sym (places_in-nar keys ok tree is)) h in (
      found_at keys (places_in keys 0 (nar tree)) (Found-places_in keys 0 (nar tree)) p there,
      standing_at (nar tree) (places_in keys 0 (nar tree)) (standing_in keys 0 (nar tree)) p there,
    )

-- a place shares bytes with itself
shares_own : (n : ℕ) (ps : List Place) → ShareNone n ps → (p : Place) → In p ps → p.0 ≡ n → ⊥
shares_own n [] none p h e = absurd h
shares_own n (q ∷ ps) none p h e = elim h [
  | inl same ↦
      let at : q.0 ≡ n = ap (λ (z : Place). z.0) same ∙ e in
      elim none.0 [ inl before ↦ absurd (omega (arith, before, at)) | inr behind ↦ absurd (omega (arith, behind, at)) ]
  | inr behind ↦ shares_own n ps none.1 p behind e
]

-- ---- one hash part

one_key : (part : List ℕ) → IsHashPart part → AreKeys (among (part ∷ []))
one_key part is w found = subst IsHashPart (same_bytes part w (one_among part w found)) is

-- a hash part that images replace stands nowhere once they are put in
none_of : (images : Images) (tree : Tree) (part : List ℕ) → is_replaced images part ≡ true → is_true_put images tree ≡ true
    → occurrences (among (part ∷ [])) (put images tree) ≡ []
none_of images tree part is true_put =
    none_in_pieces (among (part ∷ [])) (is_replaced images)
    (λ w found. subst (λ v. is_replaced images v ≡ true) (same_bytes part w (one_among part w found)) is) 0 (pieces (put images tree))
    (ap (list_any (λ (p : Place). among (part ∷ []) p.1)) (none_stays images tree true_put))

replaced_of : (images : Images) (part image : List ℕ) → among (keys_of images) part ≡ true → image_of images part ≡ image → (image ≡ part → ⊥)
    → is_replaced images part ≡ true
replaced_of images part image key is differs = elim (cases_Bool (bytes_eq (image_of images part) part)) [
  | inl same ↦ absurd (differs (sym is ∙ same_bytes (image_of images part) part same))
  | inr other ↦ rw (key, other) refl
]

-- ---- what settling leaves gone

gone_settled : (tree : Tree) (own : List ℕ) (candidates : List (List ℕ)) (name : List ℕ) (s : Settled) (path : List ℕ) → IsTree tree
    → AreKeys (among (sought own candidates)) → IsHashPart (hash_part_in path) → settled tree own candidates name ≡ Ok s
    → (hash_part_in path ≡ own) ⊎ (occurrences (among (hash_part_in path ∷ [])) tree ≡ []) → IsGone path s.path s.tree
gone_settled tree own candidates name s path is keys part done where_gone p there apart =
    let k = hash_part_in path in
    let h : In p (places_of_path path s.tree) = in_of (places_of_path path s.tree) p there in
    let parts = settled_parts tree own candidates name s done in
    elim where_gone [
      | inl mine ↦ elim (cases_Bool (bytes_eq k (hash_part_in s.path))) [
        | inl same ↦
            let e = same_bytes k (hash_part_in s.path) same in
            shares_own p.0 (places_of_path s.path s.tree) apart p (subst (λ w. In p (occurrences (among (w ∷ [])) s.tree)) e h) refl
        | inr other ↦
            let images = settling own candidates s.path in
            let key : among (keys_of images) k ≡ true = or_left (bytes_eq own k) _ (subst (λ w. bytes_eq own w ≡ true) (sym mine) (bytes_same own)) in
            let image : image_of images k ≡ hash_part_in s.path = rw (subst (λ w. bytes_eq own w ≡ true) (sym mine) (bytes_same own)) refl in
            let replaced = replaced_of images k (hash_part_in s.path) key image (λ e. bytes_differ k (hash_part_in s.path) other (sym e)) in
            let none = none_of images tree k replaced parts.1 in
            let at : In p [] = subst (In p) none (subst (λ t. In p (occurrences (among (k ∷ [])) t)) (sym parts.2) h) in
            at
      ]
      | inr none ↦
          let after = window_of (among (k ∷ [])) (one_key k part) s.tree (tree_of_settled tree own candidates name s is keys done) p h in
          let before = settling_leaves_others tree own candidates name s is keys done p.0 apart in
          no_window (among (k ∷ [])) (one_key k part) tree is none p.0
          (subst (λ w. among (k ∷ []) w ≡ true) (sym (sym before ∙ after.1)) after.0)
    ]

-- ---- the image of a replaced path

-- all replacements of one hash part lead to one, so that is its image
image_in : (replacements : List Replacement) (part image : List ℕ)
    → ((m : Replacement) → In m replacements → hash_part_in m.label.path ≡ part → hash_part_in m.path ≡ image)
    → (m : Replacement) → In m replacements → hash_part_in m.label.path ≡ part → image_of (pairs replacements) part ≡ image
image_in [] part image all m h e = absurd h
image_in (x ∷ xs) part image all m h e = elim (cases_Bool (bytes_eq (hash_part_in x.label.path) part)) [
  | inl same ↦ rw same (all x (inl refl) (same_bytes (hash_part_in x.label.path) part same))
  | inr other ↦ rw other (elim h [
    | inl is ↦ absurd (bytes_differ (hash_part_in x.label.path) part other (ap (λ (z : Replacement). hash_part_in z.label.path) is ∙ e))
    | inr behind ↦ image_in xs part image (λ n there. all n (inr there)) m behind e
  ])
]

among_in : (replacements : List Replacement) (part : List ℕ) (m : Replacement) → In m replacements → hash_part_in m.label.path ≡ part
    → among (keys_of (pairs replacements)) part ≡ true
among_in [] part m h e = absurd h
among_in (x ∷ xs) part m h e = elim h [
  | inl is ↦ or_left (bytes_eq (hash_part_in x.label.path) part) _
      (subst (λ w. bytes_eq w part ≡ true) (sym (ap (λ (z : Replacement). hash_part_in z.label.path) is ∙ e)) (bytes_same part))
  | inr behind ↦ or_right (bytes_eq (hash_part_in x.label.path) part) _ (among_in xs part m behind e)
]

-- ---- a record whose labels were replaced

label_path_in : (r : Record) (replacements : List Replacement) → AreReplacements r.labels replacements → (m : Replacement) → In m replacements
    → Contains (replaced_paths r replacements) m.label.path
label_path_in r replacements are m h =
    contains_of (replaced_paths r replacements) m.label.path (in_left m.label.path (paths_of_labels r.labels) (map (λ (n : Replacement). n.path) replacements)
    (in_map (λ (l : Label). l.path) m.label r.labels (in_of r.labels m.label (are.labelled m (contains_of replacements m h)))))

new_path_in : (r : Record) (replacements : List Replacement) (m : Replacement) → In m replacements → Contains (replaced_paths r replacements) m.path
new_path_in r replacements m h =
    contains_of (replaced_paths r replacements) m.path (in_right m.path (paths_of_labels r.labels) (map (λ (n : Replacement). n.path) replacements)
    (in_map (λ (n : Replacement). n.path) m replacements h))

any_in : (p : Replacement → Bool) (m : Replacement) (replacements : List Replacement) → In m replacements → p m ≡ true → list_any p replacements ≡ true
any_in p m [] h t = absurd h
any_in p m (x ∷ replacements) h t = elim h [
  | inl e ↦ or_left (p x) (list_any p replacements) (subst (λ z. p z ≡ true) (sym e) t)
  | inr behind ↦ or_right (p x) (list_any p replacements) (any_in p m replacements behind t)
]

-- the images of a record replace the hash part of a label whose path is replaced
part_replaced : (r : Record) (replacements : List Replacement) → IsSoundRecord r → AreReplacements r.labels replacements
    → PartsTellApart (replaced_paths r replacements) → (m : Replacement) → In m replacements
    → bytes_eq m.path m.label.path ≡ false → bytes_eq (hash_part_in r.path) (hash_part_in m.label.path) ≡ false
    → is_replaced (images_of (hash_part_in r.path) replacements) (hash_part_in m.label.path) ≡ true
part_replaced r replacements sound are apart m h replaced other =
    let own = hash_part_in r.path in
    let k = hash_part_in m.label.path in
    let label = label_path_in r replacements are m h in
    let to_one : (n : Replacement) → In n replacements → hash_part_in n.label.path ≡ k → hash_part_in n.path ≡ hash_part_in m.path = λ n there e.
    let paths = apart n.label.path m.label.path (label_path_in r replacements are n there) label e in
    let first = contains_of replacements n there in
    let second = contains_of replacements m h in
    let labels = sound.once n.label m.label (are.labelled n first) (are.labelled m second) paths in
    ap hash_part_in (are.alike n m first second labels) in
    let image : image_of (images_of own replacements) k ≡ hash_part_in m.path = rw other (image_in replacements k (hash_part_in m.path) to_one m h refl) in
    let key : among (keys_of (images_of own replacements)) k ≡ true = or_right (bytes_eq own k) _ (among_in replacements k m h refl) in
    replaced_of (images_of own replacements) k (hash_part_in m.path) key image
    (λ e. bytes_differ m.path m.label.path replaced (apart m.path m.label.path (new_path_in r replacements m h) label e))

pub replaced_is_gone : ReplacedIsGone
replaced_is_gone r replacements q sound are apart e m there replaced =
    let h = in_of replacements m there in
    elim (relabelled_cases r replacements q e) [
      | inl same ↦ absurd (both_ways (list_any is_relabelled replacements) same.0 (any_in is_relabelled m replacements h (rw replaced refl)))
      | inr new ↦
          let own = hash_part_in r.path in
          let k = hash_part_in m.label.path in
          let candidates = paths_of_labels (new_labels replacements) in
          let parts = parts_of r replacements new.put new.named sound are new.rewriting in
          let part = part_of_path m.label.path (paths_of_replacement r replacements sound are m h).0 in
          let where_gone : (k ≡ own) ⊎ (occurrences (among (k ∷ [])) new.put ≡ []) = elim (cases_Bool (bytes_eq own k)) [
            | inl mine ↦ inl (sym (same_bytes own k mine))
            | inr other ↦
                let is = part_replaced r replacements sound are apart m h replaced other in
                inr (subst (λ t. occurrences (among (k ∷ [])) t ≡ []) parts.is_put (none_of (images_of own replacements) r.tree k is parts.true_put))
          ] in
          let gone = gone_settled new.put own candidates (name_in r.path) new.named m.label.path parts.is_tree parts.keys part new.resettling where_gone in
          subst (λ path. IsGone m.label.path path q.tree) (sym new.path) (subst (λ t. IsGone m.label.path new.named.path t) (sym new.tree) gone)
    ]
