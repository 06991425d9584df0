-- A record whose labels were replaced has a path and a tree.
use Rattle.std.proofs.Common.{◌≡◌, ◌⊎◌, ℕ, inl, inr, Bool, true, false, cond, List, [], ◌∷◌, map, refl, ap, sym, ◌∙◌, subst, arith, None, Option, Some, Ok, Err}
use Rattle.std.specs.Prelude.{bytes_eq}
use Rattle.std.proofs.lemmas.Bool.{or_cases, false≢true}
use Rattle.std.proofs.lemmas.List.Elements.{All-contains}
use Rattle.model.specs.declared.refusal.RewriteFault.{RewriteFault}
use Rattle.model.specs.declared.refusal.RewriteFault.TheVariants.{Accidental}
use Rattle.model.specs.Archives.{Tree, File, Link, Directory, Entries, NoEntries, Entry, HasBytes, HaveBytes, IsTree, bytes_before}
use Rattle.model.specs.Paths.{IsPath, is_name}
use Rattle.model.specs.Occurrences.{AreKeys, IsHashPart, among, fault}
use Rattle.model.specs.Substitutions.{Images, AreImages, keys_of, put, put_entries, is_true_put}
use Rattle.model.specs.Settling.{Settled, hash_part_in, name_in, sought, settling, settled}
use Rattle.model.specs.Worlds.{Label, Record}
use Rattle.model.specs.References.{labels_in_order, paths_of_labels, with_label}
use Rattle.model.specs.Repairs.{Replacement, images_of, new_label, new_labels, put_unless, substituted, rewritten, relabelled}
use Rattle.model.proofs.BoolLemmas.{either, same_bytes}
use Rattle.laws.proofs.MemberLemmas.{In, contains_of, from_map}
use Rattle.storepath.proofs.PathLemmas.{name_of-path_text}
use Rattle.rewrite.proofs.ApartLemmas.{are_settling, length-put, path_of_settled, settled_parts}
use Rattle.rewrite.proofs.PutTrees.{bytes_put, sound-put, depth-put}
use Rattle.rewrite.proofs.SettleLemmas.{keys-settling}
use Rattle.rewrite.proofs.OneTreeLemmas.{path_part}
use Rattle.records.specs.Sound.{IsSoundRecord}
use Rattle.closure_laws.specs.SoundPlans.{AreReplacements}
use Rattle.laws.proofs.ServedLemmas.{relabelled_cases}
use Rattle.laws.proofs.LabelLemmas.{from_least_label}

-- ---- trees

mutual
  bytes-put : (images : Images) → AreImages images → (tree : Tree) → HasBytes tree → HasBytes (put images tree)
  bytes-put images are (File executable bytes) h = bytes_put images are 0 bytes h
  bytes-put images are (Link target) h = bytes_put images are 0 target h
  bytes-put images are (Directory entries) h = bytes_entries-put images are entries h

  bytes_entries-put : (images : Images) → AreImages images → (entries : Entries) → HaveBytes entries → HaveBytes (put_entries images entries)
  bytes_entries-put images are NoEntries h = tt
  bytes_entries-put images are (Entry name tree others) h = (h.0, bytes-put images are tree h.1, bytes_entries-put images are others h.2)

-- a tree with images put in is a tree
pub tree-put : (images : Images) → AreImages images → (tree : Tree) → IsTree tree → fault (among (keys_of images)) tree ≡ None → IsTree (put images tree)
tree-put images are tree is none = record {
  bytes = bytes-put images are tree is.bytes;
  sound = sound-put images tree is.sound;
  depth = omega (arith, depth-put images tree, is.depth);
  length = omega (arith, length-put images are tree is none, is.length);
}

-- ---- paths

pub part_of_path : (path : List ℕ) → IsPath path → IsHashPart (hash_part_in path)
part_of_path path is = subst (λ p. IsHashPart (hash_part_in p)) (sym is.is) (path_part is.hash_part is.name)

pub name_of_path : (path : List ℕ) → IsPath path → is_name (name_in path) ≡ true
name_of_path path is = ap (λ p. is_name (name_in p)) is.is ∙ ap is_name (name_of-path_text is.hash_part is.name) ∙ is.named

-- ---- labels in order

from_with_label : (l x : Label) (ls : List Label) → In x (with_label l ls) → (l ≡ x) ⊎ In x ls
from_with_label l x [] h = elim h [ inl e ↦ inl e | inr never ↦ absurd never ]
from_with_label l x (first ∷ others) h = elim (either (bytes_before first.path l.path)) [
  | inl before ↦ elim (rw before at h) [
    | inl e ↦ inr (inl e)
    | inr behind ↦ elim (from_with_label l x others behind) [ inl e ↦ inl e | inr there ↦ inr (inr there) ]
  ]
  | inr late ↦ elim (either (bytes_eq first.path l.path)) [
    | inl same ↦ elim (rw (late, same) at h) [
      | inl e ↦ elim (from_least_label first l x e) [ inl is ↦ inr (inl is) | inr is ↦ inl is ]
      | inr behind ↦ inr (inr behind)
    ]
    | inr other ↦ elim (rw (late, other) at h) [ inl e ↦ inl e | inr there ↦ inr there ]
  ]
]

pub from_labels_in_order : (x : Label) (ls : List Label) → In x (labels_in_order ls) → In x ls
from_labels_in_order x [] h = absurd h
from_labels_in_order x (l ∷ ls) h = elim (from_with_label l x (labels_in_order ls) h) [ inl e ↦ inl e | inr there ↦ inr (from_labels_in_order x ls there) ]

-- the path of a label of replacements is that of one of them
pub from_new_labels : (path : List ℕ) (replacements : List Replacement) → In path (paths_of_labels (new_labels replacements))
    → (m : Replacement) × In m replacements × (m.path ≡ path)
from_new_labels path replacements h =
    let l = from_map (λ (l : Label). l.path) path (new_labels replacements) h in
    let m = from_map new_label l.0 replacements (from_labels_in_order l.0 (map new_label replacements) l.1) in
    (m.0, m.1, ap (λ (l : Label). l.path) m.2 ∙ l.2)

-- ---- keys and images

-- what is sought of paths are hash parts
keys_of_paths : (paths : List (List ℕ)) → ((path : List ℕ) → In path paths → IsPath path) → AreKeys (among (map hash_part_in paths))
keys_of_paths [] are w found = absurd (false≢true found)
keys_of_paths (p ∷ ps) are w found = elim (or_cases (bytes_eq (hash_part_in p) w) (among (map hash_part_in ps) w) found) [
  | inl here ↦ subst IsHashPart (same_bytes (hash_part_in p) w here) (part_of_path p (are p (inl refl)))
  | inr later ↦ keys_of_paths ps (λ path h. are path (inr h)) w later
]

pub keys_sought : (own : List ℕ) (candidates : List (List ℕ)) → IsHashPart own → ((path : List ℕ) → In path candidates → IsPath path)
    → AreKeys (among (sought own candidates))
keys_sought own candidates part are w found = elim (or_cases (bytes_eq own w) (among (map hash_part_in candidates) w) found) [
  | inl here ↦ subst IsHashPart (same_bytes own w here) part
  | inr later ↦ keys_of_paths candidates are w later
]

-- each label of replacements with its path, by hash parts
abbrev pub pairs : List Replacement → Images
pairs replacements = map (λ m. (hash_part_in m.label.path, hash_part_in m.path)) replacements

are_pairs : (replacements : List Replacement) → ((m : Replacement) → In m replacements → IsPath m.label.path × IsPath m.path) → AreImages (pairs replacements)
are_pairs [] are = tt
are_pairs (m ∷ ms) are =
    let here = are m (inl refl) in
    (part_of_path m.label.path here.0, part_of_path m.path here.1, are_pairs ms (λ n h. are n (inr h)))

pub are_images : (own : List ℕ) (replacements : List Replacement) → IsHashPart own
    → ((m : Replacement) → In m replacements → IsPath m.label.path × IsPath m.path)
    → AreImages (images_of own replacements)
are_images own replacements part are = (part, part, are_pairs replacements are)

-- ---- replacements of a sound record

pub paths_of_replacement : (r : Record) (replacements : List Replacement) → IsSoundRecord r → AreReplacements r.labels replacements
    → (m : Replacement) → In m replacements → IsPath m.label.path × IsPath m.path
paths_of_replacement r replacements sound are m h =
    let there = contains_of replacements m h in
    (All-contains (λ (l : Label). IsPath l.path) r.labels m.label sound.labels (are.labelled m there), are.paths m there)

cond_tree : (b : Bool) (x t : Tree) → cond b (Ok x) (Err Accidental) ≡ Ok t → (b ≡ true) × (x ≡ t)
cond_tree true x t e = (refl, cc)
cond_tree false x t e = cc

put_parts : (why : Option RewriteFault) (images : Images) (tree t : Tree) → put_unless why images tree ≡ Ok t
    → (why ≡ None) × (is_true_put images tree ≡ true) × (put images tree ≡ t)
put_parts (Some why) images tree t e = cc
put_parts None images tree t e = let made = cond_tree (is_true_put images tree) (put images tree) t e in (refl, made.0, made.1)

-- what is known of a repaired record: its images in its tree, and what that is settled as
pub record Parts (r : Record) (replacements : List Replacement) (tree : Tree) (s : Settled) : Type 0 where
  pub images : AreImages (images_of (hash_part_in r.path) replacements)
  pub true_put : is_true_put (images_of (hash_part_in r.path) replacements) r.tree ≡ true
  pub is_put : put (images_of (hash_part_in r.path) replacements) r.tree ≡ tree
  pub is_tree : IsTree tree
  pub own : IsHashPart (hash_part_in r.path)
  pub candidates : (path : List ℕ) → In path (paths_of_labels (new_labels replacements)) → IsPath path
  pub keys : AreKeys (among (sought (hash_part_in r.path) (paths_of_labels (new_labels replacements))))

pub parts_of : (r : Record) (replacements : List Replacement) (tree : Tree) (s : Settled) → IsSoundRecord r → AreReplacements r.labels replacements
    → rewritten r replacements ≡ Ok tree
    → Parts r replacements tree s
unfolding substituted
parts_of r replacements tree s sound are e =
    let own = hash_part_in r.path in
    let images = images_of own replacements in
    let parts = put_parts (fault (among (keys_of images)) r.tree) images r.tree tree e in
    let part = part_of_path r.path sound.path in
    let images_are = are_images own replacements part (paths_of_replacement r replacements sound are) in
    let candidates_are : (path : List ℕ) → In path (paths_of_labels (new_labels replacements)) → IsPath path = λ path h.
    let m = from_new_labels path replacements h in subst IsPath m.2 (are.paths m.0 (contains_of replacements m.0 m.1)) in
    record {
      images = images_are;
      true_put = parts.1;
      is_put = parts.2;
      is_tree = subst IsTree parts.2 (tree-put images images_are r.tree sound.tree parts.0);
      own = part;
      candidates = candidates_are;
      keys = keys_sought own (paths_of_labels (new_labels replacements)) part candidates_are;
    }

-- a tree that is settled is one
pub tree_of_settled : (tree : Tree) (own : List ℕ) (candidates : List (List ℕ)) (name : List ℕ) (s : Settled) → IsTree tree
    → AreKeys (among (sought own candidates)) → settled tree own candidates name ≡ Ok s → IsTree s.tree
tree_of_settled tree own candidates name s is keys done =
    let parts = settled_parts tree own candidates name s done in
    let images = are_settling own candidates s.path keys parts.3 in
    let none = ap (λ ks. fault (among ks) tree) (keys-settling own candidates s.path) ∙ parts.0 in
    subst IsTree parts.2 (tree-put (settling own candidates s.path) images tree is none)

-- a record whose labels were replaced has a path and a tree
pub relabelled_sound : (r : Record) (replacements : List Replacement) (q : Record) → IsSoundRecord r → AreReplacements r.labels replacements
    → relabelled r replacements ≡ Ok q → IsPath q.path × IsTree q.tree
relabelled_sound r replacements q sound are e = elim (relabelled_cases r replacements q e) [
  | inl same ↦ (subst (λ (z : Record). IsPath z.path) same.1 sound.path, subst (λ (z : Record). IsTree z.tree) same.1 sound.tree)
  | inr new ↦
      let own = hash_part_in r.path in
      let candidates = paths_of_labels (new_labels replacements) in
      let parts = parts_of r replacements new.put new.named sound are new.rewriting in
      let path = path_of_settled new.put own candidates (name_in r.path) new.named new.resettling (name_of_path r.path sound.path) in
      let tree = tree_of_settled new.put own candidates (name_in r.path) new.named parts.is_tree parts.keys new.resettling in
      (subst IsPath (sym new.path) path, subst IsTree (sym new.tree) tree)
]
