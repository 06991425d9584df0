-- Records of outputs: they are sound, their paths were made by texts that are hashed, and they label what is on the desk.
use Rattle.std.proofs.Common.{◌≡◌, ◌⊎◌, ℕ, Bool, true, inl, inr, refl, sym, ap, ◌∙◌, subst, List, [], ◌∷◌, ◌++◌, Option, None, Some, Ok}
use Rattle.std.specs.Prelude.{All, Contains, map, bytes_eq}
use Rattle.std.specs.List.{list_any, list_all}
use Rattle.hashmod.proofs.FoldLemmas.{IsFolded-short_digest}
use Rattle.model.specs.Archives.{Tree, IsTree}
use Rattle.model.specs.Paths.{Kind, IsPath, is_name, fingerprint, short_digest, store_path}
use Rattle.model.specs.Settling.{Settled, hash_part_in}
use Rattle.model.specs.Derivations.{Derivation, name_of}
use Rattle.model.specs.Classes.{Class, Admission, is_one_of}
use Rattle.model.specs.Worlds.{Source, Label, Record, Entry, OfSource, OfRecord, Resolved, Desk, known_of, same_class, same_label}
use Rattle.model.specs.References.{is_input_class, refers_to, records_below, label_of_source, label_of_record, candidates, paths_of_labels, labels_of}
use Rattle.model.specs.Outputs.{settled_under, record_for, texts_under}
use Rattle.model.specs.Endings.{label_of_entry, labels_from}
use Rattle.model.specs.FinishedBuilds.{is_labelled_by, for_class}
use Rattle.model.proofs.BoolLemmas.{both_parts, same_bytes}
use Rattle.laws.proofs.MemberLemmas.{In, from_any, in_append, from_map, from_filter}
use Rattle.laws.proofs.LabelLemmas.{from_labels_in_order}
use Rattle.laws.proofs.AllReachedLemmas.{reached_member}
use Rattle.rewrite.proofs.ApartLemmas.{path_of_settled}
use Rattle.records.specs.Recorded.{AreInPathOrder}
use Rattle.records.proofs.PathOrderLemmas.{labels_are_in_order, chosen_in_order, once}
use Rattle.closure_laws.proofs.TreeLemmas.{part_of_path, keys_sought, tree_of_settled}
use Rattle.closure_laws.proofs.MadeLemmas.{all_from}
use Rattle.closure_laws.proofs.PrintedLemmas.{output_printed}
use Rattle.closure_laws.proofs.HeldLemmas.{IsMadePath, IsMadeRecord, IsMadeEntry, HasSource, HasLabelled, HasClosure, IsHeld, below_label}

-- ---- paths

-- a path of a kind and a content, with a name
pub path_of : (kind : Kind) (digest name : List ℕ) → is_name name ≡ true → IsPath (store_path kind digest name)
path_of kind digest name named = record {
  hash_part = short_digest (fingerprint kind digest name);
  name = name;
  folded = IsFolded-short_digest (fingerprint kind digest name);
  named = named;
  is = refl;
}

-- ---- an output

-- labels whose paths were made, one for a path
pub record AreMadeLabels (texts : List (List ℕ)) (labels : List Label) : Type 0 where
  pub made : (l : Label) → In l labels → IsMadePath texts l.path
  pub ordered : AreInPathOrder labels

module _ (texts : List (List ℕ)) (under : List ℕ) (labels : List Label) (a : Admission) (tree : Tree) (s : Settled) (path : IsPath under)
    (named : is_name (name_of a.derivation) ≡ true) (is_tree : IsTree tree) (are : AreMadeLabels texts labels)
    (done : settled_under under labels a tree ≡ Ok s) (hashed : All (Contains texts) (texts_under under labels a tree)) where
  abbrev own : List ℕ
  own = hash_part_in under

  abbrev references : List (List ℕ)
  references = paths_of_labels labels

  abbrev name : List ℕ
  name = name_of a.derivation

  candidate_path : (p : List ℕ) → In p references → IsPath p
  candidate_path p h = let w = from_map (λ (l : Label). l.path) p labels h in subst IsPath w.2 (are.made w.0 w.1).0

  -- among the labels are those that the record has
  abbrev chosen : List Label
  chosen = labels_of s.references labels

  chosen_label : (l : Label) → In l chosen → IsMadePath texts l.path
  chosen_label l h = are.made l (from_filter (λ (k : Label). is_one_of s.references k.path) l labels h).0

  pub made_output : IsMadeRecord texts (record_for labels a s)
  made_output = record {
    sound = record {
      tree = tree_of_settled tree own references name s is_tree (keys_sought own references (part_of_path under path) candidate_path) done;
      path = path_of_settled tree own references name s done named;
      labels = all_from (λ (l : Label). IsPath l.path) chosen (λ l h. (chosen_label l h).0);
      once = once chosen (chosen_in_order s.references labels are.ordered);
    };
    path = (path_of_settled tree own references name s done named, output_printed texts s tree own references name done hashed);
    labels = chosen_label;
  }

-- an output labels the sources among what it may refer to
pub output_labelled : (sources : List Source) (labels : List Label) (a : Admission) (s : Settled)
    → ((l : Label) → In l labels → l.class ≡ None → HasSource sources l.path) → HasLabelled sources (record_for labels a s)
output_labelled sources labels a s has path below =
    let l = below_label (record_for labels a s) path below in
    subst (HasSource sources) l.3 (has l.0 (from_filter (λ (k : Label). is_one_of s.references k.path) l.0 labels l.1).0 l.2)

-- ---- what an output that is offered may refer to

no_class : (r : Record) (l : Label) → label_of_record r ≡ l → l.class ≡ None → ⊥
no_class r l e none = let no : Some r.class ≡ None = ap (λ (k : Label). k.class) e ∙ none in cc

candidate_of : (d : Desk) (x : Derivation) (l : Label) → In l (candidates d x)
    → ((s : Source) × In s d.sources × (label_of_source s ≡ l)) ⊎ ((r : Record) × In r d.records × (label_of_record r ≡ l))
unfolding candidates
candidate_of d x l h =
    let first : List Label = map label_of_source d.sources in
    let rest : List Label = map label_of_record (records_below d x) in
    elim (in_append l first rest (from_labels_in_order (first ++ rest) l h)) [
      | inl a ↦ inl (from_map label_of_source l d.sources a)
      | inr b ↦
          let w = from_map label_of_record l (records_below d x) b in
          inr (w.0, reached_member (λ (r : Record). is_input_class (known_of d) x r.class.path) refers_to d.records w.0 w.1, w.2)
    ]

candidates_ordered : (d : Desk) (x : Derivation) → AreInPathOrder (candidates d x)
unfolding candidates
candidates_ordered d x = labels_are_in_order (map label_of_source d.sources ++ map label_of_record (records_below d x))

pub candidates_made : (texts : List (List ℕ)) (d : Desk) (x : Derivation) → IsHeld texts d → AreMadeLabels texts (candidates d x)
candidates_made texts d x is = record {
  made = λ l h. elim (candidate_of d x l h) [
    | inl s ↦ subst (λ (k : Label). IsMadePath texts k.path) s.2 (is.sources s.0 s.1)
    | inr r ↦ subst (λ (k : Label). IsMadePath texts k.path) r.2 (is.records r.0 r.1).path
  ];
  ordered = candidates_ordered d x;
}

pub candidate_source : (d : Desk) (x : Derivation) (l : Label) → In l (candidates d x) → l.class ≡ None → HasSource d.sources l.path
candidate_source d x l h none = elim (candidate_of d x l h) [
  | inl s ↦ (s.0, s.1, ap (λ (k : Label). k.path) s.2)
  | inr r ↦ absurd (no_class r.0 l r.2 none)
]

-- ---- what an output of a goal may refer to

made_label : (texts : List (List ℕ)) (e : Entry) → IsMadeEntry texts e → IsMadePath texts (label_of_entry e).path
made_label texts (OfSource s) made = made
made_label texts (OfRecord r) made = made.path

pub closure_made : (texts : List (List ℕ)) (r : Resolved) → ((e : Entry) → In e r.closure → IsMadeEntry texts e) → AreMadeLabels texts (labels_from r)
closure_made texts r made = record {
  made = λ l h.
      let w = from_map label_of_entry l r.closure (from_labels_in_order (map label_of_entry r.closure) l h) in
      subst (λ (k : Label). IsMadePath texts k.path) w.2 (made_label texts w.0 (made w.0 w.1));
  ordered = labels_are_in_order (map label_of_entry r.closure);
}

label_source : (e : Entry) (l : Label) → label_of_entry e ≡ l → l.class ≡ None → (s : Source) × (e ≡ OfSource s) × (s.path ≡ l.path)
label_source (OfSource s) l is none = (s, refl, ap (λ (k : Label). k.path) is)
label_source (OfRecord r) l is none = absurd (no_class r l is none)

pub closure_source : (sources : List Source) (r : Resolved) → HasClosure sources r → (l : Label) → In l (labels_from r) → l.class ≡ None
    → HasSource sources l.path
closure_source sources r has l h none =
    let w = from_map label_of_entry l r.closure (from_labels_in_order (map label_of_entry r.closure) l h) in
    let s = label_source w.0 l w.2 none in
    subst (HasSource sources) s.2 (has s.0 (subst (λ e. In e r.closure) s.1 w.1))

-- ---- builds that are used again

all_pass : {X : Type 0} (test : X → Bool) (xs : List X) → list_all test xs ≡ true → (x : X) → In x xs → test x ≡ true
all_pass test [] h x k = absurd k
all_pass test (y ∷ xs) h x k =
    let parts = both_parts (test y) (list_all test xs) h in
    elim k [ inl e ↦ subst (λ z. test z ≡ true) e parts.0 | inr r ↦ all_pass test xs parts.1 x r ]

source_class : (a b : Option Class) → a ≡ None → same_class a b ≡ true → b ≡ None
source_class None None e same = refl
source_class None (Some c) e same = absurd (cc)
source_class (Some c) b e same = absurd (cc)

-- what is labelled by a closure labels sources of it
pub labelled_closure : (sources : List Source) (r : Resolved) (q : Record) → HasClosure sources r → is_labelled_by r q ≡ true → HasLabelled sources q
labelled_closure sources r q has labelled path below =
    let l = below_label q path below in
    let some : list_any (same_label l.0) (labels_from r) ≡ true = all_pass (λ k. list_any (same_label k) (labels_from r)) q.labels labelled l.0 l.1 in
    let k = from_any (same_label l.0) (labels_from r) some in
    let same = both_parts (bytes_eq l.0.path k.0.path) (same_class l.0.class k.0.class) k.2 in
    let there = closure_source sources r has k.0 k.1 (source_class l.0.class k.0.class l.2 same.1) in
    subst (HasSource sources) (sym (same_bytes l.0.path k.0.path same.0) ∙ l.3) there

-- the same output for another class
pub made_for_class : (texts : List (List ℕ)) (c : Class) (q : Record) → IsMadeRecord texts q → IsMadeRecord texts (for_class c q)
made_for_class texts c q is = record {
  sound = record { tree = is.sound.tree; path = is.sound.path; labels = is.sound.labels; once = is.sound.once };
  path = is.path;
  labels = is.labels;
}

pub labelled_for_class : (sources : List Source) (c : Class) (q : Record) → HasLabelled sources q → HasLabelled sources (for_class c q)
labelled_for_class sources c q has path below = has path below
