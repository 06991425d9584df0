-- The closure that a goal is built from can be told, and its trees are in the table.
use Rattle.std.proofs.Common.{◌≡◌, ℕ, Bool, true, false, List, [], ◌∷◌, ◌++◌, length, refl, sym, ◌∙◌, ap, subst, arith, inl, inr, Option, Some, None}
use Rattle.std.specs.Prelude.{All, ◌&&◌, map, bytes_eq, nat_le}
use Rattle.std.specs.List.{list_any}
use Rattle.std.proofs.lemmas.Grind.{not_there}
use Rattle.std.proofs.lemmas.Bool.Decides.{nat_tests}
use Rattle.std.proofs.lemmas.List.Folds.{Any-from_list_any, list_any-from_Any}
use Rattle.std.proofs.lemmas.List.Elements.{All-head, All-tail, All-push}
use Rattle.model.specs.Limits.{most_entries}
use Rattle.model.specs.Archives.{nar}
use Rattle.model.specs.Worlds.{Source, Label, Record, Entry, OfRecord, path_of_entry, tree_at}
use Rattle.model.specs.Closures.{entry_before, class_of_entry, path_of_class}
use Rattle.model.proofs.BoolLemmas.{either, same_bytes, bytes_same, both_parts}
use Rattle.laws.proofs.SetLemmas.{Ascends}
use Rattle.store.specs.Stored.{put_all, put_once, IsTaken}
use Rattle.handlers.specs.Stored.{source_of_entry, AreTaken}
use Rattle.handlers.specs.Sound.{IsClosure, IsStored}
use Rattle.handlers.specs.Taking.{has_built, with_built}

-- ---- a closure that is there

-- whether two classes, or none, have one path
abbrev same_option : Option (List ℕ) → Option (List ℕ) → Bool
same_option None None = true
same_option None (Some b) = false
same_option (Some a) None = false
same_option (Some a) (Some b) = bytes_eq a b

option_is : (a b : Option (List ℕ)) → same_option a b ≡ true → a ≡ b
option_is None None t = refl
option_is None (Some b) t = cc
option_is (Some a) None t = cc
option_is (Some a) (Some b) t = ap Some (same_bytes a b t)

option_same : (a : Option (List ℕ)) → same_option a a ≡ true
option_same None = refl
option_same (Some a) = bytes_same a

abbrev is_labelled : Label → Entry → Bool
is_labelled l e = bytes_eq (path_of_entry e) l.path && same_option (path_of_class (class_of_entry e)) (path_of_class l.class)

ascends_there : (entries : List Entry) → ¬ (¬ (Ascends entry_before entries)) → Ascends entry_before entries
ascends_there [] there = tt
ascends_there (x ∷ xs) there = (
  λ y h. elim (either (entry_before x y)) [
    | inl t ↦ t
    | inr f ↦ absurd (there (λ all. (let no : false ≡ true = sym f ∙ all.0 y h in cc)))
  ],
  ascends_there xs (λ none. there (λ all. none all.1)),
)

-- what is said of a closure can be told
pub closure_there : (entries : List Entry) → ∥ IsClosure entries ∥₁ → IsClosure entries
closure_there entries closure = record {
  whole = record {
    one_path = λ q r a b same. elim (either (bytes_eq q.path r.path)) [
      | inl t ↦ same_bytes q.path r.path t
      | inr f ↦ absurd (not_there closure (λ is.
          (let t : bytes_eq q.path r.path ≡ true = rw (is.whole.one_path q r a b same) (bytes_same r.path) in
          let no : false ≡ true = sym f ∙ t in cc)))
    ];
    labelled = λ a l inside of. elim (either (list_any (is_labelled l) entries)) [
      | inl t ↦
          let w = Any-from_list_any (is_labelled l) entries t in
          let parts = both_parts (bytes_eq (path_of_entry w.1) l.path) (same_option (path_of_class (class_of_entry w.1)) (path_of_class l.class)) w.4 in
          (w.0, w.1, w.2, w.3, (same_bytes (path_of_entry w.1) l.path parts.0, option_is (path_of_class (class_of_entry w.1)) (path_of_class l.class) parts.1))
      | inr f ↦ absurd (not_there closure (λ is.
          (let w = is.whole.labelled a l inside of in
          let test : is_labelled l w.1 ≡ true = rw (w.4.0, w.4.1, bytes_same l.path) (option_same (path_of_class l.class)) in
          let no : false ≡ true = sym f ∙ list_any-from_Any (is_labelled l) entries (w.0, w.1, w.2, w.3, test) in cc)))
    ];
  };
  in_order = ascends_there entries (λ none. not_there closure (λ is. none is.in_order));
  few = elim (either (nat_le (length entries) most_entries)) [
    | inl t ↦ grind (arith, nat_tests, t)
    | inr f ↦ absurd (not_there closure (λ is. (let few = is.few in grind (arith, nat_tests, f, few))))
  ];
}

-- ---- entries whose trees are in the table

once_stored : (table : List Source) (e : Entry) → IsStored table e → put_once (source_of_entry e) table ≡ table
once_stored table e there = rw there refl

pub put_stored : (table : List Source) (entries : List Entry) → All (IsStored table) entries → put_all (map source_of_entry entries) table ≡ table
put_stored table [] all = refl
put_stored table (e ∷ es) all =
    ap (put_all (map source_of_entry es)) (once_stored table e (All-head (IsStored table) e es all)) ∙ put_stored table es (All-tail (IsStored table) e es all)

-- no other tree is at one of their paths
none_taken_behind : (table before : List Source) (s : Source) (behind : List Source) (entries : List Entry) → All (IsStored table) entries
    → map source_of_entry entries ≡ before ++ s ∷ behind → IsTaken (put_all before table) s.path s.tree → ⊥
none_taken_behind table [] s behind [] all parts taken = cc
none_taken_behind table [] s behind (e ∷ es) all parts taken =
    let same : source_of_entry e ≡ s = cc in
    let there : tree_at s.path table ≡ Some s.tree = subst (λ (x : Source). tree_at x.path table ≡ Some x.tree) same (All-head (IsStored table) e es all) in
    let two : Some taken.had ≡ Some s.tree = sym taken.there ∙ there in
    let trees : taken.had ≡ s.tree = cc in
    taken.other (ap nar trees)
none_taken_behind table (b ∷ before) s behind [] all parts taken = cc
none_taken_behind table (b ∷ before) s behind (e ∷ es) all parts taken =
    let same : source_of_entry e ≡ b = cc in
    let rest : map source_of_entry es ≡ before ++ s ∷ behind = cc in
    let put : put_once b table ≡ table = subst (λ (x : Source). put_once x table ≡ table) same (once_stored table e (All-head (IsStored table) e es all)) in
    none_taken_behind table before s behind es (All-tail (IsStored table) e es all) rest (subst (λ t. IsTaken (put_all before t) s.path s.tree) put taken)

pub none_taken : (table : List Source) (entries : List Entry) → All (IsStored table) entries → AreTaken table (map source_of_entry entries) → ⊥
none_taken table entries all are = none_taken_behind table are.before are.source are.behind entries all are.parts are.taken

-- so are those with the tree of a record more
pub built_stored : (table : List Source) (entries : List Entry) (q : Record) → All (IsStored table) entries → tree_at q.path table ≡ Some q.tree
    → All (IsStored table) (with_built entries q)
built_stored table entries q all there = elim (either (has_built entries q)) [
  | inl t ↦ rw t all
  | inr f ↦ rw f (All-push (IsStored table) entries (OfRecord q) all there)
]
