-- Looking a source up on the desks of a view.
use Rattle.std.proofs.Common.{◌≡◌, ℕ, Bool, true, false, inl, inr, refl, sym, ◌∙◌, ap, subst, List, [], ◌∷◌, ◌++◌, Option, Some, None}
use Rattle.std.specs.Prelude.{bytes_eq, map, find, is_some}
use Rattle.std.specs.List.{list_any}
use Rattle.std.specs.Borrow.{Bor}
use Rattle.std.proofs.lemmas.List.Elements.{All-head, All-tail}
use Rattle.model.specs.Archives.{Tree}
use Rattle.model.specs.Worlds.{Source, tree_at}
use Rattle.laws.proofs.MemberLemmas.{In, in_left}
use Rattle.model.proofs.BoolLemmas.{either, same_bytes}
use Rattle.realise.specs.Holdings.{Holdings, paths_of}
use Rattle.choose.specs.Visible.{Visible, seen, desks_of, IsStored, IsDeskStored, AreStored, is_source_on, source_in}
use Rattle.records.specs.Trees.{source_at}
use Rattle.choose.proofs.ChoosingLemmas.{all_in, false_true}

find_append : (p : Source → Bool) (xs ys : List Source) → find p xs ≡ None → find p (xs ++ ys) ≡ find p ys
find_append p [] ys e = refl
find_append p (x ∷ xs) ys e = elim (either (p x)) [ inl t ↦ (let no = rw t at e in absurd (cc)) | inr f ↦ rw f (find_append p xs ys (rw f at e)) ]

find_first : (p : Source → Bool) (xs ys : List Source) (s : Source) → find p xs ≡ Some s → find p (xs ++ ys) ≡ Some s
find_first p [] ys s e = absurd (cc)
find_first p (x ∷ xs) ys s e = elim (either (p x)) [ inl t ↦ rw t (rw t at e) | inr f ↦ rw f (find_first p xs ys s (rw f at e)) ]

abbrev at : List ℕ → Source → Bool
at path s = bytes_eq s.path path

on_desk : (table : List Source) (path : List ℕ) (paths : List (List ℕ)) → list_any (λ p. bytes_eq p path) paths ≡ true
    → find (at path) (map (source_at table) paths) ≡ Some (source_at table path)
on_desk table path [] h = absurd (cc)
on_desk table path (p ∷ paths) h = elim (either (bytes_eq p path)) [
  | inl t ↦ rw t (ap (λ q. Some (source_at table q)) (same_bytes p path t))
  | inr f ↦ rw f (on_desk table path paths (rw f at h))
]

off_desk : (table : List Source) (path : List ℕ) (paths : List (List ℕ)) → list_any (λ p. bytes_eq p path) paths ≡ false
    → find (at path) (map (source_at table) paths) ≡ None
off_desk table path [] h = refl
off_desk table path (p ∷ paths) h = elim (either (bytes_eq p path)) [
  | inl t ↦ absurd (false_true (sym (rw t at h)))
  | inr f ↦ rw f (off_desk table path paths (rw f at h))
]

pub some_desk : (table : List Source) (path : List ℕ) (desks : List Holdings) → list_any (is_source_on path) desks ≡ true
    → find (at path) (seen table desks).sources ≡ Some (source_at table path)
some_desk table path [] h = absurd (cc)
some_desk table path (d ∷ desks) h = elim (either (is_source_on path d)) [
  | inl t ↦ find_first (at path) (map (source_at table) d.known.sources) (seen table desks).sources (source_at table path)
      (on_desk table path d.known.sources t)
  | inr f ↦ find_append (at path) (map (source_at table) d.known.sources) (seen table desks).sources (off_desk table path d.known.sources f)
      ∙ some_desk table path desks (rw f at h)
]

no_desk : (table : List Source) (path : List ℕ) (desks : List Holdings) → list_any (is_source_on path) desks ≡ false
    → find (at path) (seen table desks).sources ≡ None
no_desk table path [] h = refl
no_desk table path (d ∷ desks) h = elim (either (is_source_on path d)) [
  | inl t ↦ absurd (false_true (sym (rw t at h)))
  | inr f ↦ find_append (at path) (map (source_at table) d.known.sources) (seen table desks).sources (off_desk table path d.known.sources f)
      ∙ no_desk table path desks (rw f at h)
]

-- ---- what the calls give, over the desks of a view

pub no_source : (view : Visible) (table : List Source) (inside desks : List (Bor Holdings)) (path : List ℕ) → seen table (desks_of inside) ≡ view
    → desks ≡ inside → false ≡ list_any (is_source_on path) (desks_of desks) → None ≡ source_in view path
no_source view table inside desks path is same e =
    sym (ap (λ (v : Visible). find (at path) v.sources) (sym is)
    ∙ no_desk table path (desks_of inside) (sym (e ∙ ap (λ ds. list_any (is_source_on path) (desks_of ds)) same)))

pub has_source : (view : Visible) (table : List Source) (inside desks : List (Bor Holdings)) (path : List ℕ) → seen table (desks_of inside) ≡ view
    → desks ≡ inside → true ≡ list_any (is_source_on path) (desks_of desks) → Some (source_at table path) ≡ source_in view path
has_source view table inside desks path is same e =
    sym (ap (λ (v : Visible). find (at path) v.sources) (sym is)
    ∙ some_desk table path (desks_of inside) (sym (e ∙ ap (λ ds. list_any (is_source_on path) (desks_of ds)) same)))

path_stored : (table : List Source) (path : List ℕ) (paths : List (List ℕ)) → ((q : List ℕ) → In q paths → IsStored table q)
    → list_any (λ p. bytes_eq p path) paths ≡ true → IsStored table path
path_stored table path [] a h = absurd (cc)
path_stored table path (p ∷ paths) a h = elim (either (bytes_eq p path)) [
  | inl t ↦ subst (IsStored table) (same_bytes p path t) (a p (inl refl))
  | inr f ↦ path_stored table path paths (λ q i. a q (inr i)) (rw f at h)
]

source_stored : (table : List Source) (path : List ℕ) (desks : List Holdings) → AreStored table desks → list_any (is_source_on path) desks ≡ true
    → IsStored table path
source_stored table path [] a h = absurd (cc)
source_stored table path (d ∷ desks) a h = elim (either (is_source_on path d)) [
  | inl t ↦ path_stored table path d.known.sources (λ q i. all_in (IsStored table) (paths_of d) q (All-head (IsDeskStored table) d desks a)
      (in_left q d.known.sources _ i)) t
  | inr f ↦ source_stored table path desks (All-tail (IsDeskStored table) d desks a) (rw f at h)
]

pub found_source : (table : List Source) (inside desks : List (Bor Holdings)) (path : List ℕ) → AreStored table (desks_of inside) → desks ≡ inside
    → true ≡ list_any (is_source_on path) (desks_of desks) → is_some (tree_at path table) ≡ true
found_source table inside desks path stored same e = source_stored table path (desks_of inside) stored
    (sym (e ∙ ap (λ ds. list_any (is_source_on path) (desks_of ds)) same))

pub made_source : (table : List Source) (path copy : List ℕ) (tree : Tree) (found : Option Tree) → copy ≡ path → found ≡ tree_at path table
    → found ≡ Some tree → Some (record { path = copy; tree = tree }) ≡ Some (source_at table path)
made_source table path copy tree found e f s = let at_path : Some tree ≡ tree_at path table = sym s ∙ f in rw (e, ← at_path) refl
