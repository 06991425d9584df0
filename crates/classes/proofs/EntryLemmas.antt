-- Looking paths up among the entries of a desk's tables.
use Rattle.std.proofs.Common.{◌≡◌, ℕ, ◌||◌, true, false, inl, inr, List, [], ◌∷◌, ◌++◌, refl, ap, sym, ◌∙◌}
use Rattle.std.specs.Prelude.{bytes_eq}
use Rattle.std.specs.List.{list_any}
use Rattle.indexmap.specs.IndexSet.{insert_key}
use Rattle.std.proofs.lemmas.List.Folds.{list_any-append}
use Rattle.std.specs.Map.{lookup}
use Rattle.std.proofs.lemmas.Slice.Eq.{bytes_eq-Decides}
use Rattle.std.proofs.lemmas.List.Elements.{All-head, All-tail}
use Rattle.model.specs.Classes.{Admission, known_at}
use Rattle.model.proofs.BoolLemmas.{either, bytes_eq_sym}
use Rattle.classes.specs.Entries.{IsKeyed, AreKeyed, admissions_of}

-- what is known of a path is at its key
pub known_entries : (path : List ℕ) (sources : List (List ℕ)) (entries : List (List ℕ × Admission)) → AreKeyed entries
    → known_at (record { derivations = admissions_of entries; sources = sources }) path ≡ lookup (bytes_eq path) entries
known_entries path sources [] keyed = refl
known_entries path sources (e ∷ entries) keyed =
    let same : bytes_eq e.1.path path ≡ bytes_eq path e.0 = bytes_eq_sym e.1.path path ∙ ap (bytes_eq path) (sym (All-head IsKeyed e entries keyed)) in
    let rest = known_entries path sources entries (All-tail IsKeyed e entries keyed) in
    elim (either (bytes_eq path e.0)) [
      | inl t ↦ let u : bytes_eq e.1.path path ≡ true = same ∙ t in rw (t, u) refl
      | inr f ↦ let u : bytes_eq e.1.path path ≡ false = same ∙ f in rw (f, u) rest
    ]

pub admissions_of-push : (entries : List (List ℕ × Admission)) (e : List ℕ × Admission) → admissions_of (entries ++ e ∷ []) ≡ admissions_of entries ++ e.1 ∷ []
admissions_of-push [] e = refl
admissions_of-push (x ∷ entries) e = ap (λ rest. x.1 ∷ rest) (admissions_of-push entries e)

-- one path more in a set of those that came earlier
pub any_insert : (path : List ℕ) (keys earlier : List (List ℕ)) → ((q : List ℕ) → list_any (bytes_eq q) keys ≡ list_any (bytes_eq q) earlier) → (q : List ℕ)
    → list_any (bytes_eq q) (insert_key bytes_eq keys path) ≡ list_any (bytes_eq q) (earlier ++ path ∷ [])
any_insert path keys earlier same q =
    let later : list_any (bytes_eq q) (earlier ++ path ∷ []) ≡ (list_any (bytes_eq q) keys || list_any (bytes_eq q) (path ∷ [])) =
    list_any-append (bytes_eq q) earlier (path ∷ []) ∙ ap (λ b. b || list_any (bytes_eq q) (path ∷ [])) (sym (same q)) in
    elim (either (list_any (bytes_eq path) keys)) [
      | inl t ↦
          let there : list_any (bytes_eq q) keys ≡ (list_any (bytes_eq q) keys || list_any (bytes_eq q) (path ∷ [])) =
          elim (either (bytes_eq q path)) [
            | inl e ↦ let found : list_any (bytes_eq q) keys ≡ true = ap (λ p. list_any (bytes_eq p) keys) ((bytes_eq-Decides q path).0 e) ∙ t in rw found refl
            | inr n ↦ rw n (elim (either (list_any (bytes_eq q) keys)) [ inl u ↦ rw u refl | inr u ↦ rw u refl ])
          ] in
          rw t (there ∙ sym later)
      | inr f ↦ rw f (list_any-append (bytes_eq q) keys (path ∷ []) ∙ sym later)
    ]
