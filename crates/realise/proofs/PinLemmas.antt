-- Pins as the entries of a map.
use Rattle.std.proofs.Common.{◌≡◌, ℕ, true, false, inl, inr, List, [], ◌∷◌, refl, ap, sym, ◌∙◌}
use Rattle.std.specs.Prelude.{bytes_eq, None}
use Rattle.std.specs.Map.{lookup, remove_entry}
use Rattle.indexmap.specs.IndexMap.{insert_entry}
use Rattle.model.specs.Worlds.{pin_of, pinned, unpinned}
use Rattle.model.proofs.BoolLemmas.{either, same_bytes, bytes_eq_sym}
use Rattle.realise.specs.Pinned.{pin_at, pins_at}

pub pin_of_entries : (class : List ℕ) (entries : List (List ℕ × List ℕ)) → pin_of (pins_at entries) class ≡ lookup (bytes_eq class) entries
pin_of_entries class [] = refl
pin_of_entries class (e ∷ entries) = elim (either (bytes_eq class e.0)) [
  | inl t ↦ let u : bytes_eq e.0 class ≡ true = bytes_eq_sym e.0 class ∙ t in rw (t, u) refl
  | inr f ↦ let u : bytes_eq e.0 class ≡ false = bytes_eq_sym e.0 class ∙ f in rw (f, u) (pin_of_entries class entries)
]

pub pinned_entries : (class path : List ℕ) (entries : List (List ℕ × List ℕ))
    → pins_at (insert_entry bytes_eq entries class path) ≡ pinned class path (pins_at entries)
unfolding pinned
pinned_entries class path [] = refl
pinned_entries class path (e ∷ entries) = elim (either (bytes_eq class e.0)) [
  | inl t ↦
      let u : bytes_eq e.0 class ≡ true = bytes_eq_sym e.0 class ∙ t in
      rw (t, u) (ap (λ (c : List ℕ). pin_at (c, path) ∷ pins_at entries) (sym (same_bytes class e.0 t)))
  | inr f ↦
      let u : bytes_eq e.0 class ≡ false = bytes_eq_sym e.0 class ∙ f in
      rw (f, u) (ap (λ rest. pin_at e ∷ rest) (pinned_entries class path entries))
]

-- entries among which a class is not found have no pin of it
without_none : (class : List ℕ) (entries : List (List ℕ × List ℕ)) → lookup (bytes_eq class) entries ≡ None → unpinned class (pins_at entries) ≡ pins_at entries
without_none class [] none = refl
without_none class (e ∷ entries) none = elim (either (bytes_eq class e.0)) [
  | inl t ↦ let found = rw t at none in cc
  | inr f ↦
      let u : bytes_eq e.0 class ≡ false = bytes_eq_sym e.0 class ∙ f in
      let left = rw f at none in
      rw u (ap (λ rest. pin_at e ∷ rest) (without_none class entries left))
]

-- where each class has one entry at most, taking one out leaves none
pub unpinned_entries : (class : List ℕ) (entries : List (List ℕ × List ℕ)) → lookup (bytes_eq class) (remove_entry (bytes_eq class) entries) ≡ None
    → pins_at (remove_entry (bytes_eq class) entries) ≡ unpinned class (pins_at entries)
unpinned_entries class [] none = refl
unpinned_entries class (e ∷ entries) none = elim (either (bytes_eq class e.0)) [
  | inl t ↦
      let u : bytes_eq e.0 class ≡ true = bytes_eq_sym e.0 class ∙ t in
      let left = rw t at none in
      rw (t, u) (sym (without_none class entries left))
  | inr f ↦
      let u : bytes_eq e.0 class ≡ false = bytes_eq_sym e.0 class ∙ f in
      let left = rw (f, f) at none in
      rw (f, u) (ap (λ rest. pin_at e ∷ rest) (unpinned_entries class entries left))
]
