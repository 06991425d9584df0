-- Derivations, and classes with their paths, that are compared part by part.
use Rattle.std.proofs.Common.{◌≡◌, ℕ, Bool, List, refl, ap}
use Rattle.std.specs.Prelude.{bytes_eq, ◌&&◌}
use Rattle.std.specs.Bool.{Decides}
use Rattle.std.specs.Cmp.Lexicographic.{pointwise}
use Rattle.std.proofs.lemmas.Bool.Decides.{Decides-at}
use Rattle.std.proofs.lemmas.Slice.Eq.{bytes_eq-Decides, slice_eq-Decides}
use Rattle.model.proofs.BoolLemmas.{both_parts}
use Rattle.model.specs.Derivations.{Derivation}
use Rattle.model.specs.Resolutions.{Served}

-- a test of two parts
both_decide : {P Q : Type 0} (a b : Bool) → Decides a P → Decides b Q → Decides (a && b) (P × Q)
both_decide a b p q = (
  λ t. let both = both_parts a b t in (p.0 both.0, q.0 both.1),
  λ h. rw (p.1 h.0, q.1 h.1) refl,
)

-- a test of what holds exactly where something else does
decides_other : {P Q : Type 0} (r : Bool) → (P → Q) → (Q → P) → Decides r P → Decides r Q
decides_other r there back d = (λ t. there (d.0 t), λ q. d.1 (back q))

-- ---- classes with their paths

abbrev pub served_eq : Served → Served → Bool
served_eq a b = bytes_eq a.class b.class && bytes_eq a.path b.path

served_from : (a b : Served) → a.class ≡ b.class → a.path ≡ b.path → a ≡ b
served_from a b c p = λ i. record { class = c i; path = p i }

one_served : (a b : Served) → Decides (served_eq a b) (a ≡ b)
one_served a b =
    decides_other (served_eq a b) (λ h. served_from a b h.0 h.1)
    (λ e. (ap (λ (s : Served). s.class) e, ap (λ (s : Served). s.path) e))
    (both_decide (bytes_eq a.class b.class) (bytes_eq a.path b.path) (bytes_eq-Decides a.class b.class) (bytes_eq-Decides a.path b.path))

pub served_decide : (xs ys : List Served) (r : Bool) → r ≡ pointwise served_eq xs ys → Decides r (xs ≡ ys)
served_decide xs ys r e = slice_eq-Decides one_served xs ys r e

-- ---- derivations

abbrev pub variable_eq : List ℕ × List ℕ → List ℕ × List ℕ → Bool
variable_eq a b = bytes_eq a.0 b.0 && bytes_eq a.1 b.1

variable_from : (a b : List ℕ × List ℕ) → a.0 ≡ b.0 → a.1 ≡ b.1 → a ≡ b
variable_from a b k v = λ i. (k i, v i)

one_variable : (a b : List ℕ × List ℕ) → Decides (variable_eq a b) (a ≡ b)
one_variable a b =
    decides_other (variable_eq a b) (λ h. variable_from a b h.0 h.1)
    (λ e. (ap (λ (x : List ℕ × List ℕ). x.0) e, ap (λ (x : List ℕ × List ℕ). x.1) e))
    (both_decide (bytes_eq a.0 b.0) (bytes_eq a.1 b.1) (bytes_eq-Decides a.0 b.0) (bytes_eq-Decides a.1 b.1))

derivation_from : (d e : Derivation) → d.inputs ≡ e.inputs → d.sources ≡ e.sources → d.platform ≡ e.platform → d.builder ≡ e.builder
    → d.arguments ≡ e.arguments → d.environment ≡ e.environment → d ≡ e
derivation_from d e inputs sources platform builder arguments environment = λ i. record {
  inputs = inputs i;
  sources = sources i;
  platform = platform i;
  builder = builder i;
  arguments = arguments i;
  environment = environment i;
}

pub derivation_decides : (d e : Derivation) (i s p b a v : Bool) → i ≡ pointwise bytes_eq d.inputs e.inputs → s ≡ pointwise bytes_eq d.sources e.sources
    → p ≡ bytes_eq d.platform e.platform → b ≡ bytes_eq d.builder e.builder → a ≡ pointwise bytes_eq d.arguments e.arguments
    → v ≡ pointwise variable_eq d.environment e.environment → Decides (((((i && s) && p) && b) && a) && v) (d ≡ e)
derivation_decides d e i s p b a v inputs sources platform builder arguments environment =
    decides_other (((((i && s) && p) && b) && a) && v)
    (λ h. derivation_from d e h.0.0.0.0.0 h.0.0.0.0.1 h.0.0.0.1 h.0.0.1 h.0.1 h.1)
    (λ same. (
      (
        (
          ((ap (λ (x : Derivation). x.inputs) same, ap (λ (x : Derivation). x.sources) same), ap (λ (x : Derivation). x.platform) same),
          ap (λ (x : Derivation). x.builder) same,
        ),
        ap (λ (x : Derivation). x.arguments) same,
      ),
      ap (λ (x : Derivation). x.environment) same,
    ))
    (both_decide ((((i && s) && p) && b) && a) v
    (both_decide (((i && s) && p) && b) a
    (both_decide ((i && s) && p) b
    (both_decide (i && s) p
    (both_decide i s (slice_eq-Decides bytes_eq-Decides d.inputs e.inputs i inputs) (slice_eq-Decides bytes_eq-Decides d.sources e.sources s sources))
    (Decides-at p (bytes_eq d.platform e.platform) platform (bytes_eq-Decides d.platform e.platform)))
    (Decides-at b (bytes_eq d.builder e.builder) builder (bytes_eq-Decides d.builder e.builder)))
    (slice_eq-Decides bytes_eq-Decides d.arguments e.arguments a arguments))
    (slice_eq-Decides one_variable d.environment e.environment v environment))
