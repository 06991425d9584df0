-- What one tree more adds to the charge of trees with their paths.
use Rattle.std.proofs.Common.{◌≡◌, ℕ, ◌+◌, Bool, true, false, inl, inr, List, [], ◌∷◌, ◌++◌, length, refl, sym, ◌∙◌, ap, arith}
use Rattle.std.specs.Prelude.{◌||◌, bytes_eq, sum_by, if◌then◌else◌}
use Rattle.std.specs.List.{list_any}
use Rattle.std.proofs.lemmas.List.Sums.{sum_by-cons}
use Rattle.model.specs.Archives.{nar}
use Rattle.model.specs.Worlds.{Source, one_of_each}
use Rattle.model.proofs.BoolLemmas.{either, same_bytes, bytes_eq_sym}

-- whether one of them has a path
abbrev pub has_path : List ℕ → List Source → Bool
has_path path ss = list_any (λ s. bytes_eq s.path path) ss

-- the archive lengths of their distinct paths
abbrev pub weight : List Source → ℕ
weight ss = sum_by (λ s. length (nar s.tree)) (one_of_each ss)

-- where one has the path of a tree, its archive is as long
abbrev pub AgreeAt : Source → List Source → Type 0
AgreeAt s [] = Unit {0}
AgreeAt s (x ∷ xs) = (bytes_eq x.path s.path ≡ true → length (nar x.tree) ≡ length (nar s.tree)) × AgreeAt s xs

or_swap : (a b c : Bool) → (a || (b || c)) ≡ (b || (a || c))
or_swap true true c = refl
or_swap true false c = refl
or_swap false b c = refl

pub has_path-between : (path : List ℕ) (xs ys : List Source) (s : Source)
    → has_path path (xs ++ s ∷ ys) ≡ (bytes_eq s.path path || has_path path (xs ++ ys))
has_path-between path [] ys s = refl
has_path-between path (x ∷ xs) ys s =
    ap (λ b. bytes_eq x.path path || b) (has_path-between path xs ys s) ∙ or_swap (bytes_eq x.path path) (bytes_eq s.path path) (has_path path (xs ++ ys))

-- what one adds that stands first
pub first_adds : (s : Source) (ys : List Source) → weight (s ∷ ys) ≡ weight ys + (if has_path s.path ys then 0 else length (nar s.tree))
unfolding one_of_each
first_adds s ys = elim (either (has_path s.path ys)) [
  | inl t ↦ rw t (omega arith)
  | inr f ↦ rw (f, sum_by-cons (λ x. length (nar x.tree)) s (one_of_each ys)) (omega arith)
]

add_either : (b c : Bool) (m n w : ℕ) → (m + (if c then 0 else n)) + (if b then 0 else w) ≡ (m + (if b then 0 else w)) + (if c then 0 else n)
add_either b c m n w = omega arith

-- what one adds that stands anywhere
pub weight-between : (xs ys : List Source) (s : Source) → AgreeAt s xs
    → weight (xs ++ s ∷ ys) ≡ weight (xs ++ ys) + (if has_path s.path (xs ++ ys) then 0 else length (nar s.tree))
weight-between [] ys s agree = first_adds s ys
weight-between (x ∷ xs) ys s agree =
    let rest : weight (xs ++ s ∷ ys) ≡ weight (xs ++ ys) + (if has_path s.path (xs ++ ys) then 0 else length (nar s.tree)) = weight-between xs ys s agree.1 in
    let front : weight (x ∷ (xs ++ s ∷ ys)) ≡ weight (xs ++ s ∷ ys) + (if bytes_eq s.path x.path || has_path x.path (xs ++ ys) then 0 else length (nar x.tree)) =
    first_adds x (xs ++ s ∷ ys) ∙ ap (λ b. weight (xs ++ s ∷ ys) + (if b then 0 else length (nar x.tree))) (has_path-between x.path xs ys s) in
    elim (either (bytes_eq x.path s.path)) [
      | inl t ↦
          let same : x.path ≡ s.path = same_bytes x.path s.path t in
          let turned : bytes_eq s.path x.path ≡ true = bytes_eq_sym s.path x.path ∙ t in
          let long : length (nar x.tree) ≡ length (nar s.tree) = agree.0 t in
          front ∙ rw (turned, t) (rest_of (weight (xs ++ s ∷ ys)) (weight (xs ++ ys)) (has_path s.path (xs ++ ys)) (length (nar s.tree)) (weight (x ∷ (xs ++ ys)))
          rest (first_adds x (xs ++ ys) ∙ rw (same, long) refl))
      | inr f ↦
          let turned : bytes_eq s.path x.path ≡ false = bytes_eq_sym s.path x.path ∙ f in
          front ∙ rw (turned, f, rest) (add_either (has_path x.path (xs ++ ys)) (has_path s.path (xs ++ ys)) (weight (xs ++ ys)) (length (nar s.tree)) (length (nar x.tree))
          ∙ ap (λ n. n + (if has_path s.path (xs ++ ys) then 0 else length (nar s.tree))) (sym (first_adds x (xs ++ ys))))
    ]
  where
    rest_of : (a m : ℕ) (b : Bool) (n w : ℕ) → a ≡ m + (if b then 0 else n) → w ≡ m + (if b then 0 else n) → a + 0 ≡ w + 0
    rest_of a m b n w e f = omega arith
