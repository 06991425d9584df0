-- The rows of one pass.
use Rattle.std.proofs.Common.{◌≡◌, ◌≢◌, ℕ, ◌+◌, Bool, true, false, List, [], ◌∷◌, ◌++◌, refl, ap, arith}
use Rattle.std.specs.Prelude.{◌==◌, if◌then◌else◌}
use Rattle.std.proofs.lemmas.Bool.{eq-eqb}
use Rattle.std.proofs.lemmas.Bool.Decides.{nat_tests}
use Rattle.history.specs.declared.row.Row.{Row}
use Rattle.history.specs.Callers.{rows_of}

-- the rows of a pass in two lists, one behind the other
pub rows_of-append : (k : ℕ) (xs ys : List Row) → rows_of k (xs ++ ys) ≡ rows_of k xs + rows_of k ys
rows_of-append k [] ys = omega arith
rows_of-append k (x ∷ xs) ys = let h = rows_of-append k xs ys in omega (arith, h)

-- a pass has a row more
pub one_more : (k : ℕ) (rows : List Row) (r : Row) → r.pass ≡ k → rows_of k (rows ++ r ∷ []) ≡ rows_of k rows + 1
one_more k rows r mine =
    let a = rows_of-append k rows (r ∷ []) in let one : rows_of k (r ∷ []) ≡ 1 = ap (λ b. (if b then 1 else 0) + 0) (eq-eqb r.pass k mine) in omega (arith, a, one)

-- a row of another pass
pub rows_of-other : (k : ℕ) (r : Row) → k ≢ r.pass → rows_of k (r ∷ []) ≡ 0
rows_of-other k r apart = pick (r.pass == k) refl
  where
    pick : (b : Bool) → (r.pass == k) ≡ b → rows_of k (r ∷ []) ≡ 0
    pick true is = let e : k ≡ r.pass = grind (arith, nat_tests) in absurd (apart e)
    pick false is = ap (λ b. (if b then 1 else 0) + 0) is
