-- The lines that were refused with 25, one more at a time.
use Rattle.std.proofs.Common.{◌≡◌, ℕ, ◌+◌, min, List, [], ◌∷◌, ◌++◌, Option, Some, sym, ap, ◌∙◌, subst, arith, length-append}
use Rattle.std.specs.Prelude.{slice_get}
use Rattle.std.proofs.lemmas.List.{append-nil}
use Rattle.replaying.specs.declared.bad_lines.BadLines.{BadLines}
use Rattle.replaying.specs.BadLines.{AreBad}

-- a line that was not refused so adds none
pub none_more : (bad : Option BadLines) (numbers : List ℕ) → AreBad bad numbers → AreBad bad (numbers ++ [])
none_more bad numbers are = subst (AreBad bad) (sym (append-nil numbers)) are

still_first : (numbers : List ℕ) (n x : ℕ) → slice_get numbers 0 ≡ Some x → slice_get (numbers ++ n ∷ []) 0 ≡ Some x
still_first [] n x h = cc
still_first (y ∷ ys) n x h = h

-- one more behind others
pub one_bad_more : (lines new : BadLines) (numbers : List ℕ) (n : ℕ) → AreBad (Some lines) numbers → new.count ≡ min (lines.count + 1) 18446744073709551615
    → new.first ≡ lines.first → AreBad (Some new) (numbers ++ n ∷ [])
one_bad_more lines new numbers n are count first = (
  omega (arith, are.0, count, length-append numbers (n ∷ [])),
  still_first numbers n lines.first are.1 ∙ ap Some (sym first),
)

-- the first
pub one_bad_first : (numbers : List ℕ) (n : ℕ) (new : BadLines) → numbers ≡ [] → new.count ≡ 1 → new.first ≡ n → AreBad (Some new) (numbers ++ n ∷ [])
one_bad_first numbers n new none count first =
    subst (λ (ns : List ℕ). AreBad (Some new) (ns ++ n ∷ [])) (sym none) (omega (arith, count), ap Some (sym first))
