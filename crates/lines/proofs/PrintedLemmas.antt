-- What is printed piece by piece.
use Rattle.std.proofs.Common.{ℕ, List, ◌++◌, Option, Result, Ok, Err}
use Rattle.std.specs.Prelude.{OnErr}
use Rattle.std.specs.Io.KnownBytes.{Appends}
use Rattle.nar.specs.Writing.{Begins}
use Rattle.nar.proofs.WritingLemmas.{begun-behind}

-- a piece is written, and not all of what comes behind it
pub unwritten-behind : {T E : Type 0} (r : Result T E) (a b c : Option (List ℕ)) (xs ys : List ℕ) → Appends a b xs → OnErr r (Begins b c ys)
    → OnErr r (Begins a c (xs ++ ys))
unwritten-behind (Ok x) a b c xs ys written begun = tt
unwritten-behind (Err e) a b c xs ys written begun = begun-behind a b c xs ys written begun
