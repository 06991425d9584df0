-- Bytes that are read and written piece by piece.
use Rattle.std.specs.Prelude.{◌≡◌, ◌⊎◌, ◌<◌, ◌-◌, ◌^◌, ℕ, List, [], ◌∷◌, ◌++◌, length, take, Result, Ok, Err}
use Rattle.std.specs.declared.io.Error.{Error}
use Rattle.builder.specs.declared.fault.Fault.{Fault}
use Rattle.builder.specs.declared.fault.Fault.TheVariants.{InputsNotWritten, OutputNotRead}
use Rattle.builder.specs.Steps.{Steps}

-- pieces as one text: the last of them stands first
abbrev pub joined : List (List ℕ) → List ℕ
joined [] = []
joined (piece ∷ before) = joined before ++ piece

module _ {O File Output Process : Type 0} (steps : Steps O File Output Process) where
  -- ---- reading

  -- what comes next of an output is read behind what was kept, and its length is told; or reading failed
  abbrev pub ReadsBehind : O → Output → List ℕ → Result ℕ Error → List ℕ → Output → O → Type 0
  ReadsBehind o output kept (Ok count) kept' output' o' =
      (piece : List ℕ) × (kept' ≡ kept ++ piece) × (length piece ≡ count) × steps.read o output (Ok piece) output' o'
  ReadsBehind o output kept (Err error) kept' output' o' = steps.read o output (Err error) output' o'

  -- pieces are read of an output, one after another, none of them its end: the last of them stands first
  abbrev pub Reads : O → Output → List (List ℕ) → Output → O → Type 0
  Reads o output [] output' o' = (output' ≡ output) × (o' ≡ o)
  Reads o output (piece ∷ before) output' o' =
      (between : O) × (left : Output) × Reads o output before left between
      × (0 < length piece) × steps.read between left (Ok piece) output' o'

  -- pieces are read of an output, and then reading gives this
  abbrev pub ReadsThen : O → Output → List (List ℕ) → Result (List ℕ) Error → Output → O → Type 0
  ReadsThen o output pieces answer output' o' =
      (between : O) × (left : Output) × Reads o output pieces left between × steps.read between left answer output' o'

  -- pieces are read of an output, and then reading fails
  abbrev pub FailsToRead : O → Output → Output → O → Type 0
  FailsToRead o output output' o' = (pieces : List (List ℕ)) × (error : Error) × ReadsThen o output pieces (Err error) output' o'

  -- so many pieces are read of an output that no turn is left for its end
  abbrev pub ReadsWithoutEnd : O → Output → Output → O → Type 0
  ReadsWithoutEnd o output output' o' = (pieces : List (List ℕ)) × Reads o output pieces output' o' × (length pieces ≡ 2 ^ 64 - 1)

  -- what is read of an output: the first 67,108,865 bytes of all that comes before its end; or it was not read
  abbrev pub IsRead : O → Output → Result (List ℕ) Fault → Output → O → Type 0
  IsRead o output (Ok bytes) output' o' =
      (pieces : List (List ℕ)) × ReadsThen o output pieces (Ok []) output' o' × (bytes ≡ take 67108865 (joined pieces))
  IsRead o output (Err why) output' o' = (why ≡ OutputNotRead) × (FailsToRead o output output' o' ⊎ ReadsWithoutEnd o output output' o')

  -- ---- writing

  -- pieces are written to a file, one after another: the last of them stands first
  abbrev pub Writes : O → File → List (List ℕ) → File → O → Type 0
  Writes o file [] file' o' = (file' ≡ file) × (o' ≡ o)
  Writes o file (piece ∷ before) file' o' =
      (between : O) × (filled : File) × Writes o file before filled between × steps.wrote between filled piece (Ok tt) file' o'

  -- writing what comes next of this rest fails
  abbrev pub FailsToWrite : O → File → List ℕ → File → O → Type 0
  FailsToWrite o file rest file' o' =
      (piece later : List ℕ) × (error : Error) × (rest ≡ piece ++ later) × steps.wrote o file piece (Err error) file' o'

  -- nothing more of this rest is written: writing failed, or memory was refused for it
  abbrev pub Stops : O → File → List ℕ → Fault → File → O → Type 0
  Stops o file rest why file' o' =
      (why ≡ InputsNotWritten) × (FailsToWrite o file rest file' o' ⊎ ((file' ≡ file) × (o' ≡ o)))

  -- a beginning of a text is written to a file, and then no more
  abbrev pub IsUnwritten : O → File → List ℕ → Fault → File → O → Type 0
  IsUnwritten o file text why file' o' =
      (pieces : List (List ℕ)) × (rest : List ℕ) × (between : O) × (filled : File)
      × (text ≡ joined pieces ++ rest) × Writes o file pieces filled between × Stops between filled rest why file' o'

  -- a text is written to a file, and nothing else
  abbrev pub IsWritten : O → File → List ℕ → Result (Unit {0}) Fault → File → O → Type 0
  IsWritten o file text (Ok done) file' o' = (pieces : List (List ℕ)) × Writes o file pieces file' o' × (joined pieces ≡ text)
  IsWritten o file text (Err why) file' o' = IsUnwritten o file text why file' o'
