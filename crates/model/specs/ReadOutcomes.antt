-- What a reader returned, against what reading gives.
use Rattle.std.specs.Prelude.{◌≡◌, Option, Some, None, Result, Ok, Err}
use Rattle.model.specs.declared.read_error.ReadError.{ReadError}
use Rattle.model.specs.declared.read_error.ReadError.TheVariants.{Memory, Malformed}

-- an error is right where reading gives nothing, and for want of memory
abbrev pub Fails : {Y : Type 0} → ReadError → Option Y → Type 0
Fails Memory read = Unit {0}
Fails Malformed read = read ≡ None

-- seen by the view, what was returned is what reading gives
abbrev pub Gives : {X Y : Type 0} → (X → Y) → Result X ReadError → Option Y → Type 0
Gives view (Ok x) read = read ≡ Some (view x)
Gives view (Err why) read = Fails why read

-- where nothing was read, it is not for want of memory
abbrev pub IsMalformed : ReadError → Type 0
IsMalformed why = why ≡ Malformed
