-- What is made of an event before it is known what the store has.
use Rattle.std.specs.Prelude.{Option, Some, None}
use Rattle.std.specs.Coded.{codes, Unit-prop}
use Rattle.std.proofs.Props.{props}
use Rattle.model.specs.Derivations.{Derivation}
use Rattle.model.specs.Events.{Request, AddDerivation}
use Rattle.classes.specs.Admitting.{IsReadFrom, HasNone}

-- the derivation that a request adds, if it adds one
abbrev pub IsParsed : Request → Option Derivation → Type 0
IsParsed (AddDerivation text) (Some d) = IsReadFrom text d
IsParsed (AddDerivation text) None = HasNone text
IsParsed request found = Unit {0}

-- it says at most one thing
pub IsParsed-prop : (request : Request) (found : Option Derivation) → IsProp (IsParsed request found)
IsParsed-prop (AddDerivation text) (Some d) = Prim.hlevel (props, codes)
IsParsed-prop (AddDerivation text) None = Prim.hlevel (props, codes)
IsParsed-prop request found = Unit-prop
