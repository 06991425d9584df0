-- What taking the next line of a reader gives.
use Rattle.std.specs.Prelude.{◌≡◌, ℕ, List, [], ◌∷◌, ◌++◌, Option, Some, None, OnSome}
use Rattle.std.specs.Global.{Vec}
use Rattle.std.specs.Io.KnownBytes.{Consumes, IsAtEnd}
use Rattle.model.specs.Lines.{lines_of}
use Rattle.session.specs.Serving.{HasNoNewline, HoldsMore, IsHeld}
use Rattle.session.specs.declared.taking.Shown.{Shown}
use Rattle.session.specs.declared.taking.Shown.TheVariants.{More, Line, End}

-- of the line begun this was taken, and is held
pub record TakesPart (start left : Option (List ℕ)) (held held' behind : List ℕ) : Type 0 where
  pub part : List ℕ
  pub within : HasNoNewline part
  pub holds : HoldsMore held part held'
  pub taken : Consumes start left (part ++ behind)

-- so it was, and with it the newline that ends the line, or there is no more
abbrev pub TakesShown : (start left : Option (List ℕ)) (held held' : List ℕ) → Shown → Type 0
TakesShown start left held held' More = TakesPart start left held held' []
TakesShown start left held held' Line = TakesPart start left held held' (10 ∷ [])
TakesShown start left held held' End = TakesPart start left held held' [] × OnSome start (IsAtEnd left)

-- this is held of the first line of an input, and the others are left
pub record IsFirstLine (all : List ℕ) (left : Option (List ℕ)) (line : List ℕ) : Type 0 where
  pub first : List ℕ
  pub held : IsHeld first line
  pub rest : List ℕ
  pub left_is : left ≡ Some rest
  pub lines : lines_of all ≡ first ∷ lines_of rest

-- that, or it has no line
abbrev pub IsNextLine : (all : List ℕ) (left : Option (List ℕ)) → Option (Vec ℕ) → Type 0
IsNextLine all left (Some line) = IsFirstLine all left line.items
IsNextLine all left None = all ≡ []
