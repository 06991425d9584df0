-- What a session does with the first lines of an input, up to the one that names its users.
use Rattle.std.specs.Prelude.{◌≡◌, ℕ, false, List, [], ◌∷◌, ◌++◌, Option, Some, None}
use Rattle.std.specs.Global.{Vec}
use Rattle.model.specs.declared.mode.Mode.{Mode}
use Rattle.model.specs.Lines.{lines_of}
use Rattle.model.specs.Talk.{LineRow, Silent, Names, Refuses, Asks, Waits, Seen, GetsNext}
use Rattle.lines.specs.declared.line.Reading.{Reading}
use Rattle.lines.specs.declared.line.Reading.TheVariants as reading
use Rattle.session.specs.Serving.{Progress, Finished, GoesOn}
use Rattle.session.specs.Ahead.{LooksAhead}
use Rattle.session.specs.declared.head.Found.{Found}

-- a row of a line that asks nobody: it makes no event and waits for nothing
abbrev pub Idle : Unit {0} → LineRow → Unit {0} → Type 0
Idle old Silent new = Unit {0}
Idle old (Names users) new = Unit {0}
Idle old (Refuses why) new = Unit {0}
Idle old (Asks event reply) new = ⊥
Idle old (Waits goals reply) new = ⊥

-- the users whom a line names, by what it comes to, or none
abbrev pub IsNamedBy : Reading → Option (Vec (List ℕ)) → Type 0
IsNamedBy (reading.Names users) (Some copy) = copy.items ≡ users.items
IsNamedBy (reading.Names users) None = ⊥
IsNamedBy other (Some copy) = ⊥
IsNamedBy other None = Unit {0}

-- a session goes on over these bytes, and asks nobody
abbrev pub GoesIdle : (written written' : Option (List ℕ)) (seen seen' : Seen) (held held' bytes : List ℕ) → Type 0
GoesIdle written written' seen seen' held held' bytes = GoesOn Idle tt tt written written' seen seen' held held' bytes

-- the line that is held is answered: it names these users, or still nobody is named
abbrev pub IsHeadLine : (written written' : Option (List ℕ)) (seen seen' : Seen) (held : List ℕ) → Option (Vec (List ℕ)) → Type 0
IsHeadLine written written' seen seen' held None = (seen'.begun ≡ false) × GoesIdle written written' seen seen' held [] (10 ∷ [])
IsHeadLine written written' seen seen' held (Some users) = GetsNext seen held (Names users.items) × GoesIdle written written' seen seen' held [] (10 ∷ [])

-- these are the users whom an input names, whatever follows these bytes
abbrev pub NamesBehind : (written : Option (List ℕ)) (seen : Seen) (held bytes : List ℕ) → List (List ℕ) → Type 0
NamesBehind written seen held bytes users = (mode : Mode) (blank : Option (List ℕ)) (input : List ℕ)
    → Progress mode Idle tt tt blank written input seen held → (more : List ℕ) → LooksAhead mode ((input ++ bytes) ++ more) (Some users)

-- a front of a piece is answered, of which the last line names these users, and the rest of it is left
pub record IsFront (written written' : Option (List ℕ)) (seen seen' : Seen) (held held' piece : List ℕ) (users : List (List ℕ)) (rest : List ℕ) : Type 0 where
  pub front : List ℕ
  pub cut : piece ≡ front ++ rest
  pub nothing : held' ≡ []
  pub goes : GoesIdle written written' seen seen' held [] front
  pub names : NamesBehind written seen held front users

-- that, or all of it is answered and still nobody is named
abbrev pub IsHeadPiece : (written written' : Option (List ℕ)) (seen seen' : Seen) (held held' piece : List ℕ) → Option Found → Type 0
IsHeadPiece written written' seen seen' held held' piece None = (seen'.begun ≡ false) × GoesIdle written written' seen seen' held held' piece
IsHeadPiece written written' seen seen' held held' piece (Some found) = IsFront written written' seen seen' held held' piece found.users.items found.rest.items

-- the first lines of an input are answered, of which the last names these users, and the rest of what was read is left
pub record IsBegun (mode : Mode) (blank written : Option (List ℕ)) (input : List ℕ) (seen : Seen) (users : List (List ℕ)) (rest : List ℕ) : Type 0 where
  pub front : List ℕ
  pub cut : input ≡ front ++ rest
  pub progress : Progress mode Idle tt tt blank written front seen []
  pub names : (more : List ℕ) → LooksAhead mode (front ++ more) (Some users)

-- that, or all lines are answered and nobody was asked
abbrev pub IsHead : (mode : Mode) (blank written : Option (List ℕ)) (input : List ℕ) (at_end : Type 0)
    → (seen : Seen) (users : Option (Vec (List ℕ))) (rest : List ℕ) → Type 0
IsHead mode blank written input at_end seen None rest = at_end × Finished mode Idle tt tt blank written (lines_of input)
IsHead mode blank written input at_end seen (Some users) rest = IsBegun mode blank written input seen users.items rest

-- what was found, part by part
abbrev pub users_found : Option Found → Option (Vec (List ℕ))
users_found None = None
users_found (Some found) = Some found.users

abbrev pub rest_found : Option Found → List ℕ
rest_found None = []
rest_found (Some found) = found.rest.items
