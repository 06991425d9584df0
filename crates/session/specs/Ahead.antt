-- What is found by reading ahead.
use Rattle.std.specs.Prelude.{◌≡◌, ◌⊎◌, ℕ, true, List, [], ◌∷◌, ◌++◌, Option, None, Some, option_map}
use Rattle.std.specs.Global.{Vec}
use Rattle.model.specs.declared.mode.Mode.{Mode}
use Rattle.model.specs.declared.refusal.Refusal.TheVariants.{BadUsers}
use Rattle.model.specs.Lines.{lines_of}
use Rattle.model.specs.Talk.{LineRow, Names, Refuses, Seen, fresh, seen_after, after_all, GetsNext, Talks, users_in}
use Rattle.session.specs.Serving.{WholeLines, IsHeld}
use Rattle.session.specs.declared.ahead.FirstLine.{FirstLine}
use Rattle.session.specs.declared.ahead.FirstLine.TheVariants.{Users, Refused, Other}

-- the line names these users, or is a line of users that is refused, or gets another row
abbrev pub IsLook : List ℕ → Seen → Seen → FirstLine → Type 0
IsLook line seen next (Users users) = GetsNext seen line (Names users.items)
IsLook line seen next Refused = GetsNext seen line (Refuses BadUsers)
IsLook line seen next Other = (row : LineRow) × GetsNext seen line row × (next ≡ seen_after seen row) × (users_in (row ∷ []) ≡ None) × (next.refused ≡ seen.refused)

-- the whole lines of an input of which more may come name no users
pub record NoUsersSoFar (mode : Mode) (input : List ℕ) : Type 0 where
  pub rows : List LineRow
  pub lines : WholeLines mode input rows
  pub none : users_in rows ≡ None

-- that, where a session of them keeps seen, and this is held of the line begun
pub record Searched (mode : Mode) (input : List ℕ) (seen : Seen) (held : List ℕ) : Type 0 where
  pub so_far : NoUsersSoFar mode input
  pub held_is : IsHeld so_far.lines.partial held
  pub seen_is : seen ≡ after_all (fresh mode) so_far.rows

-- the first lines of an input name these users;
-- where there are none, they are all of its lines, or the last of them is a line of users that is refused
pub record LooksAhead (mode : Mode) (input : List ℕ) (users : Option (List (List ℕ))) : Type 0 where
  pub rows : List LineRow
  pub done : List (List ℕ)
  pub rest : List (List ℕ)
  pub cut : lines_of input ≡ done ++ rest
  pub talks : Talks (fresh mode) done rows
  pub named : users_in rows ≡ users
  pub ends : users ≡ None → (rest ≡ []) ⊎ ((after_all (fresh mode) rows).refused ≡ true)

-- what was found in an input, whatever comes after it
abbrev pub LooksOn : Mode → List ℕ → Seen → List ℕ → FirstLine → Type 0
LooksOn mode input seen held (Users users) = (more : List ℕ) → LooksAhead mode (input ++ more) (Some users.items)
LooksOn mode input seen held Refused = (more : List ℕ) → LooksAhead mode (input ++ more) None
LooksOn mode input seen held Other = Searched mode input seen held

-- from any input on: what is found where these bytes come after it
abbrev pub SearchesOn : (seen : Seen) (held bytes : List ℕ) (next : Seen) (held' : List ℕ) → FirstLine → Type 0
SearchesOn seen held bytes next held' look = (mode : Mode) (input : List ℕ) → Searched mode input seen held → LooksOn mode (input ++ bytes) next held' look

-- and where it ends
abbrev pub SearchesLast : (seen : Seen) (held : List ℕ) → Option (Vec (List ℕ)) → Type 0
SearchesLast seen held users = (mode : Mode) (input : List ℕ) → Searched mode input seen held → LooksAhead mode input (option_map (λ u. u.items) users)
