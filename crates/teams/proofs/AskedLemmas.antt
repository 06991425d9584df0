-- Rows one after another, and what was given before each.
use Rattle.std.proofs.Common.{◌≡◌, ℕ, ◌+◌, ◌<◌, Bool, true, false, List, ◌∷◌, length, map, drop, get_or, sym, ◌∙◌, ap}
use Rattle.std.proofs.lemmas.List.{at_drop_more}
use Rattle.history.specs.declared.row.Row.{Row}
use Rattle.teams.specs.Asked.{Given, with_row, is_of_session, is_asked, are_asked_after}

-- x has the row at a place
module _ {X : Type 0} (row : X → Row) (sessions : List ℕ) (xs : List X) (i : ℕ) (x : X) (given : Given) (all : Bool) where
  module _ (inside : i < length xs) (here : x ≡ get_or xs i x) (before : are_asked_after sessions given (map row (drop i xs)) ≡ all) where
    first_row : are_asked_after sessions given (row x ∷ map row (drop (i + 1) xs)) ≡ all
    first_row =
        ap (λ (y : X). are_asked_after sessions given (row y ∷ map row (drop (i + 1) xs))) here
        ∙ sym (at_drop_more (λ ys. are_asked_after sessions given (map row ys)) xs i x inside) ∙ before

    -- the row of a session
    pub after_session : (next : Given) → is_of_session sessions (row x) ≡ true → next ≡ with_row (row x) given
        → are_asked_after sessions next (map row (drop (i + 1) xs)) ≡ all
    after_session next own noted = rw noted (rw own at first_row)

    -- the row of a worker that goes on with a goal of its file
    pub after_worker : is_of_session sessions (row x) ≡ false → is_asked sessions given (row x) ≡ true
        → are_asked_after sessions given (map row (drop (i + 1) xs)) ≡ all
    after_worker other asked = rw (other, asked) at first_row
