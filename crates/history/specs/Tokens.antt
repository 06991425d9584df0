-- The tokens of a front: what each of them knows of the book under the lock.
use Rattle.std.specs.Prelude.{◌≡◌, ℕ, ◌+◌, ◌<◌, List, [], Bool, true, false}
use mathlib.Core.Option.{some}
use mathlib.Core.List.{IsPrefix}
use lib.ListN.{get_elem?}
use Rattle.atomic_table.specs.Table.{Step, Me}
use Rattle.atomic_table.specs.Seated.{TableId}
use Rattle.history.specs.declared.row.Row.{Row}
use Rattle.history.specs.declared.log.Recorded.{Recorded}
use Rattle.history.specs.declared.log.Claimed.{Claimed}
use Rattle.history.specs.declared.log.TokenKnowledge.{TokenKnowledge}
use Rattle.history.specs.Callers.{rows_of}

-- the name of no table
abbrev pub no_table : TableId
no_table = record { words = 0; slots = 0; views_name = 0; atom = 0; block = 0; offset = 0; slot_names = [] }

-- ---- what tokens know

-- a book without rows and callers
abbrev pub nothing_recorded : Recorded
nothing_recorded = record { rows = []; next = 0; stopped = false }

abbrev pub nothing_claimed : Claimed
nothing_claimed = record { number = 0; rows = []; stopped = false }

-- the token that keeps the book
abbrev pub keeper : Recorded → TokenKnowledge
keeper book = record { keeps = true; recorded = book; claims = false; claimed = nothing_claimed }

-- the token of a caller
abbrev pub holder : Claimed → TokenKnowledge
holder claim = record { keeps = false; recorded = nothing_recorded; claims = true; claimed = claim }

-- the token that keeps the book and has that of a caller beside it
abbrev pub both : Recorded → Claimed → TokenKnowledge
both book claim = record { keeps = true; recorded = book; claims = true; claimed = claim }

-- the same token without what a caller claims
abbrev pub without_claim : TokenKnowledge → TokenKnowledge
without_claim v = record { keeps = v.keeps; recorded = v.recorded; claims = false; claimed = nothing_claimed }

-- ---- what changes

abbrev pub with_rows : Recorded → List Row → Recorded
with_rows book rows = record { rows = rows; next = book.next; stopped = book.stopped }

abbrev pub with_pass : Recorded → Recorded
with_pass book = record { rows = book.rows; next = book.next + 1; stopped = book.stopped }

abbrev pub stopped_book : Recorded → Recorded
stopped_book book = record { rows = book.rows; next = book.next; stopped = true }

-- what a new caller knows
abbrev pub first_claim : Recorded → Claimed
first_claim book = record { number = book.next; rows = book.rows; stopped = false }

-- a caller knows these rows now
abbrev pub claim_of : Claimed → List Row → Claimed
claim_of claim rows = record { number = claim.number; rows = rows; stopped = claim.stopped }

-- a caller is told whether the book is stopped
abbrev pub told : Bool → Claimed → Claimed
told stopped claim = record { number = claim.number; rows = claim.rows; stopped = stopped }

-- ---- the rule

-- what a caller knows is so: its rows are the first of all, none of the others is of its number, and the book is stopped if
-- it was told so
pub record Agrees (book : Recorded) (claim : Claimed) : Type 0 where
  pub begins : IsPrefix claim.rows book.rows
  pub no_more : rows_of claim.number book.rows ≡ rows_of claim.number claim.rows
  pub stopped : claim.stopped ≡ true → book.stopped ≡ true

-- a token keeps the book only at the place of the log, and claims a number only at that of the number's owner
pub record Fits (keeper : ℕ) (book : Recorded) (owner : ℕ → ℕ) (place : ℕ) (v : TokenKnowledge) : Type 0 where
  pub keeps : v.keeps ≡ true → (place ≡ keeper) × (v.recorded ≡ book)
  pub claims : v.claims ≡ true → (place ≡ owner v.claimed.number) × (v.claimed.number < book.next) × Agrees book v.claimed

-- there is one book, and each number has one owner
pub record HaveOneBook (views : List TokenKnowledge) : Type 0 where
  pub keeper : ℕ
  pub book : Recorded
  pub owner : ℕ → ℕ
  pub fits : (place : ℕ) (v : TokenKnowledge) → get_elem? views place ≡ some v → Fits keeper book owner place v

-- ---- the steps of the log

-- with the token of a caller beside it, it compares what that caller knows, and tells whether the book is stopped
abbrev pub Compares : {S : Type 0} → Step S → Me S TokenKnowledge → ℕ → Me S TokenKnowledge → Type 0
Compares s v n w = (w ≡ (both v.0.recorded (told v.0.recorded.stopped v.0.claimed), [])) × Agrees v.0.recorded v.0.claimed

-- with the token of a caller beside it, it records these rows, which that caller knows now
abbrev pub Grows : {S : Type 0} → List Row → Step S → Me S TokenKnowledge → ℕ → Me S TokenKnowledge → Type 0
Grows rows s v n w = w ≡ (both (with_rows v.0.recorded rows) (claim_of v.0.claimed rows), [])

-- it records that the book is stopped
abbrev pub Stops : {S : Type 0} → Step S → Me S TokenKnowledge → ℕ → Me S TokenKnowledge → Type 0
Stops s v n w = w ≡ (keeper (stopped_book v.0.recorded), [])
