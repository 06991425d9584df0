-- Goals that can be built, in the lines of their users, and who is next.
use Rattle.std.specs.Prelude.{ℕ, nat_lt, ◌==◌, ◌&&◌, ◌||◌, Bool, true, false, List, [], ◌∷◌, Option, Some, None}
use Rattle.std.specs.Ordering.{nat_cmp}
use Rattle.std.specs.BTreeMap.{insert_entry}
use Rattle.board.specs.declared.permits.Share.{Share}
use Rattle.board.specs.declared.lane.Claim.{Claim}

-- the goals of a user in a session that can be built: their numbers and places, by number
pub record LaneView : Type 0 where
  pub seat : ℕ
  pub user : ℕ
  pub line : List (ℕ × ℕ)

abbrev pub empty_lane : ℕ → ℕ → LaneView
empty_lane seat user = record { seat = seat; user = user; line = [] }

-- whether it is the line of that user in that session
abbrev pub is_lane_of : ℕ → ℕ → LaneView → Bool
is_lane_of seat user lane = (lane.seat == seat) && (lane.user == user)

-- a goal more stands in a line, by its number
abbrev pub has_put : ℕ → ℕ → LaneView → LaneView
has_put number goal lane = record { seat = lane.seat; user = lane.user; line = insert_entry nat_cmp lane.line number goal }

-- what counts for the turn of who has that share of the builders: the share, and the number of his first goal
abbrev pub claim_in : Share → List (ℕ × ℕ) → Option Claim
claim_in share [] = None
claim_in share (goal ∷ goals) = Some (record { running = share.running; last = share.last; number = goal.0 })

-- one is before another: who has fewer builders; then who was given one longer ago; then whose goal has the lower number
abbrev pub is_before : Claim → Claim → Bool
is_before a b =
    nat_lt a.running b.running
    || ((a.running == b.running) && (nat_lt a.last b.last || ((a.last == b.last) && nat_lt a.number b.number)))

-- who has a goal comes before who has none
abbrev pub comes_before : Option Claim → Option Claim → Bool
comes_before None other = false
comes_before (Some a) None = true
comes_before (Some a) (Some b) = is_before a b
