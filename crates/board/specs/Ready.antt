-- The goals of all sessions that can be built, and who is next.
use Rattle.std.specs.Prelude.{◌≡◌, ◌≢◌, ◌==◌, ◌⊎◌, ◌^◌, min, ℕ, ◌+◌, ◌-◌, ◌<◌, nat_lt, Bool, true, false, List, []}
use Rattle.std.specs.Prelude.{◌∷◌, ◌++◌, length, replicate, slice_set, slice_index_or, Option, Some, None, position}
use Rattle.std.specs.Prelude.{All, if◌then◌else◌}
use Rattle.board.specs.declared.permits.Share.{Share}
use Rattle.board.specs.declared.lane.Claim.{Claim}
use Rattle.board.specs.declared.ready.Crew.{Crew}
use Rattle.board.specs.declared.ready.Grant.{Grant}
use Rattle.board.specs.Permits.{PermitsView, share_at, may_start, nobody_runs, with_builder, without_builder}
use Rattle.board.specs.Lanes.{LaneView, empty_lane, is_lane_of, has_put, claim_in, comes_before}

-- the lines of all users, the workers of each session, and who has how many builders
pub record ReadyView : Type 0 where
  pub lanes : List LaneView
  pub crews : List Crew
  pub permits : PermitsView

-- each line is that of a user and a session of the run
abbrev pub AreOfRun : List LaneView → List Crew → List Share → Type 0
AreOfRun lanes crews shares = All (λ lane. (lane.seat < length crews) × (lane.user < length shares)) lanes

-- the line at a place
abbrev pub lane_at : List LaneView → ℕ → LaneView
lane_at lanes place = slice_index_or lanes place (empty_lane 0 0)

-- the workers of the session at a seat
abbrev pub crew_at : List Crew → ℕ → Crew
crew_at crews seat = slice_index_or crews seat (record { workers = 0; busy = 0 })

-- whether a session has an idle worker
abbrev pub is_idle : Crew → Bool
is_idle crew = nat_lt crew.busy crew.workers

-- what counts for the turn of a line: nothing where its session has no idle worker
abbrev pub claim_of : ReadyView → LaneView → Option Claim
claim_of r lane = if is_idle (crew_at r.crews lane.seat) then claim_in (share_at r.permits.shares lane.user) lane.line else None

-- there are no lines, and no workers
abbrev pub none_ready : ℕ → ℕ → ℕ → ReadyView
none_ready sessions users most =
    record { lanes = []; crews = replicate sessions (record { workers = 0; busy = 0 }); permits = nobody_runs users most }

-- no claim comes before that of the line at a place
abbrev pub IsFirst : ReadyView → ℕ → Type 0
IsFirst r place =
    (other : ℕ) → other < length r.lanes → comes_before (claim_of r (lane_at r.lanes other)) (claim_of r (lane_at r.lanes place)) ≡ false

-- a worker of a session more has a goal
abbrev pub with_busy : ℕ → List Crew → List Crew
with_busy seat crews =
    let crew = crew_at crews seat in slice_set crews seat (record { workers = crew.workers; busy = min (crew.busy + 1) (2 ^ 64 - 1) })

-- the first goal of the line at a place was given a builder, and nothing else has changed
pub record IsGranted (old : ReadyView) (place : ℕ) (grant : Grant) (new : ReadyView) : Type 0 where
  pub rest : List (ℕ × ℕ)
  pub line : lane_at old.lanes place ≡ record { seat = grant.seat; user = grant.user; line = (grant.number, grant.goal) ∷ rest }
  pub lanes : new.lanes ≡ slice_set old.lanes place (record { seat = grant.seat; user = grant.user; line = rest })
  pub crews : new.crews ≡ with_busy grant.seat old.crews
  pub permits : new.permits ≡ with_builder old.permits grant.user

-- the goal that comes first was given a builder: its user may have one, a worker of its session was idle, and nobody comes before it
pub record IsGiven (old : ReadyView) (grant : Grant) (new : ReadyView) : Type 0 where
  pub place : ℕ
  pub within : place < length old.lanes
  pub granted : IsGranted old place grant new
  pub idle : is_idle (crew_at old.crews grant.seat) ≡ true
  pub may : may_start old.permits grant.user ≡ true
  pub first : IsFirst old place

-- nobody has a goal, or may have a builder: of each line, either there is no claim or its user has as many builders as he may
abbrev pub NobodyMay : ReadyView → Type 0
NobodyMay r =
    (place : ℕ) → place < length r.lanes
    → (claim_of r (lane_at r.lanes place) ≡ None) ⊎ (may_start r.permits (lane_at r.lanes place).user ≡ false)

-- the lines after a goal of a user in a session was put into his line, which may be a new one
abbrev pub lanes_put : ℕ → ℕ → ℕ → ℕ → List LaneView → Option ℕ → List LaneView
lanes_put seat user number goal lanes None = lanes ++ has_put number goal (empty_lane seat user) ∷ []
lanes_put seat user number goal lanes (Some place) = slice_set lanes place (has_put number goal (lane_at lanes place))

abbrev pub lanes_with : ℕ → ℕ → ℕ → ℕ → List LaneView → List LaneView
lanes_with seat user number goal lanes = lanes_put seat user number goal lanes (position (is_lane_of seat user) lanes)

-- a goal of a user in a session can be built
abbrev pub with_ready : ℕ → ℕ → ℕ → ℕ → ReadyView → ReadyView
with_ready seat user number goal r = record { lanes = lanes_with seat user number goal r.lanes; crews = r.crews; permits = r.permits }

-- a builder of a user has ended, and a worker of a session is idle
abbrev pub has_ended : ℕ → ℕ → ReadyView → ReadyView
has_ended seat user r =
    let crew = crew_at r.crews seat in
    record {
      lanes = r.lanes;
      crews = slice_set r.crews seat (record { workers = crew.workers; busy = crew.busy - 1 });
      permits = without_builder r.permits user;
    }

-- so many workers of a session have threads
abbrev pub with_workers : ℕ → ℕ → ReadyView → ReadyView
with_workers seat workers r =
    record { lanes = r.lanes; crews = slice_set r.crews seat (record { workers = workers; busy = (crew_at r.crews seat).busy }); permits = r.permits }

-- it is the turn of a line: its session has an idle worker, it has a goal, its user may have a builder, and no claim comes before
pub record IsTurn (r : ReadyView) (place : ℕ) : Type 0 where
  pub within : place < length r.lanes
  pub idle : is_idle (crew_at r.crews (lane_at r.lanes place).seat) ≡ true
  pub may : may_start r.permits (lane_at r.lanes place).user ≡ true
  pub has : claim_of r (lane_at r.lanes place) ≢ None
  pub first : IsFirst r place

-- it is the turn of a session
abbrev pub IsTurnOf : ℕ → ReadyView → Type 0
IsTurnOf seat r = (place : ℕ) × IsTurn r place × ((lane_at r.lanes place).seat ≡ seat)

-- it is not the turn of a session: it is nobody's, or another's
abbrev pub IsNotTurnOf : ℕ → ReadyView → Type 0
IsNotTurnOf seat r = NobodyMay r ⊎ ((place : ℕ) × IsTurn r place × ((lane_at r.lanes place).seat ≢ seat))

-- the line of a user, once a session has left: nothing of it is there
abbrev pub left_by : ℕ → LaneView → LaneView
left_by seat lane = if lane.seat == seat then empty_lane seat lane.user else lane

-- no goals of a session are in the lines, and those of others are as they were
abbrev pub HasLeft : ℕ → List LaneView → List LaneView → Type 0
HasLeft seat old new =
    (length new ≡ length old) × ((place : ℕ) → place < length old → lane_at new place ≡ left_by seat (lane_at old place))
