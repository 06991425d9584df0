-- Goals, how far they are, and which hangs on which.
use Rattle.std.specs.Prelude.{◌≡◌, ℕ, ◌<◌, ◌==◌, ◌&&◌, ◌||◌, Bool, true, false, List, length, slice_index_or}
use Rattle.trust.specs.Trusting.{holds}
use Rattle.board.specs.declared.stage.Stage.{Stage}
use Rattle.board.specs.declared.stage.Stage.TheVariants.{Woken, Looked, Ready, Working, Waits, Over}
use Rattle.board.specs.declared.stage.Goal.{Goal}
use Rattle.board.specs.declared.stage.Asked.{Asked}

-- whether something is done for a goal, or is to be done: it is to be looked at, is looked at, can be built, or is built
abbrev pub is_moving : Stage → Bool
is_moving Woken = true
is_moving Looked = true
is_moving Ready = true
is_moving Working = true
is_moving (Waits topic) = false
is_moving Over = false

-- whether a goal at a stage is to be looked at
abbrev pub is_woken : Stage → Bool
is_woken Woken = true
is_woken Looked = false
is_woken Ready = false
is_woken Working = false
is_woken (Waits topic) = false
is_woken Over = false

-- whether a goal at a stage is looked at
abbrev pub is_looked : Stage → Bool
is_looked Woken = false
is_looked Looked = true
is_looked Ready = false
is_looked Working = false
is_looked (Waits topic) = false
is_looked Over = false

-- whether a goal at a stage has a builder
abbrev pub is_working : Stage → Bool
is_working Woken = false
is_working Looked = false
is_working Ready = false
is_working Working = true
is_working (Waits topic) = false
is_working Over = false

-- whether a goal at a stage is looked at, or can be built
abbrev pub is_begun : Stage → Bool
is_begun Woken = false
is_begun Looked = true
is_begun Ready = true
is_begun Working = false
is_begun (Waits topic) = false
is_begun Over = false

-- whether a goal at a stage waits for a topic
abbrev pub waits_on : ℕ → Stage → Bool
waits_on topic Woken = false
waits_on topic Looked = false
waits_on topic Ready = false
waits_on topic Working = false
waits_on topic (Waits other) = other == topic
waits_on topic Over = false

-- whether a goal at a stage waits for a topic, whichever
abbrev pub is_filed : Stage → Bool
is_filed Woken = false
is_filed Looked = false
is_filed Ready = false
is_filed Working = false
is_filed (Waits topic) = true
is_filed Over = false

-- whether a goal builds the class of a topic, or leads its job
abbrev pub gives : ℕ → Goal → Bool
gives topic goal = (goal.job == topic) || (goal.class == topic)

-- whether a goal that waits for a topic hangs on another: it leads that job, or builds that class, for a user whom the first one's user reaches
abbrev pub hangs_by : Stage → ℕ → Goal → Bool
hangs_by Woken reached other = false
hangs_by Looked reached other = false
hangs_by Ready reached other = false
hangs_by Working reached other = false
hangs_by (Waits topic) reached other = (other.job == topic) || ((other.class == topic) && holds reached other.user)
hangs_by Over reached other = false

-- whether a goal hangs on another
abbrev pub hangs_on : Goal → Goal → Bool
hangs_on goal other = hangs_by goal.stage goal.reached other

-- no goal
abbrev pub no_goal : Goal
no_goal = record { user = 0; number = 0; seat = 0; class = 0; job = 0; reached = 0; stage = Over; since = 0 }

-- the goal at a place
abbrev pub goal_at : List Goal → ℕ → Goal
goal_at goals place = slice_index_or goals place no_goal

-- whether the session at a seat waits
abbrev pub is_waiting : List Bool → ℕ → Bool
is_waiting waiting seat = slice_index_or waiting seat false

-- whether a goal is under way: it is moving, and its session waits
abbrev pub is_under_way : List Bool → Goal → Bool
is_under_way waiting goal = is_moving goal.stage && is_waiting waiting goal.seat

-- the goal at one place hangs on the goal at another
abbrev pub HangsOn : List Goal → ℕ → ℕ → Type 0
HangsOn goals place other = (place < length goals) × (other < length goals) × (hangs_on (goal_at goals place) (goal_at goals other) ≡ true)

-- a chain of hanging-on leads from one goal to another
pub data LeadsTo (goals : List Goal) : ℕ → ℕ → Type 0 where
  here : (place : ℕ) → LeadsTo goals place place
  on : (place next last : ℕ) → HangsOn goals place next → LeadsTo goals next last → LeadsTo goals place last

-- the wait of a session is over: none of its goals is under way, and no chain leads from one of them to a goal that is
abbrev pub IsOver : List Goal → List Bool → ℕ → Type 0
IsOver goals waiting seat =
    (own last : ℕ) → own < length goals → (goal_at goals own).seat ≡ seat → LeadsTo goals own last
    → is_under_way waiting (goal_at goals last) ≡ false

-- a goal at another stage
abbrev pub at_stage : Stage → Goal → Goal
at_stage stage g = record {
  user = g.user;
  number = g.number;
  seat = g.seat;
  class = g.class;
  job = g.job;
  reached
      = g.reached;
  stage = stage;
  since = g.since;
}

-- whether a goal is one of a session
abbrev pub belongs : ℕ → Goal → Bool
belongs seat goal = goal.seat == seat

-- whether a goal of a session is to be looked at
abbrev pub is_woken_of : ℕ → Goal → Bool
is_woken_of seat goal = is_woken goal.stage && belongs seat goal

-- a goal whose session looks, from an arrival on
abbrev pub looked : ℕ → Goal → Goal
looked now g = record {
  user = g.user;
  number = g.number;
  seat = g.seat;
  class = g.class;
  job = g.job;
  reached
      = g.reached;
  stage = Looked;
  since = now;
}

-- a goal whose user reaches those
abbrev pub reaching : ℕ → Goal → Goal
reaching reached g = record {
  user = g.user;
  number = g.number;
  seat = g.seat;
  class = g.class;
  job = g.job;
  reached
      = reached;
  stage = g.stage;
  since = g.since;
}

-- a goal that came on the board; its session is to look
abbrev pub new_goal : Asked → Goal
new_goal a = record { user = a.user; number = a.number; seat = a.seat; class = a.class; job = a.job; reached = a.reached; stage = Woken; since = 0 }

-- whether a goal of a session is looked at, or can be built
abbrev pub is_begun_of : ℕ → Goal → Bool
is_begun_of seat goal = is_begun goal.stage && belongs seat goal
