-- The goals of all sessions, how far each is, and what may wake it.
use Rattle.std.specs.Prelude.{◌≡◌, ℕ, ◌+◌, ◌-◌, ◌<◌, ◌^◌, ◌||◌, min, nat_lt, Bool, true, false, List, [], ◌∷◌, ◌++◌}
use Rattle.std.specs.Prelude.{length, replicate, All, slice_index, slice_index_or, slice_set}
use Rattle.model.specs.Limits.{most_users}
use Rattle.board.specs.declared.stage.Goal.{Goal}
use Rattle.board.specs.declared.goals.Topic.{Topic}
use Rattle.board.specs.Stages.{gives, waits_on}
use Rattle.board.specs.Rows.{CoversIn, is_in}

-- the goals by their places; which sessions wait; when each topic came last, as a count of all arrivals; that count; when something came last that
-- had no topic; and when trust changed last
pub record GoalsView : Type 0 where
  pub goals : List Goal
  pub waiting : List Bool
  pub lasts : List ℕ
  pub arrivals : ℕ
  pub missed : ℕ
  pub trusted : ℕ

abbrev pub topic_at : List Topic → ℕ → Topic
topic_at topics topic = slice_index_or topics topic (record { watchers = []; givers = [] })

-- a goal is of a user, and of topics
pub record IsWithin (topics : ℕ) (goal : Goal) : Type 0 where
  pub user : goal.user < most_users
  pub job : goal.job < topics
  pub class : goal.class < topics

-- whoever waits for a topic is among its watchers, and whoever gives it among its givers
pub record AreKept (goals : List Goal) (topics : List Topic) (lasts : List ℕ) : Type 0 where
  pub as_many : length topics ≡ length lasts
  pub within : All (IsWithin (length lasts)) goals
  pub watched : (topic : ℕ) → CoversIn (λ g. waits_on topic g.stage) goals (topic_at topics topic).watchers
  pub given : (topic : ℕ) → CoversIn (gives topic) goals (topic_at topics topic).givers

-- a place more is among the givers of a topic, and nothing was lost
pub record AreMoreGivers (topic place : ℕ) (old new : List Topic) : Type 0 where
  pub as_many : length new ≡ length old
  pub watchers : (other : ℕ) → (topic_at new other).watchers ≡ (topic_at old other).watchers
  pub kept : (other at : ℕ) → is_in at (topic_at old other).givers ≡ true → is_in at (topic_at new other).givers ≡ true
  pub put : is_in place (topic_at new topic).givers ≡ true

-- no goals and no topics; no session waits
abbrev pub no_goals : ℕ → GoalsView
no_goals sessions = record { goals = []; waiting = replicate sessions false; lasts = []; arrivals = 0; missed = 0; trusted = 0 }

-- a topic more: what had no topic may have been it
abbrev pub with_topic : GoalsView → GoalsView
with_topic b =
    record { goals = b.goals; waiting = b.waiting; lasts = b.lasts ++ b.missed ∷ []; arrivals = b.arrivals; missed = b.missed; trusted = b.trusted }

-- the goals are these
abbrev pub with_goals : List Goal → GoalsView → GoalsView
with_goals goals b =
    record { goals = goals; waiting = b.waiting; lasts = b.lasts; arrivals = b.arrivals; missed = b.missed; trusted = b.trusted }

-- a goal more
abbrev pub with_more : Goal → GoalsView → GoalsView
with_more goal b = with_goals (b.goals ++ goal ∷ []) b

-- the goal at a place is this, and nothing else has changed
abbrev pub with_goal : ℕ → Goal → GoalsView → GoalsView
with_goal place goal b = with_goals (slice_set b.goals place goal) b

-- one more has come
abbrev pub one_more : ℕ → ℕ
one_more arrivals = min (arrivals + 1) (2 ^ 64 - 1)

-- a topic has come last; of other topics and of sessions nothing has changed
pub record IsCome (topic : ℕ) (old new : GoalsView) : Type 0 where
  pub arrivals : new.arrivals ≡ one_more old.arrivals
  pub lasts : new.lasts ≡ slice_set old.lasts topic new.arrivals
  pub waiting : new.waiting ≡ old.waiting
  pub missed : new.missed ≡ old.missed
  pub trusted : new.trusted ≡ old.trusted

-- something came that had no topic
abbrev pub with_missed : GoalsView → GoalsView
with_missed b =
    let now = one_more b.arrivals in
    record { goals = b.goals; waiting = b.waiting; lasts = b.lasts; arrivals = now; missed = now; trusted = b.trusted }

-- trust has changed; of topics and of sessions nothing has
pub record IsTrustChanged (old new : GoalsView) : Type 0 where
  pub arrivals : new.arrivals ≡ one_more old.arrivals
  pub trusted : new.trusted ≡ new.arrivals
  pub lasts : new.lasts ≡ old.lasts
  pub waiting : new.waiting ≡ old.waiting
  pub missed : new.missed ≡ old.missed

-- whether a topic has come, or trust has changed, since an arrival
abbrev pub has_moved : GoalsView → ℕ → ℕ → Bool
has_moved b topic since = nat_lt since (slice_index b.lasts topic) || nat_lt since b.trusted

-- a session waits, or does not
abbrev pub with_wait : ℕ → Bool → GoalsView → GoalsView
with_wait seat waits b =
    record { goals = b.goals; waiting = slice_set b.waiting seat waits; lasts = b.lasts; arrivals = b.arrivals; missed = b.missed; trusted = b.trusted }

-- of topics, sessions and arrivals nothing has changed
abbrev pub IsSameBut : GoalsView → GoalsView → Type 0
IsSameBut old new = new ≡ with_goals new.goals old
