-- The main theorem: what is promised of the answers to the events of a run.
use Rattle.std.specs.Prelude.{◌≡◌, ℕ, List}
use Rattle.model.specs.Worlds.{Setup, nothing}
use Rattle.model.specs.Events.{Event}
use Rattle.model.specs.Replies.{Answer}
use Rattle.model.specs.Steps.{answers, replies_to, replies}
use Rattle.model.specs.Striking.{strike}
use Rattle.model.specs.Timed.{strike_timed}
use Rattle.model.specs.GivenClosures.{GiveGoodClosures}

-- the answers to these events are those of private desks, each user's are those to the events that can reach him, for all time or by trust
-- held at the times concerned, and the closures that are given are good
pub record ArePrivate (setup : Setup) (events : List Event) (told : List Answer) : Type 0 where
  pub same : told ≡ answers setup nothing events
  pub isolated : (u : List ℕ) → replies_to u told ≡ replies setup u (strike setup u events)
  pub timed : (u : List ℕ) → replies_to u told ≡ replies setup u (strike_timed setup u events)
  pub good : GiveGoodClosures setup nothing events
