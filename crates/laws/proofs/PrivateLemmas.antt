-- The main theorem, from the laws.
use Rattle.std.proofs.Common.{◌≡◌, List, ap, ◌∙◌}
use Rattle.model.specs.Worlds.{Setup, nothing}
use Rattle.model.specs.Events.{Event}
use Rattle.model.specs.Replies.{Answer}
use Rattle.model.specs.Steps.{answers, replies_to}
use Rattle.model.specs.GivenClosures.{GiveGoodClosures}
use Rattle.model.specs.Laws.{IsIsolated, IsTimelyIsolated}
use Rattle.model.specs.Private.{ArePrivate}

pub are_private : IsIsolated → IsTimelyIsolated → (setup : Setup) (events : List Event) (told : List Answer)
    → told ≡ answers setup nothing events → GiveGoodClosures setup nothing events → ArePrivate setup events told
are_private isolated timely setup events told same good = record {
  same = same;
  isolated = λ u. ap (replies_to u) same ∙ isolated setup events u;
  timed = λ u. ap (replies_to u) same ∙ (timely setup u).replies events;
  good = good;
}
