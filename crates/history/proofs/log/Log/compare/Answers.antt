use Rattle.std.proofs.Common.{rules, ap, ◌∙◌}
use Rattle.history.specs.Tokens.{both}
use Rattle.history.proofs.TokenLemmas.{takes_out, joins_as, compares_as}
use Rattle.history.proofs.log.Log.compare.Goals as goal

pub split_seat-taken-requires : goal.split_seat-taken-requires
split_seat-taken-requires g c = (search rules, search rules, takes_out _ _ (ap (λ m. m.0.claims) c.claim.invariant.1))

pub join_seat-requires : goal.join_seat-requires
join_seat-requires g c =
    (search rules, search rules, search rules, search rules, joins_as _ _ _ _ _ _ (ap (λ m. m.0) c.self.invariant.3) (ap (λ m. m.0) c.split_seat-taken.ensures.4))

pub load-requires : goal.load-requires
load-requires g c =
    (search rules, search rules, compares_as _ _ _ _ _ (c.join_seat.ensures.2 ∙ ap (λ m. (both m.0.recorded c.split_seat-taken.result.me.0.claimed, m.1)) c.self.invariant.3))

pub split_seat-requires : goal.split_seat-requires
split_seat-requires g c = (search rules, search rules, takes_out _ _ (ap (λ m. m.0.claims) c.load.ensures.2.0))
