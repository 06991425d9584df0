use Rattle.std.proofs.Common.{rules, sym, ap, ◌∙◌, ◌++◌, ◌∷◌, []}
use Rattle.history.specs.declared.log.Recorded.{Recorded}
use Rattle.history.specs.declared.log.Claimed.{Claimed}
use Rattle.history.specs.Tokens.{both}
use Rattle.history.proofs.TokenLemmas.{takes_out, joins_as, grows_as}
use Rattle.history.proofs.log.Log.grow_to.Goals as goal

pub split_seat-taken-requires : goal.split_seat-taken-requires
split_seat-taken-requires g c = (search rules, search rules, takes_out _ _ (ap (λ m. m.0.claims) c.claim.invariant.1))

pub join_seat-requires : goal.join_seat-requires
join_seat-requires g c =
    (search rules, search rules, search rules, search rules, joins_as _ _ _ _ _ _ (ap (λ m. m.0) c.self.invariant.3) (ap (λ m. m.0) c.split_seat-taken.ensures.4))

pub load-requires : goal.load-requires
load-requires g c =
    let joined = c.join_seat.ensures.2 ∙ ap (λ m. (both m.0.recorded c.split_seat-taken.result.me.0.claimed, m.1)) c.self.invariant.3 in
    let rows = c.requires.rows ∙ ap (λ (b : Recorded). b.rows ++ c.args.row.now ∷ []) (sym c.self.view_is) in
    let mine = c.requires.mine ∙ ap (λ (b : Claimed). b.number) (sym (ap (λ m. m.0.claimed) c.split_seat-taken.ensures.4 ∙ c.claim.view_is)) in
    (search rules, search rules, grows_as _ _ _ _ _ _ c.args.row.now joined rows mine)

pub split_seat-requires : goal.split_seat-requires
split_seat-requires g c = (search rules, search rules, takes_out _ _ (ap (λ m. m.0.claims) c.load.ensures.2))
