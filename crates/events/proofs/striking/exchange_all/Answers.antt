use Rattle.std.proofs.Common.{◌≡◌, ◌<◌, ◌+◌, ◌∷◌, ◌++◌, [], ◌∙◌, ap, sym, subst, length, rules}
use Rattle.std.specs.Prelude.{map}
use Rattle.std.proofs.lemmas.List.{length-map, map_push}
use Rattle.trust.specs.Trusting.{trusts}
use Rattle.events.specs.Terms.{event_of}
use Rattle.events.proofs.KeepingLemmas.{IsTurning, turning_first, turning_next}
use Rattle.events.proofs.striking.exchange_all.Goals as goal

pub loop-turn-init : goal.loop-turn-init
loop-turn-init c = turning_first c.args.users.now (trusts c.args.trust.now) (map event_of c.args.events.now.items)

pub loop-turn-preserved : goal.loop-turn-preserved
loop-turn-preserved c =
    let l = c.loop-turn in
    let left = map event_of c.pop_front.new.self.items in
    let popped : l.events.items ≡ c.in-Some.event ∷ c.pop_front.new.self.items = c.in-Some.ensures.items in
    let pushed : map event_of c.push_back_reserved.new.self.items ≡ left ++ event_of c.exchange-back.result ∷ [] =
    ap (map event_of) c.push_back_reserved.ensures.items ∙ map_push event_of c.pop_front.new.self.items c.exchange-back.result in
    let below : l._turn < length (map event_of c.args.events.now.items) = search (rules, length-map) in
    subst
    (λ items. IsTurning c.args.users.now (trusts c.args.trust.now) (map event_of c.args.events.now.items) items (trusts c.exchange-back.new.trust) (l._turn + 1))
    (sym pushed)
    (turning_next c.args.users.now (trusts c.args.trust.now) (map event_of c.args.events.now.items) (map event_of l.events.items) left (trusts l.trust) l._turn
    (event_of c.in-Some.event) (event_of c.exchange-back.result) (trusts c.exchange-back.new.trust) l.invariant below (ap (map event_of) popped)
    c.exchange-back.ensures.back c.exchange-back.ensures.now)
