use Rattle.std.proofs.Common.{◌≡◌, ◌++◌, ◌∷◌, [], ◌∙◌, ap, refl, rules, arith, length, ℕ, List}
use Rattle.std.specs.Prelude.{map}
use Rattle.std.specs.Vec.Iter.{into_iter_items, into_iter_len}
use Rattle.std.proofs.lemmas.List.{map_push}
use Rattle.std.proofs.lemmas.Result.{err_from_is_err_and}
use Rattle.model.specs.Worlds.{Status}
use Rattle.endings.specs.DeskDeltas.{delta_in, DeskDelta, delta_of, with_delta, status_of_built, all_statuses, status_at}
use Rattle.endings.proofs.DeltaLemmas.{nothing_left, delta_next, delta_end, statuses_next, statuses_end}
use Rattle.endings.proofs.delta.delta_for.Goals as goal

pub take_in-requires : goal.take_in-requires
take_in-requires c = record { records = c.requires.records; charge = c.loop-number.invariant.charge }

pub returns-in_err-status : goal.returns-in_err-status
returns-in_err-status c =
    let p = err_from_is_err_and c.from_residual.result c.from_residual.ensures.1 in
    rw (p.1, p.2) (record { delta = tt; statuses = tt; charge = tt; memory = c.in_err-status.ensures.memory })

pub returns-in_err-push : goal.returns-in_err-push
returns-in_err-push c =
    let p = err_from_is_err_and c.from_residual-in_err-push.result c.from_residual-in_err-push.ensures.1 in
    rw (p.1, p.2) (record { delta = tt; statuses = tt; charge = tt; memory = refl })

pub loop-number-preserved : goal.loop-number-preserved
loop-number-preserved c =
    let limit : ℕ = c.args.limits.charge in
    let g : DeskDelta = delta_in c.loop-number.delta in
    let xs = into_iter_items c.loop-number.number-iterator in
    let rest = into_iter_items c.next.new.self in
    let is : xs ≡ (c.in-Some.number, c.in-Some.built) ∷ rest = c.in-Some.ensures.steps.0 in
    let made : delta_in c.take_in.new.self ≡ delta_of limit c.args.desk.now c.in-Some.built g = search rules in
    let status : status_at (c.in-Some.number, c.in_ok-status.status) ≡ (c.in-Some.number, status_of_built limit c.in-Some.built (with_delta g c.args.desk.now)) =
    ap (λ (s : Status). (c.in-Some.number, s)) c.in_ok-status.ensures.status in
    let told : List (ℕ × Status) = map status_at c.loop-number.statuses.items in
    let pushed : map status_at c.push.new.self.items ≡ told ++ status_at (c.in-Some.number, c.in_ok-status.status) ∷ [] =
    ap (map status_at) c.in_ok-push.ensures.items ∙ map_push status_at c.loop-number.statuses.items (c.in-Some.number, c.in_ok-status.status) in
    record {
      delta = delta_next limit c.args.desk.now xs rest (c.in-Some.number, c.in-Some.built) g (delta_in c.take_in.new.self) is made
          ∙ c.loop-number.invariant.delta;
      statuses = ap (λ ss. ss ++ all_statuses limit c.args.desk.now rest (delta_in c.take_in.new.self)) pushed
          ∙ statuses_next limit c.args.desk.now xs rest (c.in-Some.number, c.in-Some.built) g (delta_in c.take_in.new.self) told _ is made status
          ∙ c.loop-number.invariant.statuses;
      left = (let was = c.loop-number.invariant.left in let gone = c.in-Some.ensures.steps.1 in let short = ap length is in omega arith);
      charge = c.in_ok-status.ensures.charge;
    }

pub returns-clause-delta : goal.returns-clause-delta
returns-clause-delta c =
    let none : into_iter_items c.loop-number.number-iterator ≡ [] =
    nothing_left (into_iter_len c.loop-number.number-iterator) (into_iter_items c.loop-number.number-iterator) c.loop-number.invariant.left
    c.in-None.ensures.steps.0 in
    delta_end c.args.limits.charge c.args.desk.now (into_iter_items c.loop-number.number-iterator) (delta_in c.loop-number.delta) none
    ∙ c.loop-number.invariant.delta

pub returns-clause-statuses : goal.returns-clause-statuses
returns-clause-statuses c =
    let none : into_iter_items c.loop-number.number-iterator ≡ [] =
    nothing_left (into_iter_len c.loop-number.number-iterator) (into_iter_items c.loop-number.number-iterator) c.loop-number.invariant.left
    c.in-None.ensures.steps.0 in
    statuses_end c.args.limits.charge c.args.desk.now (into_iter_items c.loop-number.number-iterator) (delta_in c.loop-number.delta)
    (map status_at c.loop-number.statuses.items) none
    ∙ c.loop-number.invariant.statuses
