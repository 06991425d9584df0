use Rattle.std.proofs.Common.{◌≡◌, length, sym, ◌∙◌, ap, arith, List, ℕ}
use Rattle.std.specs.Prelude.{is_some}
use Rattle.jobs.proofs.ForgettingLemmas.{letting_go, none_let_go, all_let_go, next_turn}
use Rattle.jobs.proofs.goals.Goals.let_go.Goals as goal

pub loop-place-init : goal.loop-place-init
loop-place-init c =
    let class = c.args.class.now in
    let path = c.args.path.now in
    sym (ap (λ (ns : List ℕ). letting_go class path c.args.self.now (length ns)) c.building-place.ensures ∙ none_let_go class path c.args.self.now)

pub bounds-building-place : goal.bounds-building-place
bounds-building-place c =
    let turn = next_turn c.args.class.now c.args.path.now c.args.self.now c.loop-place.self c.loop-place.place c.building-place.result.now
    c.building.result.now c.loop-place.invariant c.loop-place-test.true c.loop-place.auto.place c.building-place.ensures c.building.ensures in
    turn.0

pub let_one_go-requires : goal.let_one_go-requires
let_one_go-requires c =
    let turn = next_turn c.args.class.now c.args.path.now c.args.self.now c.loop-place.self c.loop-place.place c.building-place.result.now
    c.building.result.now c.loop-place.invariant c.loop-place-test.true c.loop-place.auto.place c.building-place.ensures c.building.ensures in
    ap is_some turn.2

pub loop-place-preserved : goal.loop-place-preserved
loop-place-preserved c =
    let turn = next_turn c.args.class.now c.args.path.now c.args.self.now c.loop-place.self c.loop-place.place c.building-place.result.now
    c.building.result.now c.loop-place.invariant c.loop-place-test.true c.loop-place.auto.place c.building-place.ensures c.building.ensures in
    turn.3 c.let_one_go.new.self (c.let_one_go.ensures turn.1 turn.2)

pub returns : goal.returns
returns c =
    let last : c.loop-place.place ≡ 0 = (let none = c.loop-place-test.false in omega (arith, none)) in
    c.loop-place.invariant ∙ ap (letting_go c.args.class.now c.args.path.now c.args.self.now) last
    ∙ all_let_go c.args.class.now c.args.path.now c.args.self.now
