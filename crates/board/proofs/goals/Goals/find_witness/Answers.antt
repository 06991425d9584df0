use Rattle.std.proofs.Common.{rules, ◌≡◌, ◌<◌, length, take, arith}
use Rattle.board.specs.Chains.{IsFollowed, IsLedTo}
use Rattle.board.proofs.SearchLemmas.{witness_own, witness_next, led_own, led_step, begun_still, followed_more}
use Rattle.board.proofs.SearchLemmas.{over_followed, in_place, longer_length, taken_whole}
use Rattle.board.proofs.goals.Goals.find_witness.Goals as goal

pub returns-in-Some-clause-found : goal.returns-in-Some-clause-found
returns-in-Some-clause-found c = witness_own c.args.self.now c.args.seat c.in-Some.own (rw c.in-Some.is at c.in_ok-own.ensures.found)

pub loop-passed-init : goal.loop-passed-init
loop-passed-init c = record {
  size = search rules;
  within = search rules;
  begun = rw c.in_default.is at c.in_ok-own.ensures.all;
  led = led_own c.args.self.now.goals c.args.seat c.begin.new.chain.places c.begin.ensures.of;
  followed = λ place is. absurd (cc);
}

pub returns-in-Some-2-clause-found : goal.returns-in-Some-2-clause-found
returns-in-Some-2-clause-found c =
    let led : IsLedTo c.args.self.now.goals c.args.seat c.place-place.result = c.loop-passed.invariant.led
    c.place-place.result (rw c.place-place.ensures.place (in_place c.loop-passed.passed c.loop-passed.chain.places (omega arith))) in
    witness_next c.args.self.now c.args.seat c.place-place.result c.in-Some-2.next led (rw c.in-Some-2.is at c.in_ok-next.ensures.found)

pub loop-passed-preserved : goal.loop-passed-preserved
loop-passed-preserved c =
    let b = c.args.self.now in
    let old = c.loop-passed.chain.places in
    let new = c.follow.new.chain.places in
    let i = c.loop-passed.passed in
    let place = c.place-place.result in
    let lt : i < length old = omega arith in
    let led : IsLedTo b.goals c.args.seat place = c.loop-passed.invariant.led place (rw c.place-place.ensures.place (in_place i old lt)) in
    let now : IsFollowed b.goals b.waiting new place = rw c.in_default-2.is at c.in_ok-next.ensures.all in
    record {
      size = search rules;
      within = omega (arith, longer_length old new c.follow.ensures.kept);
      begun = begun_still b.goals b.waiting old new c.args.seat c.follow.ensures.kept c.loop-passed.invariant.begun;
      led = led_step b.goals c.args.seat place old new c.loop-passed.invariant.led led c.follow.ensures.from;
      followed = followed_more b.goals b.waiting old new place i lt c.place-place.ensures.place c.follow.ensures.kept
          c.loop-passed.invariant.followed now;
    }

pub returns-clause-over : goal.returns-clause-over
returns-clause-over c =
    let b = c.args.self.now in
    let places = c.loop-passed.chain.places in
    let all : take c.loop-passed.passed places ≡ places = taken_whole c.loop-passed.passed places (omega arith) in
    over_followed b.goals b.waiting places c.args.seat c.loop-passed.invariant.begun (λ p is. c.loop-passed.invariant.followed p (rw all is))
