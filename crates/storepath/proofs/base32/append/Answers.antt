use Rattle.std.proofs.Common.{ℕ, ◌+◌, ◌*◌, ◌%◌, ◌<◌, ◌≢◌, length, refl, arith, ◌∙◌}
use Rattle.std.proofs.lemmas.List.{get_or-set_other}
use Rattle.model.specs.Paths.{number_of}
use Rattle.storepath.proofs.NumberLemmas.{append_step, append_end, IsFolded-set}
use Rattle.storepath.proofs.base32.append.Goals as goal

pub loop-place-init : goal.loop-place-init
unfolding number_of
loop-place-init c = record {
  multiplied = omega arith;
  same = λ k h. refl;
  carry = c.requires.digit;
  folded = record { bytes = c.fits-number; length = c.told-number };
}

pub loop-place-preserved : goal.loop-place-preserved
loop-place-preserved c =
    let now = c.loop-place.number in
    let p : ℕ = c.loop-place.place in
    let inside : p < length now = omega arith in
    record {
      multiplied = append_step c.args.number.now now p c.loop-place.carry c.args.digit c.from.result (omega arith) inside c.from.ensures (c.from.ensures ∙ c.loop-place.invariant.same p (omega arith)) c.loop-place.invariant.multiplied;
      same = λ k h. let other : k ≢ p = omega arith in get_or-set_other now p k _ 0 other ∙ c.loop-place.invariant.same k (omega arith);
      carry = omega (arith, c.fits-number p, c.loop-place.invariant.same p (omega arith), c.from.ensures);
      folded = IsFolded-set now p ((c.from.result * 32 + c.loop-place.carry) % 256) c.loop-place.invariant.folded (omega arith);
    }

pub returns-clause-value : goal.returns-clause-value
returns-clause-value c =
    append_end c.args.number.now c.loop-place.number c.loop-place.place c.loop-place.carry c.args.digit (omega arith) (omega arith) c.loop-place.invariant.folded.length c.requires.digit c.requires.fits c.loop-place.invariant.multiplied
