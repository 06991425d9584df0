use Rattle.std.proofs.Common.{◌≡◌, ◌<◌, ◌+◌, ℕ, List, length, drop, get_or, true, cond, ap, ◌∙◌, arith}
use Rattle.std.specs.Prelude.{bytes_eq}
use Rattle.model.proofs.BoolLemmas.{bytes_eq_sym}
use Rattle.records.proofs.LoopLemmas.{drop_next, found_next}
use Rattle.outputs.specs.Reaching.{has_class}
use Rattle.outputs.proofs.below.classes_of.Goals as goal

pub loop-pair-preserved : goal.loop-pair-preserved
loop-pair-preserved c class =
    let pairs = c.args.named.now.keys in
    let i = c.loop-pair.pair-index in
    let pair = c.pair-item.result in
    let long = ap length c.as_slice-pair-items.ensures.keys in
    let lt : i < length pairs = omega (arith, long) in
    let here : pair ≡ get_or pairs i pair = c.pair-item.is ∙ ap (λ ps. get_or ps i pair) c.as_slice-pair-items.ensures.keys in
    let old = has_class c.loop-pair.classes.keys class in
    let new = has_class c.insert.new.self.keys class in
    let found : new ≡ cond (bytes_eq class pair.1) true old =
    c.in_ok-_is_new.ensures.updates.0 class
    ∙ (λ j. cond (bytes_eq (c.in_ok-clone.ensures.cases j) class) true old) ∙ (λ j. cond (bytes_eq_sym pair.1 class j) true old) in
    found_next (λ (p : List ℕ × List ℕ). bytes_eq class p.1) old new _ pair (drop i pairs) (drop (i + 1) pairs) (drop_next pairs i pair lt here) found
    (c.loop-pair.invariant class)
