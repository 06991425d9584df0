use Rattle.std.proofs.Common.{rules, ◌≡◌, ◌+◌, ◌⊎◌, sym, ◌∙◌, drop, length, arith, inl, inr}
use Rattle.records.proofs.LoopLemmas.{drop_next}
use Rattle.choose.proofs.LabelLemmas.{before_first, after_first, before_rest, before_end}
use Rattle.choose.proofs.order.are_labels_before.Goals as goal
use Rattle.choose.proofs.order.are_labels_before.Goals.{then-loop-index-test+else-index-other, else-loop-index-test}

pub returns-then-is_label_before : goal.returns-then-is_label_before
returns-then-is_label_before c =
    let one = c.args.one.now in
    let other = c.args.other.now in
    let k = c.loop-index.index in
    let x = c.index-one-index.result in
    let y = c.index-other-index.result in
    let first = drop_next one k x c.loop-index-test.true c.index-one-index.is in
    let second = drop_next other k y c.if-index-other.true c.index-other-index.is in
    sym (before_first x y (drop (k + 1) one) (drop (k + 1) other) (drop k one) (drop k other) first second
    (sym c.is_label_before.ensures ∙ c.if-is_label_before.true)) ∙ c.loop-index.invariant.rest

pub returns-then-is_label_before-2 : goal.returns-then-is_label_before-2
returns-then-is_label_before-2 c =
    let one = c.args.one.now in
    let other = c.args.other.now in
    let k = c.loop-index.index in
    let x = c.index-one-index.result in
    let y = c.index-other-index.result in
    let first = drop_next one k x c.loop-index-test.true c.index-one-index.is in
    let second = drop_next other k y c.if-index-other.true c.index-other-index.is in
    sym (after_first x y (drop (k + 1) one) (drop (k + 1) other) (drop k one) (drop k other) first second (search rules) (search rules))
    ∙ c.loop-index.invariant.rest

pub loop-index-preserved : goal.loop-index-preserved
loop-index-preserved c =
    let one = c.args.one.now in
    let other = c.args.other.now in
    let k = c.loop-index.index in
    let x = c.index-one-index.result in
    let y = c.index-other-index.result in
    let first = drop_next one k x c.loop-index-test.true c.index-one-index.is in
    let second = drop_next other k y c.if-index-other.true c.index-other-index.is in
    record {
      in_one = omega arith;
      in_other = omega arith;
      rest = before_rest x y (drop (k + 1) one) (drop (k + 1) other) (drop k one) (drop k other) first second (search rules) (search rules)
          ∙ c.loop-index.invariant.rest;
    }

pub returns : goal.returns
returns c =
    let one = c.args.one.now in
    let other = c.args.other.now in
    let k = c.loop-index.index in
    let in_one = c.loop-index.invariant.in_one in
    let in_other = c.loop-index.invariant.in_other in
    let ended : (k ≡ length one) ⊎ (k ≡ length other) = elim c.loop-index-test.branch [
      | then-loop-index-test+else-index-other w ↦ inr (omega arith)
      | else-loop-index-test w ↦ inl (omega arith)
    ] in
    sym (before_end one other k in_one in_other ended) ∙ c.loop-index.invariant.rest
