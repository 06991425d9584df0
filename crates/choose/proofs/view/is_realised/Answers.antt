use Rattle.std.proofs.Common.{◌+◌, ◌∙◌, drop}
use Rattle.records.proofs.LoopLemmas.{drop_next}
use Rattle.choose.proofs.RealisedLemmas.{found_on, absent_on, found_next, absent_next}
use Rattle.choose.proofs.view.is_realised.Goals as goal

pub returns-then-len-gt0 : goal.returns-then-len-gt0
returns-then-len-gt0 c =
    let desks = c.args.desks.now in
    let k = c.loop-desk.desk-index in
    let class = c.args.class.now in
    found_next class c.desk-item.result (drop (k + 1) desks) (drop k desks) (drop_next desks k c.desk-item.result c.loop-desk-test.true c.desk-item.is)
    (found_on class c.desk-item.result c.records_of.result c.len.result c.records_of.ensures c.len.ensures.value c.if-len-gt0.true)
    ∙ c.loop-desk.invariant

pub loop-desk-preserved : goal.loop-desk-preserved
loop-desk-preserved c =
    let desks = c.args.desks.now in
    let k = c.loop-desk.desk-index in
    let class = c.args.class.now in
    absent_next class c.desk-item.result (drop (k + 1) desks) (drop k desks) (drop_next desks k c.desk-item.result c.loop-desk-test.true c.desk-item.is)
    (absent_on class c.desk-item.result c.records_of.result c.len.result c.records_of.ensures c.len.ensures.value c.if-len-gt0.false)
    ∙ c.loop-desk.invariant
