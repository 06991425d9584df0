use Rattle.std.proofs.Common.{◌≡◌, ℕ, List, ◌<◌, ◌++◌, length, get_or, ap, sym, ◌∙◌, arith}
use Rattle.std.specs.Prelude.{filter}
use Rattle.std.proofs.lemmas.List.{take_all}
use Rattle.desk_records.specs.RecordLists.{is_record_of, is_recorded_at}
use Rattle.outputs.proofs.StepLemmas.{joined, joined_more, of_classes}
use Rattle.outputs.proofs.below.records_of.Goals as goal

pub loop-class-preserved : goal.loop-class-preserved
loop-class-preserved c =
    let records = c.args.desk.now.records in
    let classes = c.args.classes.now.keys in
    let i = c.loop-class.class-index in
    let class = c.class-item.result in
    let long = ap length c.as_slice-class-items.ensures.keys in
    let lt : i < length classes = omega (arith, long) in
    let here : class ≡ get_or classes i class = c.class-item.is ∙ ap (λ cs. get_or cs i class) c.as_slice-class-items.ensures.keys in
    c.in_ok-push_group.ensures ∙ (λ j. c.loop-class.invariant j ++ c.records_of.ensures j)
    ∙ sym (joined_more (λ (own : List ℕ). filter (is_record_of own) records) classes i class lt here)

pub returns : goal.returns
returns c =
    let records = c.args.desk.now.records in
    let classes = c.args.classes.now.keys in
    let long = ap length c.as_slice-class-items.ensures.keys in
    let all = take_all c.loop-class.class-index classes (omega (arith, long)) in
    let found = c.loop-class.invariant ∙ ap (joined (λ (own : List ℕ). filter (is_record_of own) records)) all in
    λ class path. ap (filter (is_recorded_at class path)) found ∙ of_classes classes records c.as_slice-class-items.ensures.unique class path
