use Rattle.std.proofs.Common.{◌≡◌, ◌+◌, suc, ◌≤◌, length, ap, sym, subst, ◌∙◌, arith}
use Rattle.std.specs.Prelude.{filter}
use Rattle.std.proofs.lemmas.List.{nil_from_length}
use Rattle.std.proofs.lemmas.Bool.Decides.{nat_tests}
use Rattle.desk_records.specs.RecordLists.{is_recorded_at}
use Rattle.outputs.specs.Reaching.{has_class, below_at, fresh_at, chosen, IsReached}
use Rattle.outputs.proofs.SameLemmas.{same_as_nothing}
use Rattle.outputs.proofs.StepLemmas.{stays}
use Rattle.outputs.proofs.below.all_steps.Goals as goal

pub loop-step-preserved : goal.loop-step-preserved
loop-step-preserved c =
    let inputs = c.args.inputs.now.keys in
    let k = c.loop-step._step in
    let one : suc k ≡ k + 1 = omega arith in
    subst (λ n. IsReached c.args.desk.now.records inputs n c.one_step.new.reached) one (c.in_ok-one_step.ensures k c.loop-step.invariant)

pub returns-then-is_empty : goal.returns-then-is_empty
returns-then-is_empty c =
    let records = c.args.desk.now.records in
    let inputs = has_class c.args.inputs.now.keys in
    let k = c.loop-step._step in
    let long = c.record_count-step-end.ensures.count in
    let le : k ≤ length records = omega (arith, long) in
    let empty : length c.fresh.result.now ≡ 0 = grind (arith, nat_tests) in
    let none = sym c.fresh.ensures ∙ nil_from_length c.fresh.result.now empty in
    let nothing = same_as_nothing (chosen (fresh_at records inputs k) records)
    (λ class path. ap (filter (is_recorded_at class path)) (sym none) ∙ c.loop-step.invariant.fresh class path) in
    let later = stays records inputs k nothing (length records) le in
    λ class path. ap (filter (is_recorded_at class path)) c.into_records.ensures ∙ c.loop-step.invariant.all class path
    ∙ (λ i. filter (is_recorded_at class path) (chosen (λ own at. sym (later own at) i) records))

pub returns : goal.returns
returns c =
    let records = c.args.desk.now.records in
    let inputs = has_class c.args.inputs.now.keys in
    let long = c.record_count-step-end.ensures.count in
    let all : c.loop-step._step ≡ length records = omega (arith, long) in
    λ class path. ap (filter (is_recorded_at class path)) c.into_records-2.ensures ∙ c.loop-step.invariant.all class path
    ∙ ap (λ n. filter (is_recorded_at class path) (chosen (below_at records inputs n) records)) all
