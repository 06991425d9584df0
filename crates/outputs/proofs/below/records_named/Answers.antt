use Rattle.std.proofs.Common.{ℕ, List, ◌<◌, ◌++◌, length, ap, sym, subst, ◌∙◌, arith}
use Rattle.std.specs.Prelude.{filter, bytes_eq}
use Rattle.std.specs.List.{IsDistinct}
use Rattle.std.proofs.lemmas.List.{take_all}
use Rattle.desk_records.specs.RecordLists.{is_record_of, is_recorded_at}
use Rattle.outputs.specs.Reaching.{has_class, is_record_named}
use Rattle.outputs.proofs.StepLemmas.{joined, joined_more, of_named}
use Rattle.outputs.proofs.below.records_named.Goals as goal

pub loop-class-preserved : goal.loop-class-preserved
loop-class-preserved c =
    let records = c.args.desk.now.records in
    let named = c.args.named.now.keys in
    let classes = c.as_slice-class-items.result.now in
    let i = c.loop-class.class-index in
    let class = c.class-item.result in
    let lt : i < length classes = omega arith in
    c.in_ok-push_named.ensures ∙ (λ j. c.loop-class.invariant j ++ filter (is_record_named named) (c.records_of.ensures j))
    ∙ sym (joined_more (λ (own : List ℕ). filter (is_record_named named) (filter (is_record_of own) records)) classes i class lt c.class-item.is)

pub returns : goal.returns
returns c =
    let records = c.args.desk.now.records in
    let named = c.args.named.now.keys in
    let classes = c.as_slice-class-items.result.now in
    let keys = c.as_slice-class-items.ensures.keys in
    let all = take_all c.loop-class.class-index classes (omega arith) in
    let found = c.loop-class.invariant ∙ ap (joined (λ (own : List ℕ). filter (is_record_named named) (filter (is_record_of own) records))) all in
    let distinct : IsDistinct bytes_eq classes = subst (IsDistinct bytes_eq) (sym keys) c.as_slice-class-items.ensures.unique in
    λ class path. ap (filter (is_recorded_at class path)) found
    ∙ of_named named classes records distinct (λ own. ap (λ ks. has_class ks own) keys ∙ c.in_ok-classes.ensures own) class path
