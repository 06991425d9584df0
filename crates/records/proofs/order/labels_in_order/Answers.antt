use Rattle.std.proofs.Common.{rules, ◌≡◌, ℕ, List, MatchResult, Option, ap, sym, subst, ◌∙◌}
use Rattle.std.proofs.lemmas.Result.{MatchResult-weaker}
use Rattle.model.specs.declared.refusal.Refusal.TheVariants.{Memory}
use Rattle.model.specs.Classes.{Class}
use Rattle.model.specs.Worlds.{Label}
use Rattle.model.specs.References.{with_label, labels_in_order}
use Rattle.records.specs.Ordered.{label_at, labels_at}
use Rattle.records.specs.Recorded.{AreInPathOrder}
use Rattle.records.proofs.OrderLemmas.{put_all, put_all_none, put_last}
use Rattle.records.proofs.PathOrderLemmas.{labels_are_in_order}
use Rattle.records.proofs.order.labels_in_order.Goals as goal

pub loop-label-init : goal.loop-label-init
loop-label-init c = ap (λ entries. put_all c.args.labels.items (labels_at entries)) c.new-ordered.ensures.empty ∙ put_all_none c.args.labels.items

pub loop-label-preserved : goal.loop-label-preserved
loop-label-preserved c =
    let left = c.pop.new.self.items in
    let ordered = labels_at c.loop-label.ordered.entries in
    ap (put_all left) c.in_ok-put_label.ensures
    ∙ ap (λ (parts : List ℕ × Option Class). put_all left (with_label (label_at parts) ordered)) c.into_parts-path.ensures
    ∙ sym (put_last left c.in-Some.label ordered) ∙ ap (λ (labels : List Label). put_all labels ordered) (sym c.in-Some.ensures.items) ∙ c.loop-label.invariant

pub returns-clause-in_order : goal.returns-clause-in_order
returns-clause-in_order c =
    let labels = c.args.labels.items in
    let is : MatchResult c.labels_at.result (λ ordered. ordered.items ≡ labels_in_order labels) (λ e. e ≡ Memory) = search rules in
    MatchResult-weaker c.labels_at.result is (λ ordered same. subst AreInPathOrder (sym same) (labels_are_in_order labels)) (λ e memory. tt)
