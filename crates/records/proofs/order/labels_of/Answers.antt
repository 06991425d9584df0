use Rattle.std.proofs.Common.{◌≡◌, sym, subst, ◌∙◌}
use Rattle.std.specs.Prelude.{MatchResult, bytes_eq}
use Rattle.std.specs.List.{list_any}
use Rattle.std.proofs.lemmas.List.Elements.{filter_agree}
use Rattle.std.proofs.lemmas.Result.{MatchResult-weaker}
use Rattle.model.specs.declared.refusal.Refusal.TheVariants.{Memory}
use Rattle.model.specs.Worlds.{Label}
use Rattle.model.specs.Classes.{is_one_of}
use Rattle.model.specs.References.{labels_of}
use Rattle.records.specs.Recorded.{AreInPathOrder}
use Rattle.records.proofs.PathOrderLemmas.{chosen_in_order}
use Rattle.records.proofs.order.labels_of.Goals as goal

module _ (c : goal.After-drop-among-inside-4) where
  chosen : MatchResult c.labels_among.result (λ chosen. chosen.items ≡ labels_of c.args.paths.now c.args.labels.now) (λ e. e ≡ Memory)
  chosen =
      let same = filter_agree (λ (l : Label). list_any (bytes_eq l.path) c.in_ok-among.among.keys) (λ (l : Label). is_one_of c.args.paths.now l.path)
      (λ l. c.in_ok-among.ensures l.path) c.args.labels.now in
      MatchResult-weaker c.labels_among.result c.labels_among.ensures (λ chosen is. is ∙ same) (λ e memory. memory)

pub returns-clause-chosen : goal.returns-clause-chosen
returns-clause-chosen c = chosen c

pub returns-clause-in_order : goal.returns-clause-in_order
returns-clause-in_order c order =
    MatchResult-weaker c.labels_among.result (chosen c)
    (λ ls is. subst AreInPathOrder (sym is) (chosen_in_order c.args.paths.now c.args.labels.now order)) (λ e memory. tt)
