use Rattle.std.proofs.Common.{◌≡◌, ◌++◌, List, map, ap, ◌∙◌}
use Rattle.std.specs.Prelude.{filter}
use Rattle.std.proofs.lemmas.Result.{MatchResult-weaker}
use Rattle.model.specs.Classes.{is_one_of}
use Rattle.model.specs.References.{labels_in_order, labels_of}
use Rattle.model.specs.Worlds.{Label}
use Rattle.records.specs.Ordered.{source_label}
use Rattle.outputs.proofs.CandidateLemmas.{chosen_are}
use Rattle.outputs.proofs.candidates.Candidates.labels_of.Goals as goal

pub returns-clause-chosen : goal.returns-clause-chosen
returns-clause-chosen c =
    let paths = c.args.paths.now in
    let sources = c.self.inside.sources in
    let others = c.self.inside.others.items in
    let front : List Label = map source_label (filter (is_one_of sources) paths) in
    let more : c.deref-2.result.now ≡ labels_of paths others =
    c.deref-2.ensures.value ∙ c.in_ok-labels_of.ensures.chosen ∙ ap (labels_of paths) c.deref.ensures.value in
    let both : c.push_labels.new.labels.items ≡ front ++ labels_of paths others =
    c.in_ok-push_labels.ensures ∙ ap (λ (ls : List Label). ls ++ c.deref-2.result.now) c.in_ok-labels.ensures ∙ ap (λ (ls : List Label). front ++ ls) more in
    MatchResult-weaker c.labels_in_order.result c.labels_in_order.ensures.ordered
    (λ chosen is. is ∙ ap labels_in_order both ∙ chosen_are paths sources others ∙ ap (labels_of paths) c.self.view_is)
    (λ e memory. memory)
