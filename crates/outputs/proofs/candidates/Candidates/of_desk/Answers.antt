use Rattle.std.proofs.Common.{◌≡◌, ◌++◌, List, map, refl, ap, ◌∙◌}
use Rattle.model.specs.Worlds.{Label}
use Rattle.records.specs.Ordered.{source_label, record_label}
use Rattle.outputs.specs.Outputs.{candidates_of}
use Rattle.outputs.proofs.BelowLemmas.{are_candidates}
use Rattle.outputs.proofs.candidates.Candidates.of_desk.Goals as goal

pub returns : goal.returns
returns c =
    let found = c.in_ok-records.records.items in
    let known = c.args.desk.now.known in
    let others = c.in_ok-others.others.items in
    let sources : c.in_ok-sources.sources ≡ known.sources = c.in_ok-sources.ensures.cases ∙ c.sources.ensures ∙ ap (λ k. k.sources) c.known.ensures in
    let labels : map source_label c.in_ok-sources.sources ++ others ≡ map source_label known.sources ++ map record_label found =
    ap (λ paths. map source_label paths ++ others) sources
    ∙ ap (λ (ls : List Label). map source_label known.sources ++ ls) (c.in_ok-others.ensures ∙ ap (map record_label) c.deref.ensures.value) in
    are_candidates known c.args.derivation.now c.args.desk.now.records found (map source_label c.in_ok-sources.sources ++ others)
    (candidates_of c.in_ok-sources.sources others) c.in_ok-records.ensures labels refl
