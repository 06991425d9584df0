use Rattle.std.proofs.Common.{ap, ◌∙◌}
use Rattle.model.specs.Classes.{is_one_of}
use Rattle.path_sets.specs.PathSets.{with_part}
use Rattle.path_sets.proofs.PathSetLemmas.{with_own_part}
use Rattle.path_sets.proofs.path_table.PathTable.contains.Goals as goal

pub returns : goal.returns
returns c =
    let path = c.args.path.now in
    let own = c.with_part.ensures ∙ ap (λ part. with_part part c.args.self.now) c.hash_part.ensures.value in
    c.contains.ensures.value ∙ ap (λ paths. is_one_of paths path) own ∙ with_own_part c.args.self.now path
