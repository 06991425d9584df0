use Rattle.std.proofs.Common.{ap, sym, ◌∙◌}
use Rattle.model.specs.ArchiveReading.{tree_of_archive}
use Rattle.events.proofs.OutputLemmas.{tree_kept}
use Rattle.events.proofs.output.Output.tree_or_bytes.Goals as goal

pub returns-in-Archive : goal.returns-in-Archive
returns-in-Archive c = sym (tree_kept c.self.inside.written c.in-Archive.tree c.in-Archive.is c.self.invariant ∙ ap tree_of_archive c.self.view_is)
