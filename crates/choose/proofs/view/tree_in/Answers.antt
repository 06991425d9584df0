use Rattle.std.proofs.Common.{◌∙◌, sym, ap}
use Rattle.std.specs.Prelude.{option_copied}
use Rattle.model.specs.Worlds.{tree_at}
use Rattle.choose.proofs.ChoosingLemmas.{not_there}
use Rattle.choose.proofs.view.tree_in.Goals as goal

pub unreachable-requires : goal.unreachable-requires
unreachable-requires c =
    not_there (tree_at c.args.path.now c.args.table.now.sources) (sym c.get.ensures ∙ ap option_copied c.in-None.is) c.requires
