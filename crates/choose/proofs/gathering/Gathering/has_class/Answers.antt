use Rattle.std.proofs.Common.{sym, ◌∙◌, ap}
use Rattle.model.specs.Worlds.{Record}
use Rattle.choose.specs.Gathering.{has_class}
use Rattle.choose.proofs.KeyLemmas.{keyed}
use Rattle.choose.proofs.gathering.Gathering.has_class.Goals as goal

pub returns : goal.returns
returns c =
    sym (keyed (λ (r : Record). r.class.path) c.contains.result c.args.class.now c.self.inside.classes.keys c.self.inside.records.items
    c.self.invariant.of_records c.contains.ensures)
    ∙ ap (has_class c.args.class.now) c.self.view_is
