use Rattle.std.proofs.Common.{ap, ◌∙◌}
use Rattle.std.specs.Prelude.{is_some}
use Rattle.std.specs.List.{list_any}
use Rattle.desk_records.specs.RecordLists.{is_recorded_at}
use Rattle.desk_records.proofs.NumberLemmas.{some_number}
use Rattle.desk_records.proofs.by_class.Records.has_recorded.Goals as goal

pub returns : goal.returns
returns c =
    let test = is_recorded_at c.args.class.now c.args.path.now in
    c.is_some.ensures ∙ ap is_some (c.number_of.ensures c.self.inside.list.entries c.self.invariant.tabled) ∙ some_number test c.self.inside.list.entries
    ∙ ap (list_any test) c.self.view_is
