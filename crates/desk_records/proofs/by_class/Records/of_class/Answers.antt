use Rattle.std.proofs.Common.{ap, ◌∙◌}
use Rattle.std.specs.Prelude.{filter}
use Rattle.desk_records.specs.RecordLists.{is_record_of}
use Rattle.desk_records.specs.Numbers.{without_numbers}
use Rattle.desk_records.proofs.NumberLemmas.{bare_filter}
use Rattle.desk_records.proofs.by_class.Records.of_class.Goals as goal

pub returns : goal.returns
returns c =
    let class = c.args.class.now in
    c.of_class.ensures ∙ ap without_numbers (c.self.invariant.tabled.by_class class) ∙ bare_filter (is_record_of class) c.self.inside.list.entries
    ∙ ap (filter (is_record_of class)) c.self.view_is
