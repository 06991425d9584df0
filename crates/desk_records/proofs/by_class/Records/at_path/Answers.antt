use Rattle.std.proofs.Common.{ap, ◌∙◌}
use Rattle.std.specs.Prelude.{filter}
use Rattle.desk_records.specs.Indexed.{is_record_at}
use Rattle.desk_records.specs.Numbers.{without_numbers}
use Rattle.desk_records.proofs.NumberLemmas.{bare_filter}
use Rattle.desk_records.proofs.by_class.Records.at_path.Goals as goal

pub returns : goal.returns
returns c =
    let path = c.args.path.now in
    c.at_path.ensures ∙ ap without_numbers (c.self.invariant.tabled.by_path path) ∙ bare_filter (is_record_at path) c.self.inside.list.entries
    ∙ ap (filter (is_record_at path)) c.self.view_is
