use Rattle.std.proofs.Common.{ap, ◌∙◌}
use Rattle.std.specs.Prelude.{filter}
use Rattle.std.specs.List.{list_any}
use Rattle.records.specs.Recorded.{same_recorded}
use Rattle.desk_records.specs.RecordLists.{is_record_of}
use Rattle.desk_records.specs.Indexed.{is_record_at}
use Rattle.desk_records.proofs.FoundLemmas.{found_in_group, found_at_path}
use Rattle.desk_records.proofs.by_class.Records.has.Goals as goal

pub returns-then-len : goal.returns-then-len
returns-then-len c =
    let added = c.args.added.now in
    let records = c.args.self.now in
    c.is_among.ensures
    ∙ ap (list_any (λ q. same_recorded q added)) (c.at_path-at_path.ensures ∙ ap (λ path. filter (is_record_at path) records) c.path-2.ensures)
    ∙ found_at_path added records

pub returns-else-len : goal.returns-else-len
returns-else-len c =
    let added = c.args.added.now in
    let records = c.args.self.now in
    c.is_among-else-len.ensures
    ∙ ap (list_any (λ q. same_recorded q added)) (c.of_class-of_class.ensures ∙ ap (λ class. filter (is_record_of class) records) (c.path.ensures ∙ ap (λ k. k.path) c.class.ensures))
    ∙ found_in_group added records
