use Rattle.std.proofs.Common.{ap, ◌∙◌}
use Rattle.std.specs.Prelude.{bytes_eq}
use Rattle.model.proofs.BoolLemmas.{both_parts}
use Rattle.desk_records.specs.RecordLists.{is_record_of, is_recorded_at}
use Rattle.desk_records.specs.Indexed.{Tables, group_at, is_record_at}
use Rattle.desk_records.specs.Numbers.{number_of}
use Rattle.desk_records.proofs.NumberLemmas.{number_among}
use Rattle.desk_records.proofs.indexes.Indexes.number_of.Goals as goal

pub returns-then-len : goal.returns-then-len
returns-then-len c numbered tabled =
    let class = c.args.class.now in
    let path = c.args.path.now in
    let test = is_recorded_at class path in
    c.number_in.ensures ∙ ap (λ (t : Tables). number_of test (group_at path t.by_path)) c.self.view_is ∙ ap (number_of test) (tabled.by_path path)
    ∙ number_among test (is_record_at path) numbered (λ r t. (both_parts (bytes_eq r.class.path class) (bytes_eq r.path path) t).1)

pub returns-else-len : goal.returns-else-len
returns-else-len c numbered tabled =
    let class = c.args.class.now in
    let path = c.args.path.now in
    let test = is_recorded_at class path in
    c.number_in-else-len.ensures ∙ ap (λ (t : Tables). number_of test (group_at class t.by_class)) c.self.view_is
    ∙ ap (number_of test) (tabled.by_class class)
    ∙ number_among test (is_record_of class) numbered (λ r t. (both_parts (bytes_eq r.class.path class) (bytes_eq r.path path) t).0)
