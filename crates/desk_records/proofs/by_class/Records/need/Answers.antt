use Rattle.std.proofs.Common.{◌∙◌, ap}
use Rattle.std.specs.Prelude.{nat_lt}
use Rattle.std.specs.List.{list_any}
use Rattle.desk_records.specs.RecordLists.{remaining, refers_to}
use Rattle.desk_records.specs.Numbers.{without_numbers}
use Rattle.desk_records.proofs.CountedLemmas.{name_there}
use Rattle.desk_records.proofs.by_class.Records.need.Goals as goal

pub returns : goal.returns
returns c =
    let class = c.args.class.now in
    let path = c.args.path.now in
    ap (nat_lt 0) (c.named.ensures ∙ c.self.invariant.tabled.named class path) ∙ name_there class path (without_numbers c.self.inside.list.entries)
    ∙ ap (λ rs. list_any (refers_to class path) (remaining class path rs)) c.self.view_is
