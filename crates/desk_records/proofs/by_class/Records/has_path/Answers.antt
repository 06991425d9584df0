use Rattle.std.proofs.Common.{length, ap, ◌∙◌}
use Rattle.std.specs.Prelude.{nat_lt}
use Rattle.desk_records.proofs.FoundLemmas.{some_at_path}
use Rattle.desk_records.proofs.by_class.Records.has_path.Goals as goal

pub returns : goal.returns
returns c = ap (nat_lt 0) (c.len.ensures.value ∙ ap length c.at_path.ensures) ∙ some_at_path c.args.path.now c.args.self.now
