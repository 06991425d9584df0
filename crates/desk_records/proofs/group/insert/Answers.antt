use Rattle.std.proofs.Common.{◌∙◌}
use Rattle.desk_records.proofs.NumberLemmas.{put_last}
use Rattle.desk_records.proofs.group.insert.Goals as goal

pub returns-in-Ok : goal.returns-in-Ok
returns-in-Ok c = c.in-Ok.ensures.entries ∙ put_last c.args.number c.args.added c.args.map.now.entries c.requires
