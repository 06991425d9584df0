use Rattle.desk_records.proofs.NumberLemmas.{emptied}
use Rattle.desk_records.proofs.groups.take_from_group.Goals as goal

pub returns-then-take_last_from : goal.returns-then-take_last_from
returns-then-take_last_from c =
    emptied c.args.key.now c.args.number c.args.groups.now.entries c.take_last_from.new.groups.entries c.swap_remove-empty.new.self.entries
    c.take_last_from.ensures.taken (c.take_last_from.ensures.last c.if-take_last_from.true) c.swap_remove-empty.ensures.updates.0
