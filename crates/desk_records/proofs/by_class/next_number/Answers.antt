use Rattle.desk_records.proofs.NumberLemmas.{above_last}
use Rattle.desk_records.proofs.by_class.next_number.Goals as goal

pub returns-in-Some : goal.returns-in-Some
returns-in-Some c = above_last c.in-Some.last.now c.args.list.now.entries c.checked_add.result c.in-Some.ensures.all_up_to c.checked_add.ensures
