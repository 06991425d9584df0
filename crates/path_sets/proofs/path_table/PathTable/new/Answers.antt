use Rattle.path_sets.proofs.PathSetLemmas.{table_new}
use Rattle.path_sets.proofs.path_table.PathTable.new.Goals as goal

pub invariant_of-result : goal.invariant_of-result
invariant_of-result c = rw (c.new.ensures.items, c.new-2.ensures.empty, c.new-4.ensures.items) (table_new c.in_ok-new.field-0)
