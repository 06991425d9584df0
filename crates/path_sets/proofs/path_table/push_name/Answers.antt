use Rattle.std.proofs.Common.{arith}
use Rattle.path_sets.proofs.path_table.push_name.Goals as goal

pub overflow_cast-name : goal.overflow_cast-name
overflow_cast-name c = (let short = c.base_name-name.ensures.short in omega (arith, short))
