use Rattle.std.proofs.Common.{◌≡◌, codes, ◌-◌}
use Rattle.model.specs.DerivationTexts.{variable_at, variables_at, items_at}
use Rattle.aterm.proofs.Items.{onto}
use Rattle.aterm.proofs.read.read_variables.Given as goal

abbrev pub invariant-loop : goal.invariant-loop
invariant-loop l = variables_at l.tag l.bytes ≡ onto l.variables.items (items_at variable_at (codes "]") (codes ",") (l.end - l.counter) l.separator l.rest)
