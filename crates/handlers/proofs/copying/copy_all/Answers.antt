use Rattle.handlers.proofs.MissingLemmas.{closure_copyable}
use Rattle.handlers.proofs.copying.copy_all.Goals as goal

pub copy_entries-requires-clause-copyable : goal.copy_entries-requires-clause-copyable
copy_entries-requires-clause-copyable c = closure_copyable c.args.entries.now c.requires.closure
