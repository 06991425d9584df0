use Rattle.handlers.proofs.BuiltLemmas.{built_copyable}
use Rattle.handlers.proofs.copying.copy_with.Goals as goal

pub copy_entries-requires-clause-copyable : goal.copy_entries-requires-clause-copyable
copy_entries-requires-clause-copyable c =
    rw (c.deref.ensures.value, c.in_ok-entries.ensures) (built_copyable c.args.entries.now c.args.built c.requires.closure c.requires.labelled)
