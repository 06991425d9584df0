use Rattle.std.proofs.Common.{rules, ◌≡◌, None}
use Rattle.model.specs.Worlds.{tree_at}
use Rattle.store.proofs.TableLemmas.{tree_at-pushed}
use Rattle.handlers.proofs.entries.put_new.Goals as goal

pub returns-then-not-is_stored-clause-there : goal.returns-then-not-is_stored-clause-there
returns-then-not-is_stored-clause-there c =
    let absent : tree_at c.args.path c.args.table.now.sources ≡ None = search rules in
    rw c.put_reserved.ensures.put (tree_at-pushed c.args.table.now.sources (record { path = c.args.path; tree = c.args.tree }) absent)
