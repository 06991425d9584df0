use Rattle.std.proofs.Common.{◌≡◌, ◌++◌, take}
use Rattle.model.specs.Paths.{references_text}
use Rattle.storepath.proofs.kind.append_references.Given as goal

abbrev pub invariant-loop-path : goal.invariant-loop-path
invariant-loop-path l = l.text.items ≡ l.initial.text.items ++ references_text (take l.path-index l.references)
