use Rattle.std.proofs.Common.{sym, append_assoc, append-nil, rules}
use Rattle.model.specs.Paths.{references_text}
use Rattle.storepath.proofs.KindLemmas.{references_text-more}
use Rattle.storepath.proofs.kind.append_references.Goals as goal

pub loop-path-init : goal.loop-path-init
unfolding references_text
loop-path-init c = sym (append-nil c.args.text.now.items)

pub loop-path-preserved : goal.loop-path-preserved
loop-path-preserved c =
    let more = references_text-more c.args.references.now c.loop-path.path-index c.path-item.result c.loop-path-test.true c.path-item.is in
    rw more (search (rules, append_assoc))
