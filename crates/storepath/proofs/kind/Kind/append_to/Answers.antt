use Rattle.storepath.proofs.KindLemmas.{output-appended}
use Rattle.storepath.proofs.kind.Kind.append_to.Goals as goal

pub returns-else-itself : goal.returns-else-itself
returns-else-itself c =
    rw (c.in-Output.is, c.if-itself.false)
    (output-appended c.in-Output.references.now c.args.text.now.items c.extend_from_slice-in-Output.new.self.items
    c.append_references-in-Output.new.text.items c.in_ok-extend_from_slice-in-Output.ensures.items c.in_ok-append_references-in-Output.ensures)
