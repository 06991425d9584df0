use Rattle.std.proofs.Common.{◌≡◌, Ok, subst}
use Rattle.repair.specs.Relabelling.{resettled_with}
use Rattle.repair.proofs.RelabellingLemmas.{repaired_by}
use Rattle.repair.proofs.relabelling.repaired.Goals as goal

pub returns : goal.returns
returns c =
    let r = c.args.chosen.now in
    let tree = c.in_ok-archive.archive in
    let named = c.in_ok-named.named in
    repaired_by r c.args.replacements.now c.in_ok-labels.labels.items tree named c.settled_as.result c.in_ok-archive.ensures c.in_ok-labels.ensures.labels
    (subst (λ ls. resettled_with r ls tree ≡ Ok named) c.deref.ensures.value c.in_ok-named.ensures) c.settled_as.ensures
