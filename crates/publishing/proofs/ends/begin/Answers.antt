use Rattle.std.proofs.Common.{ap, ◌∙◌, fold}
use Rattle.publishing.specs.Tied.{absorbed}
use Rattle.publishing.proofs.Ties.{turns_still}
use Rattle.publishing.proofs.ends.begin.Goals as goal

pub publish_as-writer-requires : goal.publish_as-writer-requires
publish_as-writer-requires g c next is =
    let now = c.args.writer.desk.shown.value in
    turns_still _ _ now next (is ∙ ap (fold absorbed now) c.requires.ready)
