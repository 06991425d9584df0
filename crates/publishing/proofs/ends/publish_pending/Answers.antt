use Rattle.publishing.proofs.ends.publish_pending.Goals as goal

pub publish_as-writer-requires : goal.publish_as-writer-requires
publish_as-writer-requires g c next is = c.requires next is
