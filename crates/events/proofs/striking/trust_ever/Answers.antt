use Rattle.events.proofs.EverLemmas.{none_given}
use Rattle.events.proofs.striking.trust_ever.Goals as goal

pub loop-event-init : goal.loop-event-init
loop-event-init c = none_given c.args.users.now _ c.new-trust.ensures
