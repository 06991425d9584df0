use Rattle.handlers.proofs.PinLemmas.{unpin_handled}
use Rattle.handlers.proofs.pins.unpin.Goals as goal

pub returns : goal.returns
returns c table limit sound beside = rw (c.unpin.ensures, c.done.ensures) (unpin_handled beside limit table c.args.desk.now c.args.class.now sound)
