use Rattle.running.specs.Meeting.{met_seeing}
use Rattle.running.proofs.shared.look.Goals as goal

pub returns : goal.returns
returns g c = met_seeing c.args.pass.now c.outlook.new.self c.outlook.ensures.same c.outlook.ensures.seen
