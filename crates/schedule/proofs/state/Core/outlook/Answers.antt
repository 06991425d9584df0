use Rattle.schedule.proofs.OutlookLemmas.{at_his_place, of_stranger}
use Rattle.std.proofs.Common.{sym}
use Rattle.schedule.proofs.state.Core.outlook.Goals as goal

pub returns-in_default : goal.returns-in_default
returns-in_default c = of_stranger c.args.self.now c.args.user.now c.args.number (sym c.in_default.ensures)

pub returns : goal.returns
returns c = at_his_place c.args.self.now c.args.user.now c.in-Some.place c.args.number c.outlook.result (sym c.in-Some.ensures) c.outlook.ensures
