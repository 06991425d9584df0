use Rattle.std.proofs.Common.{sym}
use Rattle.events.specs.Terms.{event_of}
use Rattle.events.proofs.NearLemmas.{said_below}
use Rattle.events.proofs.undoing.exchange.Goals as goal

pub replace-before-requires-clause-of_run : goal.replace-before-requires-clause-of_run
replace-before-requires-clause-of_run c = (said_below c.args.users.now (event_of c.args.event) c.in-Some.said c.requires (sym c.in-Some.ensures)).0

pub replace-before-requires-clause-other_of_run : goal.replace-before-requires-clause-other_of_run
replace-before-requires-clause-other_of_run c = (said_below c.args.users.now (event_of c.args.event) c.in-Some.said c.requires (sym c.in-Some.ensures)).1
