use Rattle.std.proofs.Common.{ap}
use Rattle.model.specs.Replies as replies
use Rattle.handlers.proofs.given.serve_plan.Goals as goal

pub returns : goal.returns
returns c = record {
  entries = c.in_ok-entries.entries.items;
  are = c.in_ok-entries.ensures.served;
  told = ap replies.Closure c.in_ok-new.ensures;
}
