use Rattle.std.proofs.Common.{sym, ◌∙◌}
use Rattle.jobs.proofs.UserLemmas.{owner_read}
use Rattle.jobs.proofs.users.Jobs.owner.Goals as goal

pub returns : goal.returns
returns c =
    c.owner.ensures ∙ sym (owner_read c.args.self.now c.self.inside.all.items c.args.place c.index.result.now c.self.view_is c.requires c.index.ensures)
