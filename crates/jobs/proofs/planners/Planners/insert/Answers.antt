use Rattle.std.proofs.Common.{ap}
use Rattle.std.specs.Prelude.{bit_or, ◌*◌, ◌%◌, ◌^◌}
use Rattle.jobs.proofs.PlannerLemmas.{users_added}
use Rattle.jobs.proofs.planners.Planners.insert.Goals as goal

pub returns : goal.returns
returns c =
    users_added c.args.path c.args.place _ c.args.self.now.sets.entries c.insert.new.self.entries c.requires
    (ap (λ set. bit_or set (1 * 2 ^ c.args.place % 2 ^ 64)) c.at.ensures) c.in_ok-_before.ensures.updates.0
