use Rattle.std.proofs.Common.{◌≡◌, ◌++◌, drop, map}
use Rattle.std.specs.Prelude.{All}
use Rattle.std.specs.Option.{option_copied}
use Rattle.jobs.specs.Owned.{goals_at}
use Rattle.handlers.specs.Viewing.{desk_at}
use Rattle.endings.specs.Built.{all_built, numbered, IsClosedBuilt, HaveInputs}
use Rattle.endings.proofs.settling.built_on.Given as goal

abbrev pub invariant-loop-number : goal.invariant-loop-number
invariant-loop-number l = record {
  built : map numbered l.all.items ++ all_built (desk_at l.state.desks.items l.place).known (option_copied l.tree) (goals_at l.place l.state.jobs) (drop l.number-index l.numbers)
      ≡ all_built (desk_at l.state.desks.items l.place).known (option_copied l.tree) (goals_at l.place l.state.jobs) l.numbers;
  closed : All (λ x. IsClosedBuilt (desk_at l.state.desks.items l.place) x.1) l.all.items;
  inputs : HaveInputs (option_copied l.tree) (goals_at l.place l.state.jobs) l.all.items;
}
