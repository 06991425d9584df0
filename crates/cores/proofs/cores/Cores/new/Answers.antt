use Rattle.std.proofs.Common.{sym, ap, ◌∙◌}
use Rattle.schedule.specs.Standing.{world_of, setup_of, stored_in}
use Rattle.cores.proofs.cores.Cores.new.Goals as goal

pub invariant_of-result : goal.invariant_of-result
invariant_of-result c = record {
  setup = ap setup_of c.in_ok-shown.ensures.ok ∙ (sym c.in_ok-another.ensures.setup ∙ ap setup_of (sym c.in_ok-other.ensures.ok));
  world = ap world_of c.in_ok-shown.ensures.ok ∙ (c.requires.0 ∙ (sym c.in_ok-another.ensures.world ∙ ap world_of (sym c.in_ok-other.ensures.ok)));
  stored = ap stored_in c.in_ok-shown.ensures.ok ∙ (c.requires.1 ∙ (sym c.in_ok-another.ensures.stored ∙ ap stored_in (sym c.in_ok-other.ensures.ok)));
}
