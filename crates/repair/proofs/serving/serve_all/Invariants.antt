use Rattle.std.proofs.Common.{◌≡◌, take, drop, All}
use Rattle.std.specs.Prelude.{is_some}
use Rattle.model.specs.Repairs.{chosen_in}
use Rattle.repair.specs.Serving.{AreServed}
use Rattle.repair.specs.Counting.{made_in, IsForStep}
use Rattle.repair.specs.Prepared.{HasRepair, HasRepairs, HasRepaired}
use Rattle.records.specs.Sound.{IsSoundRecord}
use Rattle.repair.proofs.serving.serve_all.Given as goal

abbrev pub invariant-loop-chosen : goal.invariant-loop-chosen
invariant-loop-chosen l = record {
  served : AreServed l.fn.plan (take l.chosen-index l.fn.plan.records) l.served.entries;
  sound : All IsSoundRecord (take l.chosen-index l.fn.plan.records);
  made : IsForStep l.fn.cache → All (HasRepair (chosen_in l.fn.plan.records) (made_in l.cache.made)) (take l.chosen-index l.fn.plan.records);
  step : is_some l.cache.made ≡ is_some l.fn.cache.made;
  at_hand : HasRepaired l.fn.plan (made_in l.fn.cache.made)
      → (l.cache ≡ l.fn.cache) × HasRepairs (chosen_in l.fn.plan.records) (made_in l.fn.cache.made) (drop l.chosen-index l.fn.plan.records);
}
