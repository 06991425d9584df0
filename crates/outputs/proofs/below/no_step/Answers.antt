use Rattle.std.proofs.Common.{refl}
use Rattle.outputs.proofs.StepLemmas.{first_reached}
use Rattle.outputs.proofs.below.no_step.Goals as goal

pub returns : goal.returns
returns c =
    first_reached c.args.desk.now.records c.in_ok-records.records.items c.args.inputs.now.keys
    (record { records = c.in_ok-records.records; from = 0; seen = c.new.result }) c.in_ok-records.ensures refl refl c.new.ensures.empty
