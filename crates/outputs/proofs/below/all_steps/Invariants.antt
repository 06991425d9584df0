use Rattle.outputs.specs.Reaching.{IsReached}
use Rattle.outputs.proofs.below.all_steps.Given as goal

abbrev pub invariant-loop-step : goal.invariant-loop-step
invariant-loop-step l = IsReached l.desk.records l.inputs.keys l._step l.reached
