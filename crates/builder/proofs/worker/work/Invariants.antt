use Rattle.std.proofs.Common.{◌≡◌, false, List}
use Rattle.crossbeam_channel.specs.Claims.{view, IsSeatAt}
use Rattle.crossbeam_channel.specs.Ends.{receives_on}
use Rattle.builder.specs.Queue.{consumer as taking}
use Rattle.builder.specs.Tickets.{has_stop}
use Rattle.builder.specs.Working.{Call, nothing_met, Works}
use Rattle.builder.proofs.worker.work.Given as goal

-- the worker worked on what its hand took, and no Stop is among that
abbrev pub invariant-loop : goal.invariant-loop
invariant-loop g l =
    IsSeatAt (receives_on l.shared.receiver.now) l.consumer
    × (view l.consumer ≡ taking (view l.initial.consumer).number (view l.consumer).taken)
    × ((calls : List Call) × Works g.S.Store.called g.S.Store.asked g.Q.Runner.gives (view l.consumer).taken nothing_met calls l.initial.worker l.met l.worker)
    × (has_stop (view l.consumer).taken ≡ false)
