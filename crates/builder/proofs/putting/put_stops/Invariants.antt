use Rattle.crossbeam_channel.specs.Claims.{view, IsSeatAt}
use Rattle.crossbeam_channel.specs.Ends.{sends_on}
use Rattle.builder.specs.Rounds.{PutStops}
use Rattle.builder.proofs.putting.put_stops.Given as goal

abbrev pub invariant-loop-stop : goal.invariant-loop-stop
invariant-loop-stop g l = IsSeatAt (sends_on l.sender) l.producer × PutStops (view l.initial.producer) (view l.producer)
