use Rattle.builder.proofs.RoundLemmas.{keeps, stops_keeps, stops_none, stops_more}
use Rattle.builder.proofs.putting.put_stops.Goals as goal

pub loop-stop-init : goal.loop-stop-init
loop-stop-init g c = (c.requires.seat, stops_none _ c.requires.producer)

pub put-put-requires-clause-keeps : goal.put-put-requires-clause-keeps
put-put-requires-clause-keeps g c = keeps _ (stops_keeps _ _ c.loop-stop.invariant.1)

pub loop-stop-preserved : goal.loop-stop-preserved
loop-stop-preserved g c = (c.put-put.ensures.seat, stops_more _ _ _ _ _ c.loop-stop.invariant.1 c.put-put.ensures.put)
