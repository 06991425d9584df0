use Rattle.builder.proofs.RoundLemmas.{fed}
use Rattle.builder.proofs.serving.feed_named.Goals as goal

pub returns-clause-fed : goal.returns-clause-fed
returns-clause-fed g c = fed _ _ _ _ _ _ c.requires.producer c.feed-left.ensures c.into_producer-producer.ensures.goals c.into_producer-producer.ensures.producer c.put_stops.ensures.put
