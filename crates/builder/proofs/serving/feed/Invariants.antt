use Rattle.crossbeam_channel.specs.Claims.{view}
use Rattle.builder.proofs.serving.feed.Given as goal

-- its own queue names it
abbrev pub ghosts-feed_named : goal.ghosts-feed_named
ghosts-feed_named g a = record { table = a.producer.table_id; key = a.producer.me.0.of; out = (view a.producer).out }
