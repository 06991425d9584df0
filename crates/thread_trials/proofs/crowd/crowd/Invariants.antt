use Rattle.schedule.specs.Standing.{setup_of}
use Rattle.thread_trials.proofs.crowd.crowd.Given as goal

abbrev pub ghosts-crowded-J-Ledger : goal.ghosts-crowded-J-Ledger
ghosts-crowded-J-Ledger g a = record { name = a.new.blank.calls.name; parts = a.new.blank.calls.parts }

abbrev pub ghosts-crowded-J-FrontId : goal.ghosts-crowded-J-FrontId
ghosts-crowded-J-FrontId g a = record { stops = a.new.blank.stops.name; setup = setup_of a.new.core; table = a.new.blank.log.table.shared.table_id; book = a.new.blank.rows.seen.book }
