use Rattle.schedule.specs.Standing.{setup_of}
use Rattle.thread_trials.proofs.held.prepared_while_held.Given as goal

abbrev pub ghosts-rows_of-J-Ledger : goal.ghosts-rows_of-J-Ledger
ghosts-rows_of-J-Ledger g a = record { name = a.new.blank.calls.name; parts = a.new.blank.calls.parts }

abbrev pub ghosts-rows_of-J-FrontId : goal.ghosts-rows_of-J-FrontId
ghosts-rows_of-J-FrontId g a = record { stops = a.new.blank.stops.name; setup = setup_of a.new.core; table = a.new.blank.log.table.shared.table_id; book = a.new.blank.rows.seen.book }

abbrev pub ghosts-prepare_last-J-Ledger : goal.ghosts-prepare_last-J-Ledger
ghosts-prepare_last-J-Ledger g a = record { name = a.new.blank.calls.name; parts = a.new.blank.calls.parts }

abbrev pub ghosts-prepare_last-J-FrontId : goal.ghosts-prepare_last-J-FrontId
ghosts-prepare_last-J-FrontId g a = record { stops = a.new.blank.stops.name; setup = setup_of a.new.core; table = a.new.blank.log.table.shared.table_id; book = a.new.blank.rows.seen.book }
