use Rattle.schedule.specs.Standing.{setup_of}
use Rattle.thread_trials.proofs.held.held.Given as goal

abbrev pub ghosts-read_by_two-J-Ledger : goal.ghosts-read_by_two-J-Ledger
ghosts-read_by_two-J-Ledger g a = record { name = a.new.blank.calls.name; parts = a.new.blank.calls.parts }

abbrev pub ghosts-read_by_two-J-FrontId : goal.ghosts-read_by_two-J-FrontId
ghosts-read_by_two-J-FrontId g a = record { stops = a.new.blank.stops.name; setup = setup_of a.new.core; table = a.new.blank.log.table.shared.table_id; book = a.new.blank.rows.seen.book }
