use Rattle.schedule.specs.Standing.{setup_of}
use Rattle.running.proofs.runs.run.Given as goal

abbrev pub ghosts-run_core-J-Ledger : goal.ghosts-run_core-J-Ledger
ghosts-run_core-J-Ledger g a = record { name = a.start.blank.calls.name; parts = a.start.blank.calls.parts }

abbrev pub ghosts-run_core-J-FrontId : goal.ghosts-run_core-J-FrontId
ghosts-run_core-J-FrontId g a = record { stops = a.start.blank.stops.name; setup = setup_of a.start.core; table = a.start.blank.log.table.shared.table_id; book = a.start.blank.rows.seen.book }
