use Rattle.schedule.specs.Standing.{setup_of}
use Rattle.replaying.proofs.first_run.first_run.Given as goal

abbrev pub ghosts-ask_core-J-Ledger : goal.ghosts-ask_core-J-Ledger
ghosts-ask_core-J-Ledger g a = record { name = a.blank.calls.name; parts = a.blank.calls.parts }

abbrev pub ghosts-ask_core-J-FrontId : goal.ghosts-ask_core-J-FrontId
ghosts-ask_core-J-FrontId g a = record { stops = a.blank.stops.name; setup = setup_of a.core; table = a.blank.log.table.shared.table_id; book = a.blank.rows.seen.book }
