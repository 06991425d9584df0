use Rattle.schedule.specs.Standing.{setup_of}
use Rattle.replaying.proofs.input.answer_input.Given as goal

abbrev pub ghosts-serve_core-J-Ledger : goal.ghosts-serve_core-J-Ledger
ghosts-serve_core-J-Ledger g a = record { name = a.new.blank.calls.name; parts = a.new.blank.calls.parts }

abbrev pub ghosts-serve_core-J-FrontId : goal.ghosts-serve_core-J-FrontId
ghosts-serve_core-J-FrontId g a = record { stops = a.new.blank.stops.name; setup = setup_of a.new.core; table = a.new.blank.log.table.shared.table_id; book = a.new.blank.rows.seen.book }
