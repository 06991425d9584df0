use Rattle.schedule.specs.Standing.{setup_of}
use Rattle.front_trials.proofs.passes.passes.Given as goal

abbrev pub ghosts-answer_by_front-J-Ledger : goal.ghosts-answer_by_front-J-Ledger
ghosts-answer_by_front-J-Ledger g a = record { name = a.new.blank.calls.name; parts = a.new.blank.calls.parts }

abbrev pub ghosts-answer_by_front-J-FrontId : goal.ghosts-answer_by_front-J-FrontId
ghosts-answer_by_front-J-FrontId g a = record { stops = a.new.blank.stops.name; setup = setup_of a.new.core; table = a.new.blank.log.table.shared.table_id; book = a.new.blank.rows.seen.book }
