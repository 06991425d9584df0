use Rattle.journal_trials.proofs.opened.read_all.Given as goal

-- nothing is known of the file
abbrev pub invariant-loop : goal.invariant-loop
invariant-loop g l = g.D.LogFile.is_honest l.opening.reading.pieces.file → ⊥
