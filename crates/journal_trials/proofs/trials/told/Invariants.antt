use Rattle.journal_trials.proofs.trials.told.Given as goal

-- nothing is known of the file
abbrev pub invariant-loop-word : goal.invariant-loop-word
invariant-loop-word g l = record {
  can : (goal.iterator-loop-word g).can_next l.word-iterator;
  ends : (goal.iterator-loop-word g).is_finite l.word-iterator;
  unknown : g.D.LogFile.is_honest l.journal.rows.file → ⊥;
}
