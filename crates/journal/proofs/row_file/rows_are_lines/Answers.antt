use Rattle.journal.proofs.RowLemmas.{parts, rows_in-rest}
use Rattle.journal.proofs.FormatLemmas.{rest_lines}
use Rattle.journal.proofs.row_file.rows_are_lines.Goals as goal

pub returns-clause-plain : goal.returns-clause-plain
returns-clause-plain c = λ file. (parts file).plain

pub returns-clause-read_back : goal.returns-clause-read_back
returns-clause-read_back c = rows_in-rest

pub returns-clause-lines : goal.returns-clause-lines
returns-clause-lines c = rest_lines
