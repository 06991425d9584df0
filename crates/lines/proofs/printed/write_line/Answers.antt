use Rattle.std.proofs.Common.{[], ◌∷◌, ◌++◌}
use Rattle.lines.proofs.PrintedLemmas.{unwritten-behind}
use Rattle.lines.proofs.printed.write_line.Goals as goal

pub returns-clause-err : goal.returns-clause-err
returns-clause-err g c =
    let contents = g.W.Write.contents in
    unwritten-behind c.write_both.result (contents c.args.writer.now) (contents c.write_whole.new.writer)
    (contents c.write_both.new.writer) c.args.text.now (c.args.rest.now ++ 10 ∷ [])
    c.in_ok-write_whole.ensures.ok c.write_both.ensures.err
