use Rattle.lines.proofs.PrintedLemmas.{unwritten-behind}
use Rattle.lines.proofs.printed.write_both.Goals as goal

pub returns-clause-err : goal.returns-clause-err
returns-clause-err g c =
    let contents = g.W.Write.contents in
    unwritten-behind c.write_whole-2.result (contents c.args.writer.now) (contents c.write_whole.new.writer)
    (contents c.write_whole-2.new.writer) c.args.first.now c.args.second.now
    c.in_ok-write_whole.ensures.ok c.write_whole-2.ensures.err
