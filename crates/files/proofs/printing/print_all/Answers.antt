use Rattle.std.proofs.Common.{refl, inl}
use Rattle.session.specs.Serving.{IsUnwritten}
use Rattle.session.proofs.FlushLemmas.{early_after}
use Rattle.files.specs.Outputs.{texts_of}
use Rattle.files.proofs.OutputLemmas.{on_any, flushed_front}
use Rattle.files.proofs.printing.print_all.Goals as goal

pub returns-clause-err : goal.returns-clause-err
returns-clause-err g c =
    on_any c.flush_after.result
    (flushed_front (g.W.Write.contents c.args.writer.now) (g.W.Write.contents c.write_texts-ended.new.writer) (g.W.Write.contents c.flush_after.new.writer)
    (texts_of c.args.outputs.now) c.write_texts-ended.result c.write_texts-ended.ensures.ok c.write_texts-ended.ensures.err c.flush_after.ensures.kept)

pub returns-clause-errors : goal.returns-clause-errors
returns-clause-errors g c =
    early_after _ _ _ _ c.flush_after.result c.write_texts-ended.result _ IsUnwritten IsUnwritten c.flush_after.ensures.err
    c.write_texts-ended.ensures.ok c.write_texts-ended.ensures.errors (λ all. inl refl) (λ first why keeps unwritten. keeps unwritten)
