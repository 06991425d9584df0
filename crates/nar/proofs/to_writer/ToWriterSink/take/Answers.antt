use Rattle.std.proofs.Common.{sym, subst}
use Rattle.std.specs.Prelude.{IfErr}
use Rattle.model.specs.declared.refusal.Refusal.TheVariants.{OutputFault}
use Rattle.nar.specs.Writing.{MayBeFault}
use Rattle.nar.proofs.WritingLemmas.{wrote-more}
use Rattle.nar.proofs.to_writer.ToWriterSink.take.Goals as goal

pub returns-then-is_ok : goal.returns-then-is_ok
returns-then-is_ok g c start taken took =
    let wrote = c.write_whole-self in
    let fault = subst (λ before. IfErr wrote.result (MayBeFault OutputFault before (g.W.Faults.failed wrote.new.writer))) took.1 wrote.ensures.fault in (
      took.0,
      took.1,
      wrote-more start.before _ _ _ _ _ c.args.self.now.so_far wrote.result taken c.args.piece.now (sym c.if-is_ok.ensures.value) took.2 wrote.ensures.ok
          wrote.ensures.err wrote.ensures.errors fault,
    )
