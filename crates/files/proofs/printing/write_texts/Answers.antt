use Rattle.std.proofs.Common.{subst, ℕ, ◌<◌, List, length, take}
use Rattle.std.specs.Io.KnownBytes.{Appends}
use Rattle.files.proofs.OutputLemmas.{on_any, written_front}
use Rattle.files.proofs.printing.write_texts.Goals as goal

pub returns-in_err-write_whole-clause-err : goal.returns-in_err-write_whole-clause-err
returns-in_err-write_whole-clause-err g c =
    let middle = g.W.Write.contents c.loop-output.writer in
    let last = g.W.Write.contents c.write_whole.new.writer in
    on_any c.from_residual.result
    (written_front (g.W.Write.contents c.args.writer.now) middle last c.args.outputs.now c.loop-output.output-index c.output-item.result
    c.loop-output-test.true c.output-item.is c.loop-output.invariant
    (subst (λ (bytes : List ℕ). (n : ℕ) × (n < length bytes) × Appends middle last (take n bytes))
    c.as_slice.ensures.value c.in_err-write_whole.ensures.err))
