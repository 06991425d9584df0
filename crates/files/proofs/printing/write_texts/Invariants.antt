use Rattle.std.specs.Prelude.{take}
use Rattle.std.specs.Io.KnownBytes.{Appends}
use Rattle.files.specs.Outputs.{texts_of}
use Rattle.files.proofs.printing.write_texts.Given as goal

-- the texts so far are written
abbrev pub invariant-loop-output : goal.invariant-loop-output
invariant-loop-output g l = Appends (g.W.Write.contents l.fn.writer) (g.W.Write.contents l.writer) (texts_of (take l.output-index l.outputs))
