use Rattle.std.proofs.Common.{◌≡◌, ◌++◌, ℕ, List, drop}
use Rattle.std.specs.Prelude.{Ok}
use Rattle.model.specs.Inputs.{inputs_behind, inputs_of, inputs_text}
use Rattle.builder.specs.Pieces.{IsWritten}
use Rattle.builder.proofs.inputs.write_inputs.Given as goal

-- what was written, and the inputs that are left, are all inputs
abbrev pub invariant-loop-entry : goal.invariant-loop-entry
invariant-loop-entry g l =
    (text : List ℕ)
    × IsWritten g.O.Outside.steps l.initial.outside l.initial.file text (Ok tt) l.file l.outside
    × (text ++ inputs_text (inputs_behind l.last (drop l.entry-index l.closure)) ≡ inputs_text (inputs_of l.closure))
