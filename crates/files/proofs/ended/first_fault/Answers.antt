use Rattle.std.proofs.Common.{sym, ap, ◌∙◌, ℕ, []}
use Rattle.std.specs.Prelude.{map, slice_index_or, string_bytes}
use Rattle.files.proofs.OutputLemmas.{ended_at, ended_more}
use Rattle.files.proofs.ended.first_fault.Goals as goal

pub returns-in-Err : goal.returns-in-Err
returns-in-Err c =
    let found = ended_at c.args.outputs.now c.loop-place.place c.index-outputs-place.result c.in-Err.why
    c.loop-place-test.true c.index-outputs-place.is c.loop-place.invariant c.in-Err.is in
    (found.0, c.name_at-name.ensures ∙ ap (λ (n : ℕ). slice_index_or (map string_bytes c.args.names.now) n []) (sym found.1))

pub loop-place-preserved : goal.loop-place-preserved
loop-place-preserved c =
    ended_more c.args.outputs.now c.loop-place.place c.index-outputs-place.result c.loop-place-test.true c.index-outputs-place.is c.loop-place.invariant
    c.in_default.is
