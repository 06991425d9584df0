use Rattle.std.proofs.Common.{arith, ◌≡◌, ◌∙◌, ◌+◌, ◌∷◌, ◌++◌, [], drop, sym, ap, append_assoc, subst}
use Rattle.std.specs.Prelude.{Ok}
use Rattle.std.proofs.lemmas.Result.{err_from_is_err_and}
use Rattle.model.specs.Worlds.{path_of_entry}
use Rattle.model.specs.Inputs.{inputs_behind, inputs_of, inputs_text}
use Rattle.builder.proofs.InputLemmas.{inputs_behind-cons, next_item}
use Rattle.builder.specs.Pieces.{IsUnwritten}
use Rattle.builder.proofs.PieceLemmas.{written_both, unwritten_before, unwritten_behind}
use Rattle.builder.proofs.inputs.write_inputs.Goals as goal

pub loop-entry-preserved : goal.loop-entry-preserved
loop-entry-preserved g c =
    let entries = c.args.closure.now in
    let i = c.loop-entry.entry-index in
    let entry = c.entry-item.result in
    let last = c.loop-entry.last.now in
    let so_far = c.loop-entry.invariant in
    let written = inputs_text (inputs_behind last (entry ∷ [])) in
    let path : c.bytes-last.result.now ≡ path_of_entry entry = c.bytes-last.ensures.value ∙ c.path.ensures in
    let rest = drop (i + 1) entries in
    let next : drop i entries ≡ entry ∷ rest = next_item entries i entry (omega arith) c.entry-item.is in (
      so_far.0 ++ written,
      written_both g.O.Outside.steps _ _ so_far.0 _ _ written (Ok tt) _ _ so_far.1 c.in_ok-write_unless_written.ensures,
      append_assoc so_far.0 written (inputs_text (inputs_behind c.bytes-last.result.now rest))
          ∙ ap (λ s. so_far.0 ++ s) (ap (λ p. written ++ inputs_text (inputs_behind p rest)) path ∙ inputs_behind-cons last entry rest ∙ ap (λ es. inputs_text (inputs_behind last es)) (sym next))
          ∙ so_far.2,
    )

pub returns-in_err-write_unless_written : goal.returns-in_err-write_unless_written
returns-in_err-write_unless_written g c =
    let entries = c.args.closure.now in
    let i = c.loop-entry.entry-index in
    let entry = c.entry-item.result in
    let last = c.loop-entry.last.now in
    let so_far = c.loop-entry.invariant in
    let written = inputs_text (inputs_behind last (entry ∷ [])) in
    let rest = drop (i + 1) entries in
    let more = inputs_text (inputs_behind (path_of_entry entry) rest) in
    let next : drop i entries ≡ entry ∷ rest = next_item entries i entry (omega arith) c.entry-item.is in
    let all : so_far.0 ++ (written ++ more) ≡ inputs_text (inputs_of entries) =
    ap (λ s. so_far.0 ++ s) (inputs_behind-cons last entry rest ∙ ap (λ es. inputs_text (inputs_behind last es)) (sym next)) ∙ so_far.2 in
    let why = c.in_err-write_unless_written.field-0.0 in
    let told = err_from_is_err_and c.from_residual.result c.from_residual.ensures.1 in
    let outside = c.args.outside.now in
    let file = c.args.file.now in
    let between = c.loop-entry.outside in
    let filled = c.loop-entry.file in
    let outside' = c.write_unless_written.new.outside in
    let file' = c.write_unless_written.new.file in
    let before = unwritten_before g.O.Outside.steps between filled written more why file' outside' c.in_err-write_unless_written.ensures in
    let behind = unwritten_behind g.O.Outside.steps outside file so_far.0 filled between (written ++ more) why file' outside' so_far.1 before in
    rw (told.1, told.2) (subst (λ t. IsUnwritten g.O.Outside.steps outside file t why file' outside') all behind)
