use Rattle.std.proofs.Common.{◌∷◌, refl}
use Rattle.std.proofs.lemmas.Result.{err_from_is_err_and}
use Rattle.model.specs.Talk.{entry_text}
use Rattle.lines.proofs.EntryLemmas.{added_next, added_all}
use Rattle.lines.proofs.entries.add_entries.Goals as goal

pub loop-entry-init : goal.loop-entry-init
loop-entry-init c = refl

pub loop-entry-preserved : goal.loop-entry-preserved
loop-entry-preserved c =
    added_next (λ k. 32 ∷ entry_text k) c.args.entries.now c.loop-entry.entry-index c.entry-item.result c.loop-entry.text.items c.add_entry.new.text.items
    _ c.loop-entry-test.true c.entry-item.is c.in_ok-add_entry.ensures c.loop-entry.invariant

pub returns-in_err-add_entry : goal.returns-in_err-add_entry
returns-in_err-add_entry c =
    let p = err_from_is_err_and c.from_residual.result c.from_residual.ensures.1 in
    rw p.1 tt

pub returns : goal.returns
returns c =
    added_all (λ k. 32 ∷ entry_text k) c.args.entries.now c.loop-entry.entry-index c.loop-entry.text.items _ c.loop-entry-test.false c.loop-entry.invariant
