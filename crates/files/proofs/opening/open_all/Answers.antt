use Rattle.std.proofs.Common.{sym, subst, ℕ, List, ◌+◌}
use Rattle.std.specs.Prelude.{map, take, string_bytes}
use Rattle.files.specs.Opening.{AreOpened, IsOpened, CannotOpen, AreUnopened}
use Rattle.files.proofs.FileLemmas.{opened_more, unopened_at}
use Rattle.files.proofs.opening.open_all.Goals as goal

pub returns-in-Err-clause-refused : goal.returns-in-Err-clause-refused
returns-in-Err-clause-refused g c =
    let opened = g.P.Provides.opened in
    let made = g.P.Provides.made in
    let missing = g.P.Provides.missing in
    subst (λ names. AreUnopened opened made c.args.run.now missing (map string_bytes names) c.in-Err.refused) c.as_slice-name-items.ensures.value
    (unopened_at opened made c.args.run.now missing string_bytes c.as_slice-name-items.result.now c.loop-name.name-index c.name-item.result
    c.loop-name.files.items c.in-Err.refused c.loop-name-test.true c.name-item.is c.loop-name.invariant
    (subst (λ (name : List ℕ). CannotOpen missing name c.in-Err.refused) c.as_str.ensures.value c.in-Err.ensures.refused))

pub loop-name-preserved : goal.loop-name-preserved
loop-name-preserved g c =
    let names = c.as_slice-name-items.result.now in
    subst (AreOpened g.P.Provides.opened g.P.Provides.made c.args.run.now (map string_bytes (take (c.loop-name.name-index + 1) names)))
    (sym c.in_ok-push-in-Ok.ensures.items)
    (opened_more g.P.Provides.opened g.P.Provides.made c.args.run.now string_bytes names
    c.loop-name.name-index c.name-item.result c.loop-name.files.items c.in-Ok.file
    c.loop-name-test.true c.name-item.is c.loop-name.invariant
    (subst (λ (name : List ℕ). IsOpened g.P.Provides.opened g.P.Provides.made c.args.run.now name c.in-Ok.file)
    c.as_str.ensures.value c.in-Ok.ensures.opened))
