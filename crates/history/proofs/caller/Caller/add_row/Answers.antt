use Rattle.std.proofs.Common.{◌≡◌, sym, ap, ◌∙◌, subst, length, arith}
use Rattle.std.proofs.lemmas.List.{length_push}
use Rattle.history.specs.declared.log.Claimed.{Claimed}
use Rattle.history.specs.Callers.{Caller, rows_of}
use Rattle.history.proofs.RowLemmas.{one_more}
use Rattle.history.proofs.caller.Caller.add_row.Goals as goal

pub invariant_of-self : goal.invariant_of-self
invariant_of-self g c =
    let pass = c.self.inside in
    let rows = c.args.log.now.rows in
    let row = c.args.row.now in
    let mine : row.pass ≡ pass.number = c.requires.mine ∙ ap (λ (p : Caller). p.number) (sym c.self.view_is) in
    let each : rows_of pass.number rows ≡ pass.calls.amount = subst (λ (p : Caller). rows_of p.number rows ≡ p.calls) (sym c.self.view_is) c.requires.matches.each in
    let calls = ap (λ (p : Caller). p.calls) c.self.view_is in (
      c.add.ensures.parts ∙ c.self.invariant.0,
      ap (λ (claim : Claimed). claim.number) c.grow.ensures.claim ∙ c.self.invariant.1,
      ap (λ (claim : Claimed). rows_of pass.number claim.rows) c.grow.ensures.claim ∙ omega (arith, one_more pass.number rows row mine, each, c.add.ensures.amount),
      λ one. ap (λ (claim : Claimed). length claim.rows) c.grow.ensures.claim ∙ omega (arith, length_push rows row, c.requires.alone one, calls, c.add.ensures.amount),
    )
