use Rattle.std.proofs.Common.{◌∙◌, sym, ap, Some}
use Rattle.std.specs.Prelude.{option_copied}
use Rattle.std.specs.Str.{bytes_eq}
use Rattle.choose.specs.Visible.{is_any_or_at}
use Rattle.choose.proofs.ChoosingLemmas.{lesser_none, lesser_some}
use Rattle.choose.proofs.choice.lesser_at.Goals as goal

pub returns-in_default : goal.returns-in_default
returns-in_default c =
    ap Some c.lesser.ensures
    ∙ lesser_some (option_copied c.args.path) (option_copied c.args.best) c.args.one.now
    (ap (λ o. is_any_or_at (option_copied o) c.args.one.now) c.in_default.is)

pub returns-then-eq : goal.returns-then-eq
returns-then-eq c =
    let one = c.args.one.now in
    let path = c.in-Some.path.now in
    ap Some c.lesser-then-eq.ensures
    ∙ lesser_some (option_copied c.args.path) (option_copied c.args.best) one (ap (λ o. is_any_or_at (option_copied o) one) c.in-Some.is
    ∙ ap (λ p. bytes_eq p path) (sym c.path.ensures) ∙ sym c.eq.ensures ∙ c.if-eq.true)

pub returns-else-eq : goal.returns-else-eq
returns-else-eq c =
    let one = c.args.one.now in
    let path = c.in-Some.path.now in
    lesser_none (option_copied c.args.path) (option_copied c.args.best) one (ap (λ o. is_any_or_at (option_copied o) one) c.in-Some.is
    ∙ ap (λ p. bytes_eq p path) (sym c.path.ensures) ∙ sym c.eq.ensures ∙ c.if-eq.false)
