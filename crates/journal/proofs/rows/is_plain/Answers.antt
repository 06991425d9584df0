use Rattle.std.proofs.Common.{refl, sym, ◌∙◌}
use Rattle.journal.proofs.RowLemmas.{plain-none, none-plain}
use Rattle.journal.proofs.rows.is_plain.Goals as goal

pub returns-in-None : goal.returns-in-None
returns-in-None c = (λ yes. plain-none c.args.text.now c.in-None.ensures, λ plain. refl)

pub returns-in-Some : goal.returns-in-Some
returns-in-Some c = (λ yes. absurd (cc yes), λ plain. let cut = sym (none-plain c.args.text.now plain) ∙ c.in-Some.ensures in absurd (cc cut))
