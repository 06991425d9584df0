use Rattle.std.proofs.Common.{rules, subst}
use Rattle.std.specs.Prelude.{codes}
use Rattle.clap.specs.Words.{found_of}
use Rattle.clap.proofs.WalkLemmas.{one_text-rows}
use Rattle.command_line.specs.Named.{IsChargeOf}
use Rattle.command_line.proofs.matched.options_of.Goals as goal

pub returns : goal.returns
returns c =
    let text = one_text-rows (found_of c.args.matches.now) (codes "charge") in
    (search rules, subst (λ t. IsChargeOf t c.charge_of.result) text c.charge_of.ensures.value)
