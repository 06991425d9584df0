use Rattle.std.proofs.Common.{refl, rules, subst}
use Rattle.std.specs.Prelude.{codes}
use Rattle.clap.specs.Words.{found_of}
use Rattle.clap.proofs.WalkLemmas.{one_text-rows}
use Rattle.command_line.specs.Named.{IsFlagOf}
use Rattle.command_line.proofs.matched.strike_of.Goals as goal

pub returns-in-Some-Some : goal.returns-in-Some-Some
returns-in-Some-Some c =
    let flag = subst (λ t. IsFlagOf t c.get_flag-timed.result) (one_text-rows (found_of c.args.matches.now) (codes "timed"))
    (c.get_flag-timed.ensures.value, c.get_flag-timed.ensures.other, c.get_flag-timed.ensures.none) in
    (refl, search rules, flag, search rules)
