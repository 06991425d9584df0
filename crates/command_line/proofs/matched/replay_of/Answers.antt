use Rattle.std.proofs.Common.{refl, rules, subst}
use Rattle.std.specs.Prelude.{codes}
use Rattle.clap.specs.Words.{found_of}
use Rattle.clap.proofs.WalkLemmas.{one_text-rows}
use Rattle.command_line.specs.Named.{IsFlagOf}
use Rattle.command_line.proofs.matched.replay_of.Goals as goal

pub returns-in-Some : goal.returns-in-Some
returns-in-Some c =
    let found = found_of c.args.matches.now in
    let sweep = subst (λ t. IsFlagOf t c.get_flag-sweep.result) (one_text-rows found (codes "sweep"))
    (c.get_flag-sweep.ensures.value, c.get_flag-sweep.ensures.other, c.get_flag-sweep.ensures.none) in
    let explain = subst (λ t. IsFlagOf t c.get_flag-explain.result) (one_text-rows found (codes "explain"))
    (c.get_flag-explain.ensures.value, c.get_flag-explain.ensures.other, c.get_flag-explain.ensures.none) in
    (refl, sweep, explain, search rules)
