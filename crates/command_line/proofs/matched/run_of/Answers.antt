use Rattle.std.proofs.Common.{rules, subst}
use Rattle.std.specs.Prelude.{codes}
use Rattle.clap.specs.Words.{found_of, one_of}
use Rattle.clap.proofs.WalkLemmas.{one_text-rows}
use Rattle.command_line.specs.Named.{IsFlagOf, IsLimitOf, IsWorkersOf, rows_in}
use Rattle.command_line.specs.Steps.{IsFound}
use Rattle.command_line.proofs.matched.run_of.Goals as goal

pub returns-in_default : goal.returns-in_default
returns-in_default c run is =
    let text = one_text-rows (found_of c.args.matches.now) (codes "workers") in
    let none = subst (λ t. IsFound (IsWorkersOf t) c.workers_of.result) text c.workers_of.ensures in
    subst (IsFound (IsWorkersOf (one_of (codes "workers") (rows_in c.args.matches.now)))) c.in_default.is none run.workers is.0

pub returns : goal.returns
returns c =
    let found = found_of c.args.matches.now in
    let workers = subst (λ t. IsWorkersOf t c.in-Some.workers) (one_text-rows found (codes "workers")) (search rules) in
    let sweep = subst (λ t. IsFlagOf t c.get_flag.result) (one_text-rows found (codes "sweep"))
    (c.get_flag.ensures.value, c.get_flag.ensures.other, c.get_flag.ensures.none) in
    let verbose = subst (λ t. IsFlagOf t c.get_flag-2.result) (one_text-rows found (codes "verbose"))
    (c.get_flag-2.ensures.value, c.get_flag-2.ensures.other, c.get_flag-2.ensures.none) in
    let limit = subst (λ t. IsLimitOf t c.limit_of.result) (one_text-rows found (codes "limit")) c.limit_of.ensures.value in
    (workers, search rules, search rules, search rules, search rules, limit, sweep, verbose, search rules)
