use Rattle.std.proofs.Common.{◌<◌, ◌∙◌, sym, ap, arith}
use Rattle.std.specs.Prelude.{option_copied, length}
use Rattle.model.specs.Orders.{least}
use Rattle.trust.specs.Trusting.{holds, trusts}
use Rattle.handlers.specs.Viewing.{places_of}
use Rattle.goals.specs.Reusing.{path_before, found_in}
use Rattle.goals.proofs.StateLemmas.{few_of}
use Rattle.goals.proofs.ReuseLemmas.{finished_so, held_so}
use Rattle.goals.proofs.reusing.finished_build.Goals as goal

pub closure-requires : goal.closure-requires
closure-requires c = let few = few_of c.args.state.now in let below : c.args.place < _ = c.requires.of_run in omega (arith, few, below)

pub returns-clause-found : goal.returns-clause-found
returns-clause-found c =
    let s = c.args.state.now in
    finished_so (trusts s.trust) s.jobs.goals s.desks.items c.args.place c.args.resolved.now (holds c.closure.result)
    (option_copied c.least_for_all.result) c.closure.ensures
    (c.least_for_all.ensures ∙ ap (λ labels. least path_before (found_in c.args.resolved.now labels s.desks.items s.jobs.goals
    (places_of (holds c.closure.result) (length s.desks.items))))
    c.requires.labels)

pub returns-clause-held : goal.returns-clause-held
returns-clause-held c q is =
    let s = c.args.state.now in
    held_so c.args.resolved.now c.args.labels.now s.desks.items s.jobs.goals (holds c.closure.result) q (sym is ∙ c.least_for_all.ensures)
