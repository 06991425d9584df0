use Rattle.std.proofs.Common.{rules, arith, ◌≡◌, ◌-◌, ◌^◌, map, refl, sym, ap, ◌∙◌}
use Rattle.std.specs.Arc.{arc_value}
use Rattle.schedule.specs.Standing.{setup_for}
use Rattle.running.proofs.ServedSessionLemmas.{none_counted, no_results}
use Rattle.running.proofs.runs.run.Goals as goal

pub returns-then-count-eq0-clause-results : goal.returns-then-count-eq0-clause-results
returns-then-count-eq0-clause-results g c =
    let zero : c.count_passes-count.result ≡ 0 = search rules in
    no_results (setup_for c.args.users c.args.limits) g.Q.Runner.gives g.I.Read.remaining c.args.parts.items _
    (sym c.deref.ensures.value ∙ none_counted (2 ^ 64 - 1) c.deref.result.now (omega arith) (sym zero ∙ c.count_passes-count.ensures))
    c.new-then-count-eq0.ensures.items (ap (map arc_value) c.new-then-count-eq0-2.ensures.items) refl
