use Rattle.std.proofs.Common.{◌≡◌, List, ℕ, sym, ◌∙◌, ap}
use Rattle.std.specs.Prelude.{bytes_eq, ◌||◌}
use Rattle.std.specs.List.{list_any}
use Rattle.model.specs.Classes.{is_one_of}
use Rattle.realise.specs.Held.{paths_held}
use Rattle.realise.specs.Holdings.{paths_of}
use Rattle.schedule.proofs.HoldingLemmas.{left_ends, one_of_sym}
use Rattle.schedule.proofs.holding.hold_desk.Goals as goal

pub returns-clause-held : goal.returns-clause-held
returns-clause-held c q =
    let d = c.args.desk.now in
    let held : List (List ℕ) = paths_held d.archives in
    let all : is_one_of held q ≡ is_one_of (paths_of d) q =
    sym (one_of_sym held q) ∙ c.paths-path-items.ensures.all q ∙ one_of_sym (paths_of d) q in
    left_ends (λ r p. bytes_eq p r) c.args.held.now.keys c.loop-path.held.keys held c.loop-path.path-iterator c.in-None.ensures.steps.0 c.loop-path.invariant q
    ∙ ap (λ b. list_any (bytes_eq q) c.args.held.now.keys || b) all
