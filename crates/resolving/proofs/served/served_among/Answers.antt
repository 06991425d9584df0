use Rattle.std.proofs.Common.{◌≡◌, ◌⊎◌, subst, Ok, Err}
use Rattle.std.specs.Prelude.{MatchResult}
use Rattle.model.specs.declared.refusal.Refusal.TheVariants.{Memory}
use Rattle.model.specs.Closures.{path_for}
use Rattle.resolving.specs.Resolving.{path_in}
use Rattle.resolving.proofs.ResolvingLemmas.{same_served}
use Rattle.resolving.proofs.served.served_among.Goals as goal

pub returns : goal.returns
returns c =
    subst (λ answer. MatchResult c.all_served_by.result (λ served. answer ≡ Ok served.items) (λ e. (e ≡ Memory) ⊎ (answer ≡ Err e)))
    (same_served (path_in c.in_ok-paths.paths.entries) (λ class. path_for class c.args.entries.now) c.args.classes.now c.in_ok-paths.ensures)
    c.all_served_by.ensures
