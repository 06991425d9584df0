use Rattle.std.proofs.Common.{◌≡◌, ◌∙◌, ap, None, rules}
use Rattle.std.specs.Prelude.{option_copied}
use Rattle.model.specs.Classes.{known_at}
use Rattle.goals.specs.Reusing.{done_path, found_at, found_by}
use Rattle.goals.proofs.ReuseLemmas.{nothing_found, unknown_found}
use Rattle.goals.proofs.reusing.least_for_goal.Goals as goal

pub returns-in_default : goal.returns-in_default
returns-in_default c =
    let none : done_path c.args.resolved.now c.args.goal.now ≡ None = search rules in
    nothing_found (option_copied c.args.best) (found_by c.args.resolved.now c.args.labels.now c.args.desk.now c.args.goal.now)
    (ap (found_at c.args.labels.now c.args.desk.now (known_at c.args.desk.now.known c.args.goal.now.derivation)) none)

pub returns-in-None : goal.returns-in-None
returns-in-None c =
    let none : known_at c.args.desk.now.known c.args.goal.now.derivation ≡ None = search rules in
    nothing_found (option_copied c.args.best) (found_by c.args.resolved.now c.args.labels.now c.args.desk.now c.args.goal.now)
    (ap (λ k. found_at c.args.labels.now c.args.desk.now k (done_path c.args.resolved.now c.args.goal.now)) none
    ∙ unknown_found c.args.labels.now c.args.desk.now (done_path c.args.resolved.now c.args.goal.now))
