use Rattle.std.proofs.Common.{◌≡◌, refl, ap, sym, ◌∙◌, Some}
use Rattle.std.specs.Prelude.{bytes_eq}
use Rattle.std.specs.Map.{lookup, set_value}
use Rattle.std.proofs.lemmas.Map.Steps.{set_value_same}
use Rattle.std.proofs.lemmas.Result.{MatchResult-weaker}
use Rattle.path_sets.specs.PathSets.{group_at}
use Rattle.path_sets.proofs.PathSetLemmas.{group_more}
use Rattle.path_sets.proofs.path_table.put_in_group.Goals as goal

pub returns-in-Some : goal.returns-in-Some
returns-in-Some c =
    let part = c.args.part.now in
    let old = c.args.groups.now.entries in
    let group = c.in-Some.group.now in
    let after = c.push.new.self in
    let there : lookup (bytes_eq part) old ≡ Some group = sym c.in-Some.ensures.value in
    let written = c.get_mut.follows.holds after in
    MatchResult-weaker c.push.result c.push.ensures
    (λ _ pushed. group_more old (c.get_mut.follows.lender after).entries part c.args.path group after there (written.3 (rw there refl)).0 pushed)
    (λ e kept. (kept.0, λ p. ap (group_at p) (written.0 ∙ ap (set_value (bytes_eq part) old) kept.1 ∙ set_value_same (bytes_eq part) old group there)))
