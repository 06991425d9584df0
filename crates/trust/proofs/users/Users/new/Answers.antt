use Rattle.std.proofs.Common.{◌≡◌, ◌++◌, ◌∷◌, [], true, false, List, ℕ, ◌∙◌, ap, append_assoc}
use Rattle.std.specs.Prelude.{bytes_eq}
use Rattle.std.specs.List.{list_any}
use Rattle.std.specs.Vec.Iter.{into_iter_items}
use Rattle.model.specs.Worlds.{are_distinct}
use Rattle.trust.proofs.UsersLemmas.{distinct_users, not_before}
use Rattle.trust.proofs.users.Users.new.Goals as goal

pub loop-name-preserved : goal.loop-name-preserved
loop-name-preserved c =
    let keys = c.loop-name.set.keys in
    let name = c.in-Some.name in
    let rest : List (List ℕ) = into_iter_items c.next.new.self in
    let all : keys ++ name ∷ rest ≡ c.args.names.items = rw c.in-Some.ensures.steps.0 at c.loop-name.invariant in
    let distinct : are_distinct (keys ++ name ∷ rest) ≡ true = ap are_distinct all ∙ distinct_users c.args.names.items c.requires in
    let absent : list_any (bytes_eq name) keys ≡ false = not_before keys name rest distinct in
    let pushed : c.insert.new.self.keys ≡ keys ++ name ∷ [] = rw absent at c.in_ok-_is_new.ensures.keys in
    rw pushed (append_assoc keys (name ∷ []) rest ∙ all)
