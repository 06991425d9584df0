use Rattle.std.proofs.Common.{ℕ, List, [], ap, sym, ◌∙◌}
use Rattle.std.specs.Prelude.{unwrap_or, Option}
use Rattle.path_sets.proofs.PathSetLemmas.{none_unmarked}
use Rattle.path_sets.proofs.path_table.PathTable.with_digits.Goals as goal

pub returns-then-not-are_marked : goal.returns-then-not-are_marked
returns-then-not-are_marked c =
    rw (← c.self.view_is) (sym (none_unmarked c.self.inside.paths.items c.self.inside.groups.entries c.self.inside.slots c.self.inside.names.items
    c.args.window.now c.self.invariant (sym c.are_marked.ensures ∙ c.if-not-are_marked.true)))

pub returns-in-Some : goal.returns-in-Some
returns-in-Some c = rw (← c.self.view_is) (c.as_slice.ensures ∙ ap (λ (group : Option (List (List ℕ))). unwrap_or group []) c.in-Some.ensures.value
    ∙ c.self.invariant.grouped c.args.window.now)

pub returns-in-None : goal.returns-in-None
returns-in-None c = rw (← c.self.view_is) (ap (λ (group : Option (List (List ℕ))). unwrap_or group []) c.in-None.ensures.value
    ∙ c.self.invariant.grouped c.args.window.now)
