use Rattle.std.proofs.Common.{◌≡◌, ◌-◌, ◌<◌, length, take, ap, ◌∙◌, subst, arith, append-nil}
use Rattle.std.specs.List.{flat_map}
use Rattle.path_sets.specs.PathSets.{IsTable, base_name, counted}
use Rattle.path_sets.proofs.PathSetLemmas.{table_less, last_name_within}
use Rattle.path_sets.proofs.path_table.PathTable.pop.Goals as goal
use Rattle.path_sets.proofs.path_table.PathTable.pop.Goals.{After-base_name}

within : (c : After-base_name) → length (base_name c.in-Some.last) < length c.self.inside.names.items
within c = last_name_within c.pop.new.self.items c.in-Some.last c.self.inside.names.items
    (c.self.invariant.names_are ∙ ap (flat_map counted) c.in-Some.ensures.items)

pub overflow_sub-count : goal.overflow_sub-count
overflow_sub-count c = (let less = within c in let long = c.len.ensures in let name = ap length c.base_name.ensures.value in omega (arith, less, long, name))

pub overflow_sub-count-2 : goal.overflow_sub-count-2
overflow_sub-count-2 c = (let less = within c in let long = c.len.ensures in let name = ap length c.base_name.ensures.value in omega (arith, less, long, name))

pub invariant_of-self : goal.invariant_of-self
invariant_of-self c =
    let same = c.in_default.ensures.items ∙ append-nil c.pop.new.self.items in
    subst (λ paths. IsTable paths c.self.inside.groups.entries c.self.inside.slots c.self.inside.names.items) same c.self.invariant

pub invariant_of-self-2 : goal.invariant_of-self-2
invariant_of-self-2 c =
    let names = c.self.inside.names.items in
    let path = c.in-Some.last in
    let count : c.len.result - length c.base_name.result.now - 1 ≡ length names - length (base_name path) - 1 =
    (let long = c.len.ensures in let name = ap length c.base_name.ensures.value in omega (arith, long, name)) in
    rw (c.truncate.ensures.items ∙ ap (λ n. take n names) count)
    (table_less c.pop.new.self.items c.self.inside.groups.entries c.take_from_group.new.groups.entries c.self.inside.slots names c.digits.result.now path
    (subst (λ paths. IsTable paths c.self.inside.groups.entries c.self.inside.slots names) c.in-Some.ensures.items c.self.invariant)
    (c.digits.ensures.value ∙ c.hash_part-part.ensures.value) c.take_from_group.ensures)
