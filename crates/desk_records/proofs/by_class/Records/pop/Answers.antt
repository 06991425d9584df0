use Rattle.std.proofs.Common.{ap, sym, subst, ◌∙◌}
use Rattle.desk_records.specs.Indexed.{AreTabled, without_last}
use Rattle.desk_records.specs.Numbers.{without_numbers}
use Rattle.desk_records.proofs.NumberLemmas.{ascend_in_map, bare_last, below_last, tabled_before}
use Rattle.desk_records.proofs.by_class.Records.pop.Goals as goal

pub invariant_of-self : goal.invariant_of-self
invariant_of-self c =
    let number = c.in-Some.number in
    let left = c.pop_last.new.self.entries in
    let before = subst (AreTabled c.self.inside.indexes) c.in-Some.ensures.removal c.self.invariant.tabled in
    record {
      tabled = tabled_before number c.in-Some.record c.self.inside.indexes c.take.new.self left before (below_last number left c.in-Some.ensures.all_below)
          c.take.ensures;
      ascending = ascend_in_map left c.pop_last.ensures.ordered;
    }

pub returns-in-Some : goal.returns-in-Some
returns-in-Some c =
    bare_last (c.in-Some.number, c.in-Some.record) c.pop_last.new.self.entries
    ∙ ap (λ list. without_last (without_numbers list)) (sym c.in-Some.ensures.removal) ∙ ap without_last c.self.view_is
