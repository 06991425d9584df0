use Rattle.std.proofs.Common.{sym, subst, ◌∙◌}
use Rattle.std.specs.Map.{lookup, remove_entry}
use Rattle.desk_records.specs.Indexed.{AreTabled}
use Rattle.desk_records.proofs.NumberLemmas.{ascend_in_map, key_of_number, tabled_less}
use Rattle.desk_records.proofs.by_class.take_out.Goals as goal

pub returns-in-Some-clause-in_order : goal.returns-in-Some-clause-in_order
returns-in-Some-clause-in_order c =
    let number = c.args.number in
    let list = c.args.list.now.entries in
    let there = sym (c.in-Some.ensures.value ∙ (λ j. lookup (λ n. key_of_number number n j) list)) in
    let taken = c.remove.ensures.entries ∙ (λ j. remove_entry (λ n. key_of_number number n j) list) in
    record {
      tabled = subst (AreTabled c.take.new.self) (sym taken)
          (tabled_less number c.in-Some.record c.args.indexes.now c.take.new.self list c.requires.tabled there c.take.ensures);
      ascending = ascend_in_map c.remove.new.self.entries c.remove.ensures.ordered;
    }

pub returns-in-Some-clause-others : goal.returns-in-Some-clause-others
returns-in-Some-clause-others c = c.remove.ensures.entries ∙ (λ j. remove_entry (λ n. key_of_number c.args.number n j) c.args.list.now.entries)
