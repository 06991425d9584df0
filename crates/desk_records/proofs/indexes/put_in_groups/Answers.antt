use Rattle.std.proofs.Common.{rules, ◌≡◌, subst}
use Rattle.desk_records.specs.Indexed.{IsGrouped, IsUngrouped}
use Rattle.desk_records.proofs.NumberLemmas.{back_again}
use Rattle.desk_records.proofs.indexes.put_in_groups.Goals as goal

pub returns-in-Err-clause-classes : goal.returns-in-Err-clause-classes
returns-in-Err-clause-classes c =
    let r = c.args.one.now in
    let old = c.args.by_class.now.entries in
    let mid = c.put_in_group.new.groups.entries in
    let own : c.in_ok-class.class ≡ r.class.path = search rules in
    let there : c.path-in-Err.result.now ≡ r.class.path = search rules in
    let put : IsGrouped r.class.path (c.args.number, c.in_ok-clone.field-0) old mid =
    subst (λ key. IsGrouped key (c.args.number, c.in_ok-clone.field-0) old mid) own c.in_ok-put_in_group.ensures in
    let taken : IsUngrouped r.class.path c.args.number mid c.take_from_group.new.groups.entries =
    subst (λ key. IsUngrouped key c.args.number mid c.take_from_group.new.groups.entries) there c.take_from_group.ensures in
    (c.in-Err.ensures.0, back_again r.class.path c.args.number c.in_ok-clone.field-0 old mid c.take_from_group.new.groups.entries c.requires.of_class put taken)
