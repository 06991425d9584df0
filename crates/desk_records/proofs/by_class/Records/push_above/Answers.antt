use Rattle.std.proofs.lemmas.List.{map-append}
use Rattle.std.proofs.Common.{◌≡◌, ◌∷◌, ◌++◌, [], ℕ, ap, sym, subst, ◌∙◌}
use Rattle.records.specs.Recorded.{Recorded}
use Rattle.desk_records.specs.RecordLists.{is_record_of}
use Rattle.desk_records.specs.Numbers.{without_numbers}
use Rattle.desk_records.specs.Indexed.{AreTabled, group_at, is_record_at}
use Rattle.desk_records.proofs.NumberLemmas.{above_group, ascend_in_map, put_last, tabled_more, tabled_back}
use Rattle.desk_records.proofs.by_class.Records.push_above.Goals as goal

pub put-requires-clause-by_class : goal.put-requires-clause-by_class
put-requires-clause-by_class c =
    let class = c.args.added.class.path in
    let group = group_at class c.self.inside.indexes.by_class in
    above_group c.in-Some.number (is_record_of class) group c.self.inside.list.entries (c.self.invariant.tabled.by_class class) c.in-Some.ensures

pub put-requires-clause-by_path : goal.put-requires-clause-by_path
put-requires-clause-by_path c =
    let path = c.args.added.path in
    let group = group_at path c.self.inside.indexes.by_path in
    above_group c.in-Some.number (is_record_at path) group c.self.inside.list.entries (c.self.invariant.tabled.by_path path) c.in-Some.ensures

pub invariant_of-self-in-Err : goal.invariant_of-self-in-Err
invariant_of-self-in-Err c =
    record {
      tabled = subst (AreTabled c.take.new.self) (sym c.in-Err.ensures.err)
          (tabled_back c.in-Some.number c.args.added c.self.inside.indexes c.put.new.self c.take.new.self c.self.inside.list.entries c.self.invariant.tabled
          c.in-Some.ensures c.in_ok-put.ensures c.take.ensures);
      ascending = ascend_in_map c.insert.new.self.entries c.insert.ensures.ordered;
    }

-- the record is behind the others
module _ (c : goal.After-drop-added-in-Ok) where
  list_is : c.insert.new.self.entries ≡ c.self.inside.list.entries ++ (c.in-Some.number, c.args.added) ∷ []
  list_is =
      let number : ℕ = c.in-Some.number in
      let list = c.self.inside.list.entries in
      c.in-Ok.ensures.entries ∙ put_last number c.in_ok-copy.copy list c.in-Some.ensures
      ∙ ap (λ (r : Recorded). list ++ (number, r) ∷ []) c.in_ok-copy.ensures.cases

pub invariant_of-self-in-Ok : goal.invariant_of-self-in-Ok
invariant_of-self-in-Ok c =
    record {
      tabled = subst (AreTabled c.put.new.self) (sym (list_is c))
          (tabled_more c.in-Some.number c.args.added c.self.inside.indexes c.put.new.self c.self.inside.list.entries c.self.invariant.tabled
          c.in_ok-put.ensures);
      ascending = ascend_in_map c.insert.new.self.entries c.insert.ensures.ordered;
    }

pub returns-in-Ok : goal.returns-in-Ok
returns-in-Ok c =
    ap without_numbers (list_is c) ∙ map-append (λ (e : ℕ × Recorded). e.1) c.self.inside.list.entries ((c.in-Some.number, c.args.added) ∷ [])
    ∙ ap (λ rs. rs ++ c.args.added ∷ []) c.self.view_is
