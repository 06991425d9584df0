use Rattle.std.proofs.Common.{◌≡◌, ◌<◌, false, length, ap, sym, ◌∙◌, arith}
use Rattle.std.specs.Prelude.{not, is_some}
use Rattle.std.specs.List.{list_any}
use Rattle.desk_records.specs.RecordLists.{is_recorded_at, remaining}
use Rattle.desk_records.specs.Numbers.{without_numbers}
use Rattle.desk_records.proofs.NumberLemmas.{IsFound, found_first, taken_rest, taken_length, some_number, none_remain}
use Rattle.desk_records.proofs.by_class.Records.remove.Goals as goal

-- the record that the number finds
module _ (c : goal.After-take_out) where
  found : IsFound c.in-Some.number (is_recorded_at c.args.class.now c.args.path.now) c.loop-number.self-inside.list.entries
  found =
      found_first c.in-Some.number (is_recorded_at c.args.class.now c.args.path.now) c.loop-number.self-inside.list.entries
      c.loop-number.invariant.in_order.ascending (sym (c.number_of.ensures c.loop-number.self-inside.list.entries c.loop-number.invariant.in_order.tabled) ∙ c.in-Some.is)

  shorter : length (without_numbers c.take_out.new.list.entries) < length (without_numbers c.loop-number.self-inside.list.entries)
  shorter =
      let one = taken_length c.in-Some.number found.one c.loop-number.self-inside.list.entries found.there in
      let left = ap (λ numbered. length (without_numbers numbered)) c.take_out.ensures.others in
      omega (arith, one, left)

pub loop-number-smaller : goal.loop-number-smaller
loop-number-smaller c = shorter c

pub loop-number-preserved : goal.loop-number-preserved
loop-number-preserved c =
    let class = c.args.class.now in
    let path = c.args.path.now in
    let one = found c in
    let gone : not (is_recorded_at class path one.one) ≡ false = ap not one.passes in
    record {
      in_order = c.take_out.ensures.in_order;
      rest = ap (λ numbered. remaining class path (without_numbers numbered)) c.take_out.ensures.others
          ∙ taken_rest c.in-Some.number one.one (λ r. not (is_recorded_at class path r)) c.loop-number.self-inside.list.entries one.there gone
          ∙ c.loop-number.invariant.rest;
    }

pub returns : goal.returns
returns c =
    let test = is_recorded_at c.args.class.now c.args.path.now in
    let list = c.loop-number.self-inside.list.entries in
    let none : list_any test (without_numbers list) ≡ false =
    sym (some_number test list) ∙ ap is_some (sym (c.number_of.ensures list c.loop-number.invariant.in_order.tabled) ∙ c.in_default.is) in
    sym (none_remain test (without_numbers list) none) ∙ c.loop-number.invariant.rest
