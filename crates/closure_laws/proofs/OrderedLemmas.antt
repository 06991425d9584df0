-- What is planned for a view is in order, with one record for a class.
use Rattle.std.proofs.Common.{◌≡◌, ℕ, subst, List, Option, Some, Ok}
use Rattle.std.specs.Prelude.{filter_map}
use Rattle.model.specs.Worlds.{Source, Record, Desk, Pin}
use Rattle.model.specs.Choices.{Plan, rank_before, source_before, needed_records, visible_records, visible_sources, choose, needed_sources, source_among, closure_plan}
use Rattle.laws.proofs.MemberLemmas.{In, from_set}
use Rattle.laws.proofs.ClosureLemmas.{IsOfClass, choose_own, needed_chosen, chosen_for, sources_for, plan_is}
use Rattle.records.specs.Plans.{IsInOrder}
use Rattle.laws.proofs.SetLemmas.{set_ascends}
use Rattle.records.proofs.EntryOrderLemmas.{rank_before-Weak, source_before-Weak}
use Rattle.choose.proofs.ReachedLemmas.{one_of_class}
use Rattle.closure_laws.specs.RepairLaws.{ClosuresKeepNoReplaced}
use Rattle.closure_laws.proofs.KeptLemmas.{plans_keep_no_replaced}

ordered : (records : List Record) (visible : List Source) (choice : List ℕ → Option Record) → IsOfClass choice → (classes sources : List (List ℕ))
    → IsInOrder (record { records = chosen_for records choice classes; sources = sources_for records visible choice classes sources })
ordered records visible choice own classes sources =
    let all = needed_records records choice classes in
    let chosen : (r : Record) → In r (chosen_for records choice classes) → choice r.class.path ≡ Some r = λ r h.
    needed_chosen records choice own classes r (from_set rank_before r all h) in
    record {
      records = set_ascends rank_before rank_before-Weak all;
      once = λ q r h k e. one_of_class choice q r (chosen q h) (chosen r k) e;
      sources = set_ascends source_before source_before-Weak
          (filter_map (source_among visible) (needed_sources sources (chosen_for records choice classes)));
    }

-- what is planned is in order
pub plan_is_in_order : (view : List Desk) (pins : List Pin) (classes sources : List (List ℕ)) (p : Plan)
    → closure_plan view pins classes sources ≡ Ok p → IsInOrder p
plan_is_in_order view pins classes sources p e =
    let records = visible_records view in
    subst IsInOrder (plan_is records (visible_sources view) (choose view pins) classes sources p e)
    (ordered records (visible_sources view) (choose view pins) (choose_own records pins) classes sources)

pub closures_keep_no_replaced : ClosuresKeepNoReplaced
closures_keep_no_replaced view pins classes sources p entries e sound apart served =
    plans_keep_no_replaced p entries sound (plan_is_in_order view pins classes sources p e) apart served
