use Rattle.std.proofs.Common.{◌∙◌, refl, sym, ap, Some}
use Rattle.std.specs.Prelude.{option_copied, option_map, is_some}
use Rattle.model.specs.Worlds.{pin_of, tree_at}
use Rattle.records.specs.Trees.{record_at}
use Rattle.choose.proofs.ChoosingLemmas.{found_choice, found_stored, made_record}
use Rattle.choose.proofs.choice.chosen.Goals as goal

pub returns-in_default : goal.returns-in_default
returns-in_default c =
    let table = c.view.inside.table.now.sources in
    sym (found_choice c.args.view.now table c.view.inside.desks.items c.deref.result.now c.args.pins.now c.args.class.now (option_copied c.choice.result)
    c.view.view_is c.deref.ensures.value c.choice.ensures
    ∙ ap (λ o. option_map (record_at table) (option_copied o)) c.in_default.is)

pub tree_in-requires : goal.tree_in-requires
tree_in-requires c =
    let table = c.view.inside.table.now.sources in
    ap (λ p. is_some (tree_at p table)) c.path.ensures
    ∙ found_stored table c.view.inside.desks.items c.deref.result.now (pin_of c.args.pins.now c.args.class.now) c.args.class.now c.in-Some.kept.now
    c.view.invariant.stored c.deref.ensures.value (ap option_copied (sym c.in-Some.is) ∙ c.choice.ensures)

pub returns : goal.returns
returns c =
    let table = c.view.inside.table.now.sources in
    let tree = c.in_ok-tree.tree in
    ap Some c.new.ensures
    ∙ made_record table c.in-Some.kept.now c.in_ok-clone.field-0 tree c.path.result.now (Some tree) c.in_ok-clone.ensures.cases c.path.ensures
    c.in_ok-tree.ensures refl
    ∙ sym (found_choice c.args.view.now table c.view.inside.desks.items c.deref.result.now c.args.pins.now c.args.class.now (option_copied c.choice.result)
    c.view.view_is c.deref.ensures.value c.choice.ensures
    ∙ ap (λ o. option_map (record_at table) (option_copied o)) c.in-Some.is)
