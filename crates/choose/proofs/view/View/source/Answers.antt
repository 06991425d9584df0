use Rattle.std.proofs.Common.{◌∙◌, refl, ap, Some}
use Rattle.choose.proofs.SourceLemmas.{no_source, has_source, found_source, made_source}
use Rattle.choose.proofs.view.View.source.Goals as goal

pub returns-then-not-is_source : goal.returns-then-not-is_source
returns-then-not-is_source c =
    no_source c.args.self.now c.self.inside.table.now.sources c.self.inside.desks.items c.deref.result.now c.args.path.now c.self.view_is
    c.deref.ensures.value c.if-not-is_source.ensures

pub tree_in-requires : goal.tree_in-requires
tree_in-requires c =
    found_source c.self.inside.table.now.sources c.self.inside.desks.items c.deref.result.now c.args.path.now c.self.invariant.stored c.deref.ensures.value
    c.if-not-is_source.ensures

pub returns : goal.returns
returns c =
    let table = c.self.inside.table.now.sources in
    let tree = c.in_ok-tree.tree in
    ap Some c.new.ensures ∙ made_source table c.args.path.now c.in_ok-clone.field-0 tree (Some tree) c.in_ok-clone.ensures.cases c.in_ok-tree.ensures refl
    ∙ has_source c.args.self.now table c.self.inside.desks.items c.deref.result.now c.args.path.now c.self.view_is c.deref.ensures.value
    c.if-not-is_source.ensures
