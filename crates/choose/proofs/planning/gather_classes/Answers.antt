use Rattle.std.proofs.Common.{◌≡◌, [], false, inr, refl, subst, take, arith}
use Rattle.std.specs.Prelude.{is_none}
use Rattle.std.specs.List.{list_any}
use Rattle.std.proofs.lemmas.List.{take_all}
use Rattle.choose.specs.Visible.{choose_in}
use Rattle.choose.specs.Gathering.{IsGathered}
use Rattle.choose.proofs.PlanLemmas.{classes_step, class_chosen, class_missing}
use Rattle.choose.proofs.planning.gather_classes.Goals as goal

pub returns-then-not-has_class : goal.returns-then-not-has_class
returns-then-not-has_class c =
    inr (
      refl,
      class_missing c.args.view.now c.args.pins.now c.args.classes.now c.loop-class.class-index c.class-item.result c.loop-class.gathering
          c.add_class.new.self c.loop-class-test.true c.class-item.is c.in_ok-add_class.ensures (c.loop-class.invariant.gathered [])
          c.if-not-has_class.ensures,
    )

pub loop-class-preserved : goal.loop-class-preserved
loop-class-preserved c = record {
  realised = class_chosen c.args.view.now c.args.pins.now c.args.classes.now c.loop-class.class-index c.class-item.result c.loop-class.gathering
      c.add_class.new.self c.loop-class-test.true c.class-item.is c.in_ok-add_class.ensures (c.loop-class.invariant.gathered [])
      c.if-not-has_class.ensures c.loop-class.invariant.realised;
  gathered = λ sources. classes_step c.args.view.now c.args.pins.now c.args.classes.now sources c.loop-class.class-index c.class-item.result
      c.loop-class.gathering c.add_class.new.self c.loop-class-test.true c.class-item.is c.in_ok-add_class.ensures
      (c.loop-class.invariant.gathered sources);
}

pub returns : goal.returns
returns c =
    let classes = c.args.classes.now in
    let choice = choose_in c.args.view.now c.args.pins.now in
    let all : take c.loop-class.class-index classes ≡ classes = take_all c.loop-class.class-index classes (omega arith) in (
      subst (λ A. list_any (λ d. is_none (choice d)) A ≡ false) all c.loop-class.invariant.realised,
      λ sources. subst (λ A. IsGathered c.args.view.now choice classes sources A [] [] c.loop-class.gathering) all (c.loop-class.invariant.gathered sources),
    )
