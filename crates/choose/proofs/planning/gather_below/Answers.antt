use Rattle.std.proofs.Common.{◌≡◌, ◌<◌, length, inr, refl, sym, ◌∙◌, ap, subst, take, arith}
use Rattle.choose.specs.Visible.{choose_in}
use Rattle.choose.specs.Gathering.{IsGathered}
use Rattle.choose.specs.Gathering.{with_labels}
use Rattle.choose.proofs.PlanLemmas.{below_step, below_within, all_taken, too_much}
use Rattle.choose.proofs.planning.gather_below.Goals as goal

pub returns-then-is_too_large : goal.returns-then-is_too_large
returns-then-is_too_large c classes sources A P g =
    let p = c.loop-next.gathering in
    inr (
      refl,
      too_much c.args.view.now (choose_in c.args.view.now c.args.pins.now) classes sources A P (take c.loop-next.next p.records) p
          (c.loop-next.invariant.gathered classes sources A P g) c.if-is_too_large.ensures,
    )

pub returns-then-is_too_large-2 : goal.returns-then-is_too_large-2
returns-then-is_too_large-2 c classes sources A P g =
    let p = c.loop-next.gathering in
    inr (
      refl,
      too_much c.args.view.now (choose_in c.args.view.now c.args.pins.now) classes sources A P (take c.loop-next.next p.records) p
          (c.loop-next.invariant.gathered classes sources A P g) c.if-is_too_large-2.ensures,
    )

pub loop-next-preserved : goal.loop-next-preserved
loop-next-preserved c =
    let p = c.loop-next.gathering in
    let q = c.add_labels.new.self in
    let r = c.in_ok-realisation.realisation in
    let k = c.loop-next.next in
    let lt : k < length p.records = omega arith in
    let is : q ≡ with_labels c.args.view.now (choose_in c.args.view.now c.args.pins.now) r.labels p = c.in_ok-add_labels.ensures
    ∙ ap (λ ls. with_labels c.args.view.now (choose_in c.args.view.now c.args.pins.now) ls p) c.labels.ensures.labels in
    record {
      within = below_within c.args.view.now (choose_in c.args.view.now c.args.pins.now) k r.labels p q lt is;
      gathered = λ classes sources A P g. below_step c.args.view.now c.args.pins.now classes sources A P k r p q lt c.in_ok-realisation.ensures is
          (c.loop-next.invariant.gathered classes sources A P g);
    }

pub returns : goal.returns
returns c classes sources A P g =
    let p = c.loop-next.gathering in
    let all : take c.loop-next.next p.records ≡ p.records = all_taken p.records c.loop-next.next c.loop-next.invariant.within (omega arith) in (
      subst (λ D. IsGathered c.args.view.now (choose_in c.args.view.now c.args.pins.now) classes sources A P D p) all
          (c.loop-next.invariant.gathered classes sources A P g),
      sym c.if-is_too_large-2.ensures,
    )
