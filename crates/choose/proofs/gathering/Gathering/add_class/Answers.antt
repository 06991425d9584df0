use Rattle.std.proofs.Common.{◌≡◌, sym, ◌∙◌, ap, subst, true, false}
use Rattle.std.specs.Prelude.{MatchResult}
use Rattle.model.specs.declared.refusal.Refusal.TheVariants.{Memory}
use Rattle.model.specs.Worlds.{Record}
use Rattle.choose.specs.Visible.{choose_in}
use Rattle.laws.proofs.ClosureLemmas.{choose_own}
use Rattle.choose.specs.Gathering.{has_class}
use Rattle.choose.proofs.KeyLemmas.{keyed, class_there, class_pushed}
use Rattle.choose.proofs.gathering.Gathering.add_class.Goals as goal

pub returns-then-contains : goal.returns-then-contains
returns-then-contains c =
    let there = keyed (λ (r : Record). r.class.path) true c.args.class.now c.self.inside.classes.keys c.self.inside.records.items c.self.invariant.of_records
    c.if-contains.ensures in
    class_there (choose_in c.args.view.now c.args.pins.now) c.args.class.now c.args.self.now (ap (has_class c.args.class.now) (sym c.self.view_is) ∙ there)

pub push_record-requires-clause-absent : goal.push_record-requires-clause-absent
push_record-requires-clause-absent c =
    ap (has_class c.args.class.now) (sym c.self.view_is)
    ∙ keyed (λ (r : Record). r.class.path) false c.args.class.now c.self.inside.classes.keys c.self.inside.records.items c.self.invariant.of_records
    c.if-contains.ensures

pub push_record-requires-clause-own : goal.push_record-requires-clause-own
push_record-requires-clause-own c =
    choose_own c.args.view.now.records c.args.pins.now c.args.class.now c.in-Some.realisation (sym c.in_ok-realisation.ensures ∙ c.in-Some.is)

pub returns-in-Some : goal.returns-in-Some
returns-in-Some c =
    let choice = choose_in c.args.view.now c.args.pins.now in
    let absent : has_class c.args.class.now c.args.self.now ≡ false = ap (has_class c.args.class.now) (sym c.self.view_is)
    ∙ keyed (λ (r : Record). r.class.path) false c.args.class.now c.self.inside.classes.keys c.self.inside.records.items c.self.invariant.of_records
    c.if-contains.ensures in
    let is = class_pushed choice c.args.class.now c.args.self.now c.in-Some.realisation absent (sym c.in-Some.is ∙ c.in_ok-realisation.ensures) in
    subst (λ p. MatchResult c.push_record.result (λ x. c.push_record.new.self ≡ p) (λ e. e ≡ Memory)) is c.push_record.ensures
