use Rattle.std.proofs.Common.{◌≡◌, sym, ◌∙◌, ap, subst, true, false}
use Rattle.std.specs.Prelude.{MatchResult}
use Rattle.model.specs.declared.refusal.Refusal.TheVariants.{Memory}
use Rattle.model.specs.Worlds.{Source}
use Rattle.choose.proofs.ReachedLemmas.{source_own}
use Rattle.choose.specs.Gathering.{has_source}
use Rattle.choose.proofs.KeyLemmas.{keyed, source_there, source_pushed}
use Rattle.choose.proofs.gathering.Gathering.add_source.Goals as goal

pub returns-then-contains : goal.returns-then-contains
returns-then-contains c =
    let there = keyed (λ (s : Source). s.path) true c.args.path.now c.self.inside.paths.keys c.self.inside.sources.items c.self.invariant.of_sources
    c.if-contains.ensures in
    source_there c.args.view.now c.args.path.now c.args.self.now (ap (has_source c.args.path.now) (sym c.self.view_is) ∙ there)

pub push_source-requires-clause-absent : goal.push_source-requires-clause-absent
push_source-requires-clause-absent c =
    ap (has_source c.args.path.now) (sym c.self.view_is)
    ∙ keyed (λ (s : Source). s.path) false c.args.path.now c.self.inside.paths.keys c.self.inside.sources.items c.self.invariant.of_sources
    c.if-contains.ensures

pub push_source-requires-clause-own : goal.push_source-requires-clause-own
push_source-requires-clause-own c = source_own c.args.view.now.sources c.args.path.now c.in-Some.source (sym c.in_ok-source.ensures ∙ c.in-Some.is)

pub returns-in-Some : goal.returns-in-Some
returns-in-Some c =
    let absent : has_source c.args.path.now c.args.self.now ≡ false = ap (has_source c.args.path.now) (sym c.self.view_is)
    ∙ keyed (λ (s : Source). s.path) false c.args.path.now c.self.inside.paths.keys c.self.inside.sources.items c.self.invariant.of_sources
    c.if-contains.ensures in
    let is = source_pushed c.args.view.now c.args.path.now c.args.self.now c.in-Some.source absent (sym c.in-Some.is ∙ c.in_ok-source.ensures) in
    subst (λ p. MatchResult c.push_source.result (λ x. c.push_source.new.self ≡ p) (λ e. e ≡ Memory)) is c.push_source.ensures
