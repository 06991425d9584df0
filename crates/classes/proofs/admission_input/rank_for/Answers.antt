use Rattle.std.proofs.Common.{◌≡◌, ◌<◌, true, map, sym, ap, ◌∙◌, arith}
use Rattle.std.specs.Prelude.{Ok}
use Rattle.model.specs.Derivations.{Derivation}
use Rattle.model.specs.Classes.{rank_at, greatest}
use Rattle.classes.specs.Admitting.{has_sources}
use Rattle.classes.proofs.Admitting.{ranks_are, all_known, sources_missing, too_high, is_admitted, admission_is}
use Rattle.classes.proofs.admission_input.rank_for.Goals as goal

pub returns-then-not-has_sources-clause-answer : goal.returns-then-not-has_sources-clause-answer
returns-then-not-has_sources-clause-answer c =
    let known = c.args.known.now in
    let d = c.args.derivation.now in
    let sources = c.deref.ensures.value ∙ ap (λ (x : Derivation). x.sources) c.parts.ensures.parts in
    sources_missing known d (all_known known d.inputs c.args.inputs.now c.requires.inputs) (sym (c.has_sources.ensures ∙ ap (has_sources known) sources) ∙ c.if-not-has_sources.true)

pub returns-then-greatest-ge-GREATEST_RANK-clause-answer : goal.returns-then-greatest-ge-GREATEST_RANK-clause-answer
returns-then-greatest-ge-GREATEST_RANK-clause-answer c =
    let known = c.args.known.now in
    let d = c.args.derivation.now in
    let sources = c.deref.ensures.value ∙ ap (λ (x : Derivation). x.sources) c.parts.ensures.parts in
    let all : has_sources known d.sources ≡ true = sym (c.has_sources.ensures ∙ ap (has_sources known) sources) ∙ c.if-not-has_sources.false in
    let rank : c.greatest_of-greatest.result ≡ greatest (map (rank_at known) d.inputs) =
    c.greatest_of-greatest.ensures.greatest ∙ sym (ap greatest (ranks_are known d.inputs c.args.inputs.now c.requires.inputs)) in
    too_high known d (all_known known d.inputs c.args.inputs.now c.requires.inputs) all (omega (arith, rank, c.if-greatest-ge-GREATEST_RANK.true))

pub returns : goal.returns
returns c =
    let known = c.args.known.now in
    let d = c.args.derivation.now in
    let sources = c.deref.ensures.value ∙ ap (λ (x : Derivation). x.sources) c.parts.ensures.parts in
    let all : has_sources known d.sources ≡ true = sym (c.has_sources.ensures ∙ ap (has_sources known) sources) ∙ c.if-not-has_sources.false in
    let rank : c.greatest_of-greatest.result ≡ greatest (map (rank_at known) d.inputs) =
    c.greatest_of-greatest.ensures.greatest ∙ sym (ap greatest (ranks_are known d.inputs c.args.inputs.now c.requires.inputs)) in
    let low : greatest (map (rank_at known) d.inputs) < 64 = omega (arith, rank, c.if-greatest-ge-GREATEST_RANK.false) in
    record {
      rank = omega (arith, c.greatest_of-greatest.ensures.greatest);
      most = omega (arith, c.if-greatest-ge-GREATEST_RANK.false);
      answer = is_admitted known d (all_known known d.inputs c.args.inputs.now c.requires.inputs) all low
          ∙ ap Ok (admission_is known d c.args.inputs.now c.requires.inputs);
    }
