use Rattle.std.proofs.Common.{◌≡◌, false, subst}
use Rattle.std.proofs.lemmas.Result.{err_from_is_err_and}
use Rattle.model.specs.Derivations.{Derivation}
use Rattle.model.specs.Resolutions.{resolved_derivation}
use Rattle.aterm.specs.Parts.{derivation_of}
use Rattle.rewrite.specs.Strings.{IsOverlap}
use Rattle.resolving.specs.Resolving.{overlaps}
use Rattle.resolving.proofs.ResolvingLemmas.{made_of, parts_resolve}
use Rattle.resolving.proofs.strings.resolved_parts.Goals as goal

pub returns-in_err-builder : goal.returns-in_err-builder
unfolding overlaps
returns-in_err-builder c =
    let p = err_from_is_err_and c.from_residual-in_err-builder.result c.from_residual-in_err-builder.ensures.1 in
    let served = c.args.served.now in
    let why = c.in_err-builder.field-0.0 in
    rw (p.1, p.2) (subst (λ (x : Derivation). IsOverlap (overlaps served x) why) c.parts-parts.ensures.parts c.in_err-builder.ensures)

pub returns : goal.returns
unfolding overlaps
returns c =
    let served = c.args.served.now in
    let d = derivation_of c.parts-parts.result.now in
    let inputs = c.new.result.items in
    let sources = c.in_ok-sources.sources.items in
    let arguments = c.in_ok-builder.arguments.items in
    let environment = c.in_ok-builder.environment.items in
    let made = made_of inputs sources c.in_ok-platform.platform c.in_ok-builder.builder arguments environment in
    let is : made ≡ resolved_derivation served d =
    parts_resolve served d c.deref.result.now inputs sources c.in_ok-platform.platform c.in_ok-builder.builder arguments environment c.deref.ensures.value
    c.new.ensures.items c.in_ok-sources.ensures c.in_ok-platform.ensures.cases c.in_ok-builder.ensures.1 in
    subst (λ (x : Derivation). (overlaps served x ≡ false) × (made ≡ resolved_derivation served x)) c.parts-parts.ensures.parts
    (c.in_ok-builder.ensures.0, is)
