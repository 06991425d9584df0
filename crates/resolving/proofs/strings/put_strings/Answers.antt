use Rattle.std.proofs.lemmas.Result.{err_from_is_err_and}
use Rattle.aterm.specs.Parts.{derivation_of}
use Rattle.resolving.proofs.ResolvingLemmas.{builder_overlaps, arguments_overlap, variables_overlap, none_overlap, strings_put}
use Rattle.resolving.proofs.strings.put_strings.Goals as goal

pub returns-in_err-builder : goal.returns-in_err-builder
returns-in_err-builder c =
    let p = err_from_is_err_and c.from_residual.result c.from_residual.ensures.1 in
    rw (p.1, p.2) (builder_overlaps c.args.replacer.now (derivation_of c.args.parts.now) c.in_err-builder.field-0.0 c.in_err-builder.ensures)

pub returns-in_err-arguments : goal.returns-in_err-arguments
returns-in_err-arguments c =
    let p = err_from_is_err_and c.from_residual-in_err-arguments.result c.from_residual-in_err-arguments.ensures.1 in
    rw (p.1, p.2) (arguments_overlap c.args.replacer.now (derivation_of c.args.parts.now) c.deref.result.now c.in_err-arguments.field-0.0
    c.deref.ensures.value c.in_err-arguments.ensures)

pub returns-in_err-environment : goal.returns-in_err-environment
returns-in_err-environment c =
    let p = err_from_is_err_and c.from_residual-in_err-environment.result c.from_residual-in_err-environment.ensures.1 in
    rw (p.1, p.2) (variables_overlap c.args.replacer.now (derivation_of c.args.parts.now) c.deref-2.result.now c.in_err-environment.field-0.0
    c.deref-2.ensures.value c.in_err-environment.ensures)

pub returns : goal.returns
returns c =
    let images = c.args.replacer.now in
    let d = derivation_of c.args.parts.now in (
      none_overlap images d c.deref.result.now c.deref-2.result.now c.deref.ensures.value c.deref-2.ensures.value c.in_ok-builder.ensures.0
          c.in_ok-arguments.ensures.0 c.in_ok-environment.ensures.0,
      strings_put images d c.deref.result.now c.deref-2.result.now c.in_ok-builder.builder c.in_ok-arguments.arguments.items
          c.in_ok-environment.environment.items c.deref.ensures.value c.deref-2.ensures.value c.in_ok-builder.ensures.1 c.in_ok-arguments.ensures.1
          c.in_ok-environment.ensures.1,
    )
