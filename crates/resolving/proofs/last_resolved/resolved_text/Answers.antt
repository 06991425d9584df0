use Rattle.std.proofs.lemmas.Result.{err_from_is_err_and}
use Rattle.aterm.specs.Parts.{derivation_of}
use Rattle.resolving.proofs.ResolvingLemmas.{text_refused, text_printed}
use Rattle.resolving.proofs.last_resolved.resolved_text.Goals as goal

pub returns-in_err-parts : goal.returns-in_err-parts
returns-in_err-parts c =
    let p = err_from_is_err_and c.from_residual.result c.from_residual.ensures.1 in
    rw (p.1, p.2) (text_refused c.args.served.now c.args.derivation.now c.in_err-parts.field-0.0 c.in_err-parts.ensures)

pub returns : goal.returns
returns c =
    text_printed c.args.served.now c.args.derivation.now (derivation_of c.in_ok-parts.parts) c.print_parts.result c.in_ok-parts.ensures.0
    c.in_ok-parts.ensures.1 c.print_parts.ensures
