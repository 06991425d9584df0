use Rattle.std.proofs.Common.{◌≡◌, ◌∙◌, ap, ◌++◌, ◌+◌, ◌-◌, length, take, min, arith}
use Rattle.std.proofs.lemmas.List.{take_min}
use Rattle.model.specs.Limits.{longest_line}
use Rattle.session.proofs.LineLemmas.{held-more}
use Rattle.session.proofs.serving.hold.Goals as goal

pub returns : goal.returns
returns c = λ partial e.
    let held = c.args.held.now.items in
    let bytes = c.args.bytes.now in
    let k : c.min-fits.result ≡ min (longest_line + 1 - length held) (length bytes) = omega (arith, c.args.held.now.ok.0) in
    c.in_ok-extend_from_slice.ensures.items ∙ ap (λ k. held ++ take k bytes) k ∙ ap (λ t. held ++ t) (take_min (longest_line + 1 - length held) bytes)
    ∙ held-more (longest_line + 1) partial bytes held e
