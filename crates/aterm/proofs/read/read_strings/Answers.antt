use Rattle.std.proofs.Common.{rules, ◌≡◌, codes, true, false, refl}
use Rattle.std.specs.Prelude.{bytes_eq}
use Rattle.model.specs.DerivationTexts.{derivation_at}
use Rattle.aterm.proofs.read.read_strings.Goals as goal

pub returns-then-ne : goal.returns-then-ne
unfolding derivation_at
returns-then-ne c =
    let other : bytes_eq c.in_ok-environment.rest.now (codes ")") ≡ false = search rules in
    rw (c.in_ok-inputs.ensures, c.in_ok-sources.ensures, c.in_ok-platform.ensures, c.in_ok-builder.ensures, c.in_ok-arguments.ensures, c.in_ok-environment.ensures, other) refl

pub returns : goal.returns
unfolding derivation_at
returns c =
    let same : bytes_eq c.in_ok-environment.rest.now (codes ")") ≡ true = search rules in
    rw (c.in_ok-inputs.ensures, c.in_ok-sources.ensures, c.in_ok-platform.ensures, c.in_ok-builder.ensures, c.in_ok-arguments.ensures, c.in_ok-environment.ensures, same) refl
