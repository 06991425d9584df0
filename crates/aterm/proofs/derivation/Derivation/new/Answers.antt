use Rattle.std.proofs.Common.{rules, sym, refl}
use Rattle.model.specs.Derivations.{IsDerivation, is_derivation}
use Rattle.aterm.specs.Parts.{derivation_of}
use Rattle.aterm.proofs.Tests.{derivation_passes, fails}
use Rattle.aterm.proofs.derivation.Derivation.new.Goals as goal

pub returns-then-has_sound_environment-clause-test : goal.returns-then-has_sound_environment-clause-test
returns-then-has_sound_environment-clause-test c =
    let sound : IsDerivation (derivation_of c.args.parts) = search rules in
    sym (derivation_passes (derivation_of c.args.parts) sound)

pub returns-else-has_texts-clause-test : goal.returns-else-has_texts-clause-test
returns-else-has_texts-clause-test c =
    let unsound : IsDerivation (derivation_of c.args.parts) → ⊥ = search rules in
    fails (derivation_of c.args.parts) (is_derivation (derivation_of c.args.parts)) refl unsound
