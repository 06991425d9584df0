use Rattle.std.specs.Prelude.{Err}
use Rattle.model.specs.declared.refusal.Refusal.TheVariants.{BadDerivation}
use Rattle.aterm.proofs.Refusing.{made_or_refused, made_only}
use Rattle.aterm.proofs.Exact.{given_from_read}
use Rattle.aterm.specs.Parts.{derivation_of}
use Rattle.aterm.proofs.read.parse.Goals as goal

pub returns-in-Ok-clause-read : goal.returns-in-Ok-clause-read
returns-in-Ok-clause-read c = made_or_refused c.args.text.now (derivation_of c.in-Ok.parts) c.new.result c.in-Ok.ensures c.new.ensures.derivation

pub returns-in-Ok-clause-only : goal.returns-in-Ok-clause-only
returns-in-Ok-clause-only c = made_only c.args.text.now (derivation_of c.in-Ok.parts) c.new.result c.in-Ok.ensures c.new.ensures.derivation

pub returns-in-Ok-clause-same : goal.returns-in-Ok-clause-same
returns-in-Ok-clause-same c = given_from_read c.args.text.now _ (returns-in-Ok-clause-read c)

pub returns-in-Err-Malformed-clause-same : goal.returns-in-Err-Malformed-clause-same
returns-in-Err-Malformed-clause-same c =
    given_from_read c.args.text.now (Err BadDerivation) (rw c.in-Err-Malformed.field-0-is at c.in-Err-Malformed.ensures)
