use Rattle.std.proofs.Common.{◌≡◌, Result, Ok, Err}
use Rattle.std.specs.Prelude.{IfOk}
use Rattle.model.specs.declared.refusal.Refusal.{Refusal}
use Rattle.model.specs.declared.refusal.RewriteFault.{RewriteFault}
use Rattle.model.specs.Settling.{Settled}
use Rattle.model.specs.Results.{unless_rewrite_refused}
use Rattle.handlers.proofs.offers.output_of.Goals as goal

-- a settled tree that is given is what settling came to
if_settled : (came : Result Settled RewriteFault) (outcome : Result Settled Refusal) → outcome ≡ unless_rewrite_refused came → IfOk outcome (λ s. came ≡ Ok s)
if_settled (Ok s) (Ok o) is = cc
if_settled (Err why) (Ok o) is = cc
if_settled (Ok s) (Err why) is = tt
if_settled (Err fault) (Err why) is = tt

pub returns-clause-settled : goal.returns-clause-settled
returns-clause-settled c = if_settled _ _ c.in_ok-settled_output.ensures.outcome
