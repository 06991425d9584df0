-- The code by which proofs tell running jobs apart.
use Rattle.std.specs.Prelude.{refl}
use Rattle.std.specs.Coded.{Coded, code_by, coded×}
use Rattle.model.specs.Worlds.{Job, Resolved}
use Rattle.model.specs.Goals.{Running}
use Rattle.records.specs.Codes.{resolved_code}
use Rattle.events.specs.Codes.{job_code}

abbrev pub running_code : Coded Running
running_code = code_by (Job × Resolved) (coded× job_code resolved_code) (λ r. (r.job, r.resolved)) (λ p. record { job = p.0; resolved = p.1 }) (λ _. refl)
