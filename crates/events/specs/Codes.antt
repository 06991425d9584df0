-- The code by which proofs tell jobs apart.
use Rattle.std.specs.Prelude.{ℕ, List, refl}
use Rattle.std.specs.Coded.{Coded, code_by, coded×, coded_ℕ, coded_list}
use Rattle.model.specs.Worlds.{Job}

abbrev pub job_code : Coded Job
job_code = code_by (List ℕ × ℕ) (coded× (coded_list coded_ℕ) coded_ℕ) (λ j. (j.leader, j.number)) (λ p. record { leader = p.0; number = p.1 }) (λ _. refl)
