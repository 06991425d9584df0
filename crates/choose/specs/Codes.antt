-- The code by which proofs tell what is visible apart.
use Rattle.std.specs.Prelude.{List, refl}
use Rattle.std.specs.Coded.{Coded, code_by, coded×, coded_list}
use Rattle.model.specs.Worlds.{Source, Record}
use Rattle.records.specs.Codes.{source_code, record_code}
use Rattle.choose.specs.Visible.{Visible}

abbrev pub visible_code : Coded Visible
visible_code = code_by (List Record × List Source) (coded× (coded_list record_code) (coded_list source_code)) (λ v. (v.records, v.sources))
    (λ p. record { records = p.0; sources = p.1 }) (λ _. refl)
