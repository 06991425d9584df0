use Rattle.std.proofs.Common.{◌≡◌, drop}
use Rattle.std.specs.Prelude.{map}
use Rattle.model.specs.Classes.{is_one_of}
use Rattle.endings.proofs.delta.has_path.Given as goal

abbrev pub invariant-loop-record : goal.invariant-loop-record
invariant-loop-record l = is_one_of (map (λ r. r.path) (drop l.record-index l.records)) l.path ≡ is_one_of (map (λ r. r.path) l.records) l.path
