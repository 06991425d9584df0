-- The laws that talks keep.
use Rattle.std.specs.Prelude.{◌≡◌, ℕ, List, []}
use Rattle.model.specs.declared.mode.Mode.TheVariants.{Service}
use Rattle.model.specs.Talk.{LineRow, fresh, Talks, awaited_in}

-- no line of the service waits
abbrev pub ServiceNeverWaits : Type 0
ServiceNeverWaits = (lines : List (List ℕ)) (rows : List LineRow) → Talks (fresh Service) lines rows → awaited_in rows ≡ []
