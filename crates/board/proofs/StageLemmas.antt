-- Stages.
use Rattle.std.proofs.Common.{◌≡◌, ℕ, false, refl}
use Rattle.board.specs.declared.stage.Stage.{Stage}
use Rattle.board.specs.declared.stage.Stage.TheVariants.{Woken, Looked, Ready, Working, Waits, Over}
use Rattle.board.specs.Stages.{is_filed, waits_on}

-- what waits for no topic does not wait for this
pub waits_on_none : (topic : ℕ) (stage : Stage) → is_filed stage ≡ false → waits_on topic stage ≡ false
waits_on_none topic Woken h = refl
waits_on_none topic Looked h = refl
waits_on_none topic Ready h = refl
waits_on_none topic Working h = refl
waits_on_none topic (Waits other) h = cc
waits_on_none topic Over h = refl
