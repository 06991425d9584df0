-- How often a reader or a writer failed.
use Rattle.std.specs.Prelude.{◌≡◌, ◌≢◌, ℕ, ◌+◌, ◌-◌, ◌^◌, min, Result, OnOk, IfErr}
use Rattle.std.specs.declared.io.Error.{Error}
use Rattle.std.specs.declared.io.ErrorKind.TheVariants.{Interrupted}
use Rattle.std.specs.IoError.{error_kind}

-- the count after a call that ended so: one more where it failed, but for an interruption; at the greatest number it stays there
pub record Counts {X : Type 0} (before : ℕ) (ended : Result X Error) (after : ℕ) : Type 0 where
  pub ok : OnOk ended (after ≡ before)
  pub interrupted : IfErr ended (λ e. error_kind e ≡ Interrupted → after ≡ before)
  pub failed : IfErr ended (λ e. error_kind e ≢ Interrupted → after ≡ min (before + 1) (2 ^ 64 - 1))
