-- What runners give.
use Rattle.std.specs.Prelude.{◌≡◌, ◌⊎◌, ◌<◌, ◌-◌, ◌^◌, ℕ, List, Result, Ok, Err}
use Rattle.std.specs.Global.{Vec}
use Rattle.builder.specs.declared.runner.RunFault.{RunFault}

-- the bytes that were written, or why there are none
abbrev pub bytes_of : Result (Vec ℕ) RunFault → Result (List ℕ) RunFault
bytes_of (Ok bytes) = Ok bytes.items
bytes_of (Err fault) = Err fault

-- a count of failures rose, or stands at its greatest number
abbrev pub HasFailed : ℕ → ℕ → Type 0
HasFailed old new = (old < new) ⊎ (new ≡ 2 ^ 64 - 1)
