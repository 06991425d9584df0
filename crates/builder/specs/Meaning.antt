-- What a process that has ended means for the job that it builds.
use Rattle.std.specs.Prelude.{◌≡◌, ◌≢◌, ℕ, zero, suc, ◌+◌, ◌-◌, ◌^◌, min, ℤ, pos, negsuc, Bool, true, false, List, Option, Some, None, Result, Ok, Err, MatchResult}
use Rattle.std.specs.Global.{Vec}
use Rattle.std.specs.IoError.{error_kind}
use Rattle.std.specs.Process.{exit_code}
use Rattle.std.specs.declared.io.Error.{Error}
use Rattle.std.specs.declared.io.ErrorKind.TheVariants.{NotFound}
use Rattle.std.specs.declared.process.status.ExitStatus.{ExitStatus}
use Rattle.std.specs.Int.NonZero.{non_zero_u8_get}
use Rattle.builder.specs.declared.runner.RunFault.{RunFault}
use Rattle.builder.specs.declared.runner.RunFault.TheVariants as run
use Rattle.builder.specs.declared.fault.Fault.{Fault}
use Rattle.builder.specs.declared.fault.Fault.TheVariants.{Status, Killed, EndNotLearnt, Memory}

-- ---- faults

-- what a fault is for the job: each one but an exit status and want of memory is of a device
abbrev pub run_fault_of : Fault → RunFault
run_fault_of (Status status) = run.Status status
run_fault_of Memory = run.Memory
run_fault_of fault = run.Device

-- why a build gave no output, if it gave none
abbrev pub fault_in : Result (List ℕ) Fault → Option Fault
fault_in (Ok output) = None
fault_in (Err fault) = Some fault

-- what a runner tells of a build
abbrev pub told : Result (List ℕ) Fault → Result (List ℕ) RunFault
told (Ok output) = Ok output
told (Err fault) = Err (run_fault_of fault)

-- a count of failures: one more where a device failed, as far as the number goes
abbrev pub counted : {X : Type 0} → ℕ → Result X RunFault → ℕ
counted failures (Err run.Device) = min (failures + 1) (2 ^ 64 - 1)
counted failures (Err run.Memory) = failures
counted failures (Err (run.Status status)) = failures
counted failures (Ok output) = failures

-- ---- ends

-- nothing has a name of which removing it gave this: it is removed, or there was nothing
abbrev pub IsGone : Result (Unit {0}) Error → Bool → Type 0
IsGone removed gone = MatchResult removed (λ _. gone ≡ true)
    (λ e. (error_kind e ≡ NotFound → gone ≡ true) × (error_kind e ≢ NotFound → gone ≡ false))

-- the bytes that were read, or why they were not
abbrev pub output_of : {E : Type 0} → Result (Vec ℕ) E → Result (List ℕ) E
output_of (Ok output) = Ok output.items
output_of (Err e) = Err e

-- there is no output, for this exit status
abbrev pub HasStatus : ℕ → Result (List ℕ) Fault → Type 0
HasStatus n (Err (Status status)) = non_zero_u8_get status ≡ n
HasStatus n given = ⊥

-- the exit status 0 is success; where there is none, the process was ended by something else
abbrev pub MeansStatus : List ℕ → ExitStatus → Option ℤ → Result (List ℕ) Fault → Type 0
MeansStatus output ended None given = given ≡ Err (Killed ended)
MeansStatus output ended (Some (pos zero)) given = given ≡ Ok output
MeansStatus output ended (Some (pos (suc n))) given = HasStatus (suc n) given
MeansStatus output ended (Some (negsuc n)) given = ⊥

-- what reading gave decides before what waiting gave
abbrev pub Means : Result (List ℕ) Fault → Result ExitStatus Error → Result (List ℕ) Fault → Type 0
Means (Err unread) ended given = given ≡ Err unread
Means (Ok output) (Err lost) given = given ≡ Err EndNotLearnt
Means (Ok output) (Ok ended) given = MeansStatus output ended (exit_code ended) given
