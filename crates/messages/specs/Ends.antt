-- How the run of a file ends: its exit status, and what is said of it.
use Rattle.std.specs.Prelude.{ℕ, List, Option, Some, None, Result, Ok, Err}
use Rattle.std.specs.Borrow.{Bor}
use Rattle.model.specs.declared.refusal.Refusal.{Refusal}
use Rattle.model.specs.declared.refusal.Refusal.TheVariants.{BadUsers, UnknownUser, InputFault, OutputFault}
use Rattle.messages.specs.declared.fault.Fault.{Fault}
use Rattle.messages.specs.declared.fault.Fault.TheVariants.{CannotRead, CannotWrite, OutOfMemory}
use Rattle.messages.specs.declared.fault.Fault.TheVariants as faults

-- the exit status of a run that ended so
abbrev pub status_of_end : Result (Unit {0}) Refusal → ℕ
status_of_end (Ok _) = 0
status_of_end (Err BadUsers) = 5
status_of_end (Err UnknownUser) = 2
status_of_end (Err InputFault) = 3
status_of_end (Err OutputFault) = 3
status_of_end (Err _) = 4

-- what is said on standard error of a run of that file that ended so
abbrev pub fault_of_end : Result (Unit {0}) Refusal → Bor (List ℕ) → Option Fault
fault_of_end (Ok _) file = None
fault_of_end (Err BadUsers) file = None
fault_of_end (Err UnknownUser) file = Some faults.UnknownUser
fault_of_end (Err InputFault) file = Some (CannotRead file)
fault_of_end (Err OutputFault) file = Some CannotWrite
fault_of_end (Err _) file = Some OutOfMemory
