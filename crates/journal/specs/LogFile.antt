-- What the calls of a log file do, and what a crash may do between two syncs.
use Rattle.std.specs.Prelude.{◌<◌, ◌≡◌, ◌⊎◌, ℕ, ◌+◌, ◌-◌, ◌^◌, ◌≤◌, max, List, ◌++◌, length, take, drop, Result, IsErrOf}
use Rattle.journal.specs.declared.log_file.LogError.{LogError}
use Rattle.journal.specs.declared.log_file.LogError.TheVariants.{Failed, Full}

-- ---- one call

-- new is old with these bytes at this place
abbrev pub Holds : List ℕ → ℕ → List ℕ → List ℕ → Type 0
Holds old at bytes new = new ≡ take at old ++ bytes ++ drop (at + length bytes) old

-- what a crash may make of old while n bytes are written at a place: any bytes there and past the old end, the same elsewhere
pub record Torn (at n : ℕ) (old new : List ℕ) : Type 0 where
  pub before : take at new ≡ take at old
  pub after : drop (at + n) new ≡ drop (at + n) old
  pub no_shorter : length old ≤ length new
  pub no_longer : length new ≤ max (length old) (at + n)

-- what a crash may make of old while it is cut to n bytes: some length between
pub record Cut (n : ℕ) (old new : List ℕ) : Type 0 where
  pub no_shorter : n ≤ length new
  pub front : take (length new) old ≡ new

-- ---- what a crash may leave

-- each new outcome of a crash is an old outcome after a step
abbrev pub Follows : (List ℕ → List ℕ → Type 0) → (List ℕ → Type 0) → (List ℕ → Type 0) → Type 0
Follows step old new = (c : List ℕ) → new c → (d : List ℕ) × old d × step d c

-- each new outcome of a crash was one before
abbrev pub NoMore : (List ℕ → Type 0) → (List ℕ → Type 0) → Type 0
NoMore old new = (c : List ℕ) → new c → old c

-- a crash leaves this and nothing else
abbrev pub Only : List ℕ → (List ℕ → Type 0) → Type 0
Only file outcomes = (c : List ℕ) → outcomes c → c ≡ file

-- ---- moments

-- time goes on from old to new: a crash since t might have left what it might have left before, or what it may leave now
pub record Elapses {D : Type 0} (moment : D → ℕ) (left_since : D → ℕ → List ℕ → Type 0) (may_leave : D → List ℕ → Type 0) (old new : D) : Type 0 where
  pub later : moment old ≤ moment new
  pub nothing_else : (t : ℕ) (c : List ℕ) → t ≤ moment old → left_since new t c → left_since old t c ⊎ may_leave new c
  pub keeps : (t : ℕ) (c : List ℕ) → t ≤ moment old → left_since old t c → left_since new t c

-- a crash at any moment from old to new leaves a file that has P
pub record LeavesOnly {D : Type 0} (moment : D → ℕ) (left_since : D → ℕ → List ℕ → Type 0) (old new : D) (P : List ℕ → Type 0) : Type 0 where
  pub later : moment old ≤ moment new
  pub each : (c : List ℕ) → left_since new (moment old) c → P c
  -- for a run that began earlier
  pub before : (t : ℕ) (c : List ℕ) → t ≤ moment old → left_since new t c → left_since old t c ⊎ P c

-- the file was read from old to new, and nothing of it was changed
pub record IsOnlyRead {D : Type 0} (seen : D → List ℕ) (may_leave : D → List ℕ → Type 0) (moment : D → ℕ) (left_since : D → ℕ → List ℕ → Type 0)
    (old new : D) : Type 0 where
  pub same : seen new ≡ seen old
  pub crash : NoMore (may_leave old) (may_leave new)
  pub moments : LeavesOnly moment left_since old new (may_leave old)

-- ---- failures

-- the count of failures has grown, or is the greatest number, where it stays
abbrev pub HasFailed : ℕ → ℕ → Type 0
HasFailed before now = (before < now) ⊎ (now ≡ 2 ^ 64 - 1)

-- `Failed` is told only where the file has failed by its count, and `Full` is not told
pub record HasCause {T : Type 0} (before now : ℕ) (result : Result T LogError) : Type 0 where
  pub later : before ≤ now
  pub failed : IsErrOf result Failed → HasFailed before now
  pub not_full : IsErrOf result Full → ⊥
