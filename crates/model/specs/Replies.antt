-- What users are answered, and tests of refusals and of replies.
use Rattle.std.specs.Prelude.{ℕ, Bool, true, false, ◌||◌, List}
use Rattle.model.specs.declared.refusal.Refusal.{Refusal}
use Rattle.model.specs.declared.refusal.Refusal.TheVariants.{UnknownUser, TooLarge, UnknownDerivation, UnknownGoal, WrongState, NotHeld, InUse, Memory, Clash, Stopped}
use Rattle.model.specs.Archives as archives
use Rattle.model.specs.Worlds.{Entry}
use Rattle.model.specs.Worlds as worlds

-- ---- replies

-- what a request is answered: that it is done, a path that was added, the path of a derivation's file with that of its class, a tree, the
-- entries of a closure, the number of a new goal, how far a goal is, or why nothing was done
pub data Reply : Type 0 where
  Ok : Reply
  Path : (path : List ℕ) → Reply
  Derivation : (path class : List ℕ) → Reply
  Tree : (tree : archives.Tree) → Reply
  Closure : (entries : List Entry) → Reply
  Goal : (number : ℕ) → Reply
  Status : (status : worlds.Status) → Reply
  Refused : (why : Refusal) → Reply

-- a reply and the user who gets it
pub record Answer : Type 0 where
  pub actor : List ℕ
  pub reply : Reply

-- ---- tests of refusals

abbrev pub is_memory_refusal : Refusal → Bool
is_memory_refusal Memory = true
is_memory_refusal why = false

abbrev pub is_clash_refusal : Refusal → Bool
is_clash_refusal Clash = true
is_clash_refusal why = false

abbrev pub is_stopped_refusal : Refusal → Bool
is_stopped_refusal Stopped = true
is_stopped_refusal why = false

-- whether it is none that private desks give: memory was refused, two texts have one digest, or the store is stopped
abbrev pub is_failure_refusal : Refusal → Bool
is_failure_refusal why = is_memory_refusal why || (is_clash_refusal why || is_stopped_refusal why)

-- whether no memory is needed to find it: that of a stranger, of a path that is not held, of a record that is in use, of a text that is too long, of
-- a derivation or a goal that is not there, and of a goal that is not so far, or further
abbrev pub needs_no_memory : Refusal → Bool
needs_no_memory UnknownUser = true
needs_no_memory NotHeld = true
needs_no_memory InUse = true
needs_no_memory TooLarge = true
needs_no_memory UnknownDerivation = true
needs_no_memory UnknownGoal = true
needs_no_memory WrongState = true
needs_no_memory why = false

-- ---- tests of replies

-- whether it is a refusal of a kind
abbrev pub is_refusal : (Refusal → Bool) → Reply → Bool
is_refusal kind (Refused why) = kind why
is_refusal kind reply = false

abbrev pub is_refused : Reply → Bool
is_refused (Refused why) = true
is_refused reply = false

-- whether memory was refused
abbrev pub is_memory : Reply → Bool
is_memory = is_refusal is_memory_refusal

-- whether another tree is at the path
abbrev pub is_clash : Reply → Bool
is_clash = is_refusal is_clash_refusal

abbrev pub is_failure : Reply → Bool
is_failure = is_refusal is_failure_refusal

-- whether a history has no row of it: memory was refused, or an earlier want of memory stopped the store
abbrev pub is_unrecorded : Reply → Bool
is_unrecorded = is_refusal (λ why. is_memory_refusal why || is_stopped_refusal why)

-- what a wait may be answered: that there is nothing left to wait for, that memory was refused, or that an earlier want of memory stopped the store
abbrev pub ends_wait : Reply → Bool
ends_wait Ok = true
ends_wait reply = is_unrecorded reply
