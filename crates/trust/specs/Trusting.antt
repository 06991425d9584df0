-- Trust among users who are named by their places, and sets of places as the bits of a word.
use Rattle.std.specs.Prelude.{◌≡◌, ℕ, ◌<◌, ◌==◌, Bool, true, false, not, ◌&&◌, ◌||◌, List, slice_index, if◌then◌else◌}
use Rattle.std.specs.Int.{bit_at}
use Rattle.std.proofs.Common.{bit_or}
use Rattle.model.specs.Limits.{most_users}

-- whether the bit of a place is set
abbrev pub holds : ℕ → ℕ → Bool
holds word place = bit_at word place == 1

-- whether the user at a place trusts the one at another: each has a word, whose bits are those whom he trusts
abbrev pub trusts : List ℕ → ℕ → ℕ → Bool
trusts rows u v = holds (slice_index rows u) v

-- trust with one pair more
abbrev pub with_pair : ℕ → ℕ → (ℕ → ℕ → Bool) → ℕ → ℕ → Bool
with_pair user other trust u v = (u == user && v == other) || trust u v

-- and without one pair
abbrev pub without_pair : ℕ → ℕ → (ℕ → ℕ → Bool) → ℕ → ℕ → Bool
without_pair user other trust u v = not (u == user && v == other) && trust u v

-- and with what is said of one pair
abbrev pub with_said : ℕ → ℕ → (said : Bool) → (ℕ → ℕ → Bool) → ℕ → ℕ → Bool
with_said user other true trust = with_pair user other trust
with_said user other false trust = without_pair user other trust

-- whether a set has, with each user, all whom he trusts
abbrev pub IsClosed : (ℕ → ℕ → Bool) → (ℕ → Bool) → Type 0
IsClosed trust set = (u v : ℕ) → set u ≡ true → trust u v ≡ true → set v ≡ true

-- the least set that holds the users of another and, with each user, all whom he trusts
pub record IsReachOf (trust : ℕ → ℕ → Bool) (users : ℕ → Bool) (set : ℕ → Bool) : Type 0 where
  pub own : (u : ℕ) → users u ≡ true → set u ≡ true
  pub closed : IsClosed trust set
  pub least : (other : ℕ → Bool) → ((u : ℕ) → users u ≡ true → other u ≡ true) → IsClosed trust other → (v : ℕ) → set v ≡ true → other v ≡ true

-- the least set that holds a user and, with each user, all whom he trusts
pub record IsReach (trust : ℕ → ℕ → Bool) (user : ℕ) (set : ℕ → Bool) : Type 0 where
  pub own : set user ≡ true
  pub closed : IsClosed trust set
  pub least : (other : ℕ → Bool) → other user ≡ true → IsClosed trust other → (v : ℕ) → set v ≡ true → other v ≡ true

-- of 64 users each reaches those of his word
abbrev pub AreReached : List ℕ → List ℕ → Type 0
AreReached rows reached = (user : ℕ) → user < most_users → IsReach (trusts rows) user (holds (slice_index reached user))

-- whom somebody reaches who reached these, once a user trusts one more, who reaches more
abbrev pub reached_with : ℕ → ℕ → ℕ → ℕ
reached_with reached user more = if holds reached user then bit_or reached more else reached
