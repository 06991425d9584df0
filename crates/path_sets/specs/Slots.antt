-- Slots of windows, and which are marked.
use Rattle.std.specs.Prelude.{ℕ, ◌+◌, ◌-◌, ◌*◌, ◌/◌, ◌%◌, ◌^◌, nat_eq, ◌||◌, Bool, List, length, take, drop, slice_index_or, bit_and}
use Rattle.std.specs.Int.{w64, from_le_bytes, bit_at}

-- eight bytes of a window as a number
abbrev pub word_at : ℕ → List ℕ → ℕ
word_at at window = from_le_bytes w64 (take 8 (drop at window))

-- the slot of a window where there are so many words: the highest 16 of the 64 bits into which an odd number mixes
-- its first and last eight bytes, of which as many count as there are slots for
unfoldable pub slot_of : ℕ → List ℕ → ℕ
slot_of count window =
    let mixed = (word_at 0 window * 11400714819323198485 % 2 ^ 64 + word_at 24 window) % 2 ^ 64 in
    bit_and (mixed * 11400714819323198485 % 2 ^ 64 / 2 ^ 48) (count * 64 - 1)

-- whether the bit of a slot is set
unfoldable pub is_set : List ℕ → ℕ → Bool
is_set words slot = nat_eq (bit_at (slice_index_or words (slot / 64) 0) (slot % 64)) 1

-- whether the slot of a window is marked
abbrev pub is_marked : List ℕ → List ℕ → Bool
is_marked words window = is_set words (slot_of (length words) window)

-- the same once the slot of a hash part is marked too
abbrev pub with_mark : List ℕ → List ℕ → List ℕ → Bool
with_mark part words window = nat_eq (slot_of (length words) part) (slot_of (length words) window) || is_marked words window
