-- What the files of a run gave: what is printed of it, and how they ended.
use Rattle.std.specs.Prelude.{◌≡◌, ◌+◌, ℕ, List, [], ◌∷◌, flat_map, take, Option, None, Some, Result, Ok, Err, slice_index_or}
use Rattle.std.specs.Io.KnownBytes.{Appends}
use Rattle.model.specs.declared.refusal.Refusal.{Refusal}
use Rattle.teams.specs.declared.sessions.SessionOutput.{SessionOutput}
use Rattle.files.specs.declared.opening.Refused.{Refused}

-- ---- what is printed

-- the texts of outputs, one after another
abbrev pub texts_of : List SessionOutput → List ℕ
texts_of outputs = flat_map (λ output. output.text.items) outputs

-- a beginning of a text was written
abbrev pub AppendsFront : Option (List ℕ) → Option (List ℕ) → List ℕ → Type 0
AppendsFront blank written text = (count : ℕ) × Appends blank written (take count text)

-- ---- how they ended

-- an end, or where that is of all lines another
abbrev pub end_or : Result (Unit {0}) Refusal → Result (Unit {0}) Refusal → Result (Unit {0}) Refusal
end_or (Ok done) other = other
end_or (Err why) other = Err why

-- the first end that is none of all lines
abbrev pub first_end : List SessionOutput → Result (Unit {0}) Refusal
first_end [] = Ok tt
first_end (output ∷ outputs) = end_or output.ended (first_end outputs)

-- no place, or where an end is of all lines one more than another
abbrev pub place_or : Result (Unit {0}) Refusal → ℕ → ℕ
place_or (Ok done) other = other + 1
place_or (Err why) other = 0

-- how many outputs stand before it
abbrev pub first_place : List SessionOutput → ℕ
first_place [] = 0
first_place (output ∷ outputs) = place_or output.ended (first_place outputs)

-- an end of files of these names: there is none, or it has the name of the file whose output has it
abbrev pub IsFirstFault : List (List ℕ) → List SessionOutput → Option Refused → Type 0
IsFirstFault names outputs None = first_end outputs ≡ Ok tt
IsFirstFault names outputs (Some refused) =
    (first_end outputs ≡ Err refused.why) × (refused.name.now ≡ slice_index_or names (first_place outputs) [])
