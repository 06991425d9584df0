-- Reading the file of inputs, one input after another.
use Rattle.std.proofs.Common.{◌≡◌, ℕ, ◌<◌, ◌^◌, List, [], ◌∷◌, ◌++◌, length, refl, sym, ap, ◌∙◌, arith, append_assoc, append-nil, length-append, flat_map}
use Rattle.std.specs.Prelude.{Option, Some, None, unwrap_or}
use Rattle.std.proofs.lemmas.Grind.{flat_map-append}
use Rattle.model.specs.Archives.{archive_string}
use Rattle.model.specs.ArchiveReading.{string_at}
use Rattle.model.specs.Inputs.{Input, input_text, inputs_text}
use Rattle.nar.proofs.ArchiveCompleteness.{string_at-front, length-archive_string}
use Rattle.nb.specs.Outcomes.{path_line, AreInputs, AreNone}

-- what was read of a file of inputs, and what is left of it
pub record ReadsInputs (bytes paths rest : List ℕ) : Type 0 where
  pub inputs : List Input
  pub whole : inputs_text inputs ++ rest ≡ bytes
  pub lines : paths ≡ flat_map path_line inputs
  -- where all of it is a file of inputs, so is what is left
  pub left : (all : List Input) → AreInputs bytes all → (others : List Input) × AreInputs rest others

pub nothing_read : (bytes : List ℕ) → ReadsInputs bytes [] bytes
nothing_read bytes = record { inputs = []; whole = refl; lines = refl; left = λ all h. (all, h) }

-- a text that begins with a string has no bytes less than it
short : (string rest whole : List ℕ) → length whole < 2 ^ 64 → archive_string string ++ rest ≡ whole → length string < 2 ^ 64
short string rest whole h e =
    omega (arith, h, ap (λ (s : List ℕ). length s) e, length-append (archive_string string) rest, length-archive_string string)

-- a text that begins with a string is longer than what follows
pub shorter : (string rest whole : List ℕ) → archive_string string ++ rest ≡ whole → length rest < length whole
shorter string rest whole e =
    omega (arith, ap (λ (s : List ℕ). length s) e, length-append (archive_string string) rest, length-archive_string string)

-- what is read in front is the string in front
front_read : (string rest whole : List ℕ) (read : List ℕ × List ℕ) → length whole < 2 ^ 64 → archive_string string ++ rest ≡ whole
    → string_at whole ≡ Some read → rest ≡ read.1
front_read string rest whole read h e k =
    ap (λ (o : Option (List ℕ × List ℕ)). (unwrap_or o ([], [])).1) (sym (string_at-front string rest (short string rest whole h e)) ∙ ap string_at e ∙ k)

front_not_read : {P : Type 0} (string rest whole : List ℕ) → length whole < 2 ^ 64 → archive_string string ++ rest ≡ whole → string_at whole ≡ None → P
front_not_read string rest whole h e k =
    let some = sym (string_at-front string rest (short string rest whole h e)) ∙ ap string_at e ∙ k in cc some

-- the texts of an input and of those behind it
grouped : (i : Input) (is : List Input) → archive_string i.path ++ (archive_string i.archive ++ inputs_text is) ≡ inputs_text (i ∷ is)
grouped i is = sym (append_assoc (archive_string i.path) (archive_string i.archive) (inputs_text is))

-- what is left is no longer than all of it
left_small : (bytes paths rest : List ℕ) → length bytes < 2 ^ 64 → ReadsInputs bytes paths rest → length rest < 2 ^ 64
left_small bytes paths rest small h =
    omega (arith, small, ap (λ (s : List ℕ). length s) h.whole, length-append (inputs_text h.inputs) rest)

-- one input more
pub input_read : (bytes paths rest path behind archive after : List ℕ) → length bytes < 2 ^ 64 → 0 < length rest → ReadsInputs bytes paths rest
    → archive_string path ++ behind ≡ rest → string_at rest ≡ Some (path, behind)
    → archive_string archive ++ after ≡ behind → string_at behind ≡ Some (archive, after)
    → ReadsInputs bytes ((paths ++ path) ++ 10 ∷ []) after
input_read bytes paths rest path behind archive after small_bytes some so_far first read second again = record {
  inputs = so_far.inputs ++ input ∷ [];
  whole =
      ap (λ s. s ++ after) (flat_map-append input_text so_far.inputs (input ∷ []))
      ∙ append_assoc (inputs_text so_far.inputs) (inputs_text (input ∷ [])) after
      ∙ ap (λ s. inputs_text so_far.inputs ++ s) (ap (λ s. s ++ after) (append-nil (input_text input)) ∙ append_assoc (archive_string path) (archive_string archive) after ∙ ap (λ s. archive_string path ++ s) second ∙ first)
      ∙ so_far.whole;
  lines =
      append_assoc paths path (10 ∷ [])
      ∙ ap (λ s. s ++ (path ++ 10 ∷ [])) so_far.lines
      ∙ ap (λ s. flat_map path_line so_far.inputs ++ s) (sym (append-nil (path ++ 10 ∷ [])))
      ∙ sym (flat_map-append path_line so_far.inputs (input ∷ []));
  left = λ all h. let l = so_far.left all h in behind_it l.0 l.1;
}
  where
    small : length rest < 2 ^ 64
    small = left_small bytes paths rest small_bytes so_far

    input : Input
    input = record { path = path; archive = archive }

    behind_it : (others : List Input) → AreInputs rest others → (more : List Input) × AreInputs after more
    behind_it [] e = absurd (omega (arith, some, ap (λ (s : List ℕ). length s) e))
    behind_it (i ∷ is) e =
        let one = front_read i.path _ rest (path, behind) small (grouped i is ∙ e) read in
        let small_behind : length behind < 2 ^ 64 = omega (arith, small, shorter path behind rest first) in
        (is, front_read i.archive (inputs_text is) behind (archive, after) small_behind one again)

-- all was read
pub all_read : (bytes paths rest : List ℕ) → ReadsInputs bytes paths rest → length rest ≡ 0
    → (inputs : List Input) × AreInputs bytes inputs × (paths ≡ flat_map path_line inputs)
all_read bytes paths [] h e = (h.inputs, sym (append-nil (inputs_text h.inputs)) ∙ h.whole, h.lines)
all_read bytes paths (b ∷ rest) h e = absurd (omega (arith, e))

-- no string of a path is in front
pub no_path : (bytes paths rest : List ℕ) → length bytes < 2 ^ 64 → 0 < length rest → ReadsInputs bytes paths rest → string_at rest ≡ None → AreNone bytes
no_path bytes paths rest small_bytes some h none all e = let l = h.left all e in go l.0 l.1
  where
    small : length rest < 2 ^ 64
    small = left_small bytes paths rest small_bytes h

    go : (others : List Input) → AreInputs rest others → ⊥
    go [] e = absurd (omega (arith, some, ap (λ (s : List ℕ). length s) e))
    go (i ∷ is) e = front_not_read i.path _ rest small (grouped i is ∙ e) none

-- no string of an archive follows
pub no_archive : (bytes paths rest path behind : List ℕ) → length bytes < 2 ^ 64 → 0 < length rest → ReadsInputs bytes paths rest
    → archive_string path ++ behind ≡ rest → string_at rest ≡ Some (path, behind) → string_at behind ≡ None → AreNone bytes
no_archive bytes paths rest path behind small_bytes some h first read none all e = let l = h.left all e in go l.0 l.1
  where
    small : length rest < 2 ^ 64
    small = left_small bytes paths rest small_bytes h

    go : (others : List Input) → AreInputs rest others → ⊥
    go [] e = absurd (omega (arith, some, ap (λ (s : List ℕ). length s) e))
    go (i ∷ is) e =
        let one = front_read i.path _ rest (path, behind) small (grouped i is ∙ e) read in
        let small_behind : length behind < 2 ^ 64 = omega (arith, small, shorter path behind rest first) in
        front_not_read i.archive (inputs_text is) behind small_behind one none
