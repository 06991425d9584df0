-- Texts of lines, of which some are comments: those that begin with `#`.
use Rattle.std.specs.Prelude.{◌≡◌, ◌≢◌, ℕ, ◌==◌, Bool, true, false, not, if◌then◌else◌, List, [], ◌∷◌, ◌++◌, All, Option, None, Some}

-- where a byte of a text stands: at the start of a line, further in one, or further in a comment
pub data Place : Type 0 where
  LineStart : Place
  InLine : Place
  InComment : Place

-- where the next byte stands behind one that stands at a place; 10 is a newline, and 35 is `#`
abbrev pub place_behind : Place → ℕ → Place
place_behind LineStart byte = if byte == 10 then LineStart else (if byte == 35 then InComment else InLine)
place_behind InLine byte = if byte == 10 then LineStart else InLine
place_behind InComment byte = if byte == 10 then LineStart else InComment

-- where it stands behind some bytes, the first of which stands at a place
abbrev pub place_after : Place → List ℕ → Place
place_after place [] = place
place_after place (byte ∷ bytes) = place_after (place_behind place byte) bytes

-- whether a byte that stands at a place is of a comment
abbrev pub is_of_comment : Place → ℕ → Bool
is_of_comment LineStart byte = byte == 35
is_of_comment InLine byte = false
is_of_comment InComment byte = true

-- the bytes, the first of which stands at a place, that are of no comment
abbrev pub without_comments : Place → List ℕ → List ℕ
without_comments place [] = []
without_comments place (byte ∷ bytes) =
    if is_of_comment place byte then without_comments (place_behind place byte) bytes else byte ∷ without_comments (place_behind place byte) bytes

-- whether a line is begun that is no comment, or a line is to begin, as is said
abbrev pub ends_so : (is_begun : Bool) → Place → Bool
ends_so false LineStart = true
ends_so true InLine = true
ends_so is_begun place = false

-- what a text has that is of no comment, where the text is known, and ends in no comment, and within a line or not as is said
abbrev pub known_without_comments : (is_begun : Bool) → Option (List ℕ) → Option (List ℕ)
known_without_comments is_begun None = None
known_without_comments is_begun (Some bytes) =
    if ends_so is_begun (place_after LineStart bytes) then Some (without_comments LineStart bytes) else None

-- whether a line is begun behind some bytes, where one was begun before them or not
abbrev pub is_begun_after : Bool → List ℕ → Bool
is_begun_after is_begun [] = is_begun
is_begun_after is_begun (byte ∷ bytes) = is_begun_after (not (byte == 10)) bytes

-- whether some bytes of a line begin a comment, where it is begun before them or not
abbrev pub begins_comment : Bool → List ℕ → Bool
begins_comment true bytes = false
begins_comment false [] = false
begins_comment false (byte ∷ bytes) = byte == 35

-- a line that begins with `# `
pub record IsComment (bytes : List ℕ) : Type 0 where
  pub text : List ℕ
  pub is : bytes ≡ 35 ∷ 32 ∷ text ++ 10 ∷ []
  pub inside : All (λ byte. byte ≢ 10) text
