-- The header of a history, and the seals of its groups.
use Rattle.std.specs.Prelude.{◌≡◌, ◌==◌, ℕ, Bool, true, false, IsTrue, List, [], ◌∷◌, ◌++◌, length, codes}
use Rattle.std.specs.List.{list_any}
use Rattle.hex.specs.Hex.{encode_lower, IsBytes}
use Rattle.sha2.specs.Sha256.{sha256}
use Rattle.journal.specs.Rows.{IsPlain, rows_text}

-- ---- the rows that are no events

-- the first row: the version of the format, and the settings with which the rows are to be read
abbrev pub header_row : List ℕ → List ℕ
header_row settings = codes "#intstore history 1 " ++ settings

-- the row behind a group: two digests in base 16
abbrev pub seal_of : List ℕ → List ℕ → List ℕ
seal_of before replies = codes "#sha256 " ++ encode_lower before ++ 32 ∷ encode_lower replies

-- the seal of a group: the SHA-256 digest of the text of all rows in front of it, and that of the replies to the rows of the group
abbrev pub seal_row : List ℕ → List ℕ → List ℕ
seal_row text replies = seal_of (sha256 text) replies

-- 32 bytes
pub record IsDigest (digest : List ℕ) : Type 0 where
  pub size : length digest ≡ 32
  pub bytes : IsBytes digest

-- ---- the rows of events

-- a comment of the line format
abbrev pub is_comment : List ℕ → Bool
is_comment [] = false
is_comment (b ∷ line) = b == 35

-- a line that is no comment
pub record IsEvent (row : List ℕ) : Type 0 where
  pub plain : IsPlain row
  pub said : is_comment row ≡ false

-- none of some rows is a comment
abbrev pub AreEvents : List (List ℕ) → Type 0
AreEvents rows = list_any is_comment rows ≡ false

-- the rows of a group that is added behind others: its events, and their seal
abbrev pub sealed : List (List ℕ) → List (List ℕ) → List ℕ → List (List ℕ)
sealed before events replies = events ++ seal_row (rows_text (before ++ events)) replies ∷ []

-- ---- whole histories

-- a row behind a text: where it is a comment it is a seal, of that text
abbrev pub IsEntry : List ℕ → List ℕ → Type 0
IsEntry text row = IsTrue (is_comment row) → (replies : List ℕ) × IsDigest replies × (row ≡ seal_row text replies)

-- rows that stand behind others
abbrev pub AreEntries : List (List ℕ) → List (List ℕ) → Type 0
AreEntries before [] = Unit {0}
AreEntries before (row ∷ rows) = IsEntry (rows_text before) row × AreEntries (before ++ row ∷ []) rows

-- whether the last of some rows is a comment; where there are none, what was so before them
abbrev pub is_closed : Bool → List (List ℕ) → Bool
is_closed closed [] = closed
is_closed closed (row ∷ rows) = is_closed (is_comment row) rows

-- a header, and then entries
pub record IsBegun (rows : List (List ℕ)) (closed : Bool) : Type 0 where
  pub settings : List ℕ
  pub entries : List (List ℕ)
  pub header : rows ≡ header_row settings ∷ entries
  pub sealed : AreEntries (header_row settings ∷ []) entries
  pub ends : closed ≡ is_closed true entries

-- the rows of a history: a header and whole groups, each with its seal
abbrev pub IsHistory : List (List ℕ) → Type 0
IsHistory rows = IsBegun rows true
