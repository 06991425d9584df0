-- Parsed lines: what a line is before its words are looked at one by one.
use Rattle.std.specs.Prelude.{ℕ, ◌==◌, nat_lt, nat_le, Bool, ◌&&◌, ◌||◌, true, false, not, if◌then◌else◌, List, [], ◌∷◌, length, bytes_eq, codes, Option, None, Some, option_map}
use Rattle.std.specs.List.{list_any, list_all}
use Rattle.std.specs.Option.{option_and_then}
use Rattle.model.specs.declared.mode.Mode.{Mode}
use Rattle.model.specs.declared.mode.Mode.TheVariants.{Service, Run}
use Rattle.model.specs.declared.refusal.Refusal.{Refusal}
use Rattle.model.specs.declared.refusal.Refusal.TheVariants.{BadUsers, TooLarge, BadLine}
use Rattle.model.specs.declared.verb.Verb.{Verb}
use Rattle.model.specs.declared.verb.WordKind.{WordKind}
use Rattle.model.specs.declared.verb.WordKind.TheVariants as kind
use Rattle.model.specs.Worlds.{are_users}
use Rattle.model.specs.Limits.{longest_line}
use Rattle.model.specs.Lines.{LineResult, split, cut_at, filled}
use Rattle.model.specs.Verbs.{verb_in, kinds_of}

-- what a line asks for its user: a verb with its words
pub record Command : Type 0 where
  pub verb : Verb
  pub words : List (List ℕ)

-- what a line is: one with no reply, the list of users, one that the session itself refuses, a user's command, or one that waits
pub data ParsedLine : Type 0 where
  Silent : ParsedLine
  Names : (users : List (List ℕ)) → ParsedLine
  Refuses : Refusal → ParsedLine
  Asks : (user : List ℕ) → Command → ParsedLine
  Waits : ParsedLine

abbrev pub is_empty_word : List ℕ → Bool
is_empty_word word = length word == 0

-- ---- users

abbrev pub parsed_names : List (List ℕ) → ParsedLine
parsed_names names = if are_users names then Names names else Refuses BadUsers

-- the words of a line before that of users that is answered ok: there is no other line but that
abbrev pub parsed_users : List (List ℕ) → ParsedLine
parsed_users [] = Refuses BadLine
parsed_users (word ∷ names) = if bytes_eq word (codes "users") then parsed_names names else Refuses BadLine

-- there is one blank between words
abbrev pub parsed_first : List (List ℕ) → ParsedLine
parsed_first words = if list_any is_empty_word words then Refuses BadLine else parsed_users words

-- ---- commands

-- whether all that is left of the line is one word
abbrev pub is_rest_of_line : List WordKind → Bool
is_rest_of_line (kind.Text ∷ []) = true
is_rest_of_line kinds = false

-- words between which there is one blank, where they are so many
abbrev pub so_many : ℕ → List (List ℕ) → Option (List (List ℕ))
so_many count words = if list_any is_empty_word words || not (length words == count) then None else Some words

-- what stands behind a verb as words of these kinds, as many as there are kinds
abbrev pub words_by : List WordKind → List ℕ → Option (List (List ℕ))
words_by kinds text = if is_rest_of_line kinds then Some (text ∷ []) else so_many (length kinds) (split 32 text)

abbrev pub command_by : List ℕ → Verb → Option Command
command_by text verb = option_map (λ words. record { verb = verb; words = words }) (words_by (kinds_of verb) text)

-- what stands behind a user's name as a command: a verb of the mode, a blank, and the words of the verb
abbrev pub command_in : Mode → List ℕ → Option Command
command_in mode text = option_and_then (λ r. option_and_then (command_by r.1) (verb_in mode r.0)) (cut_at 32 text)

abbrev pub parsed_command : List ℕ → Option Command → ParsedLine
parsed_command user None = Refuses BadLine
parsed_command user (Some command) = Asks user command

-- a line with no blank, after that of users: in a run `wait` waits
abbrev pub parsed_word : Mode → List ℕ → ParsedLine
parsed_word Service word = Refuses BadLine
parsed_word Run word = if bytes_eq word (codes "wait") then Waits else Refuses BadLine

-- a line after that of users: a word with no blank, or a user's name, a blank, and a command; there is no second line of users
abbrev pub parsed_later : Mode → List ℕ → Option (List ℕ × List ℕ) → ParsedLine
parsed_later mode text None = parsed_word mode text
parsed_later mode text (Some r) = if bytes_eq r.0 (codes "users") then Refuses BadLine else parsed_command r.0 (command_in mode r.1)

-- ---- lines

-- a line whose expansions are made
abbrev pub parsed_text : Mode → Bool → Option (List ℕ) → ParsedLine
parsed_text mode begun None = Refuses BadLine
parsed_text mode begun (Some text) = if begun then parsed_later mode text (cut_at 32 text) else parsed_first (split 32 text)

-- an empty line and a comment get no reply
abbrev pub is_quiet : List ℕ → Bool
is_quiet [] = true
is_quiet (b ∷ bytes) = b == 35

abbrev pub is_printable : ℕ → Bool
is_printable b = nat_le 32 b && nat_le b 126

-- a line of that mode after others, of which one of users was answered ok or none, and whose replies told this
abbrev pub parsed_line : Mode → Bool → List LineResult → List ℕ → ParsedLine
parsed_line mode begun told line =
    if nat_lt longest_line (length line) then Refuses TooLarge
    else if is_quiet line then Silent
    else if not (list_all is_printable line) then Refuses BadLine
    else parsed_text mode begun (filled told line)
