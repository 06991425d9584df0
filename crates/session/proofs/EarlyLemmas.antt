-- Lines before the one that names the users: they ask nobody and wait for nothing.
use Rattle.std.proofs.Common.{◌≡◌, ℕ, Bool, true, false, List, [], ◌∷◌, Option, Some, None}
use Rattle.std.specs.Prelude.{if◌then◌else◌, bytes_eq, codes, nat_lt, length, not}
use Rattle.std.specs.List.{list_any, list_all}
use Rattle.model.specs.declared.mode.Mode.{Mode}
use Rattle.model.specs.declared.refusal.Refusal.TheVariants.{BadLine, BadUsers, TooLarge}
use Rattle.model.specs.Worlds.{Job as GoalId, are_users}
use Rattle.model.specs.Lines.{LineResult, split, filled}
use Rattle.model.specs.ParsedLines.{ParsedLine, parsed_names, parsed_users, parsed_text, parsed_line, is_empty_word, is_quiet, is_printable}
use Rattle.model.specs.Limits.{longest_line}
use Rattle.model.specs.ParsedLines as parsed
use Rattle.model.specs.Talk.{LineRow, Silent, Names, Refuses, Asks, Waits, Seen, parsed_of, Gets, GetsNext}
use Rattle.session.specs.Heads.{Idle}

-- a parsed line that asks nobody
abbrev IsQuiet : ParsedLine → Type 0
IsQuiet (parsed.Asks user command) = ⊥
IsQuiet parsed.Waits = ⊥
IsQuiet parsed = Unit {0}

quiet_if : (b : Bool) (f g : ParsedLine) → IsQuiet f → IsQuiet g → IsQuiet (if b then f else g)
quiet_if true f g x y = x
quiet_if false f g x y = y

quiet_names : (names : List (List ℕ)) → IsQuiet (parsed_names names)
quiet_names names = quiet_if (are_users names) (parsed.Names names) (parsed.Refuses BadUsers) tt tt

quiet_users : (words : List (List ℕ)) → IsQuiet (parsed_users words)
quiet_users [] = tt
quiet_users (word ∷ words) = quiet_if (bytes_eq word (codes "users")) (parsed_names words) (parsed.Refuses BadLine) (quiet_names words) tt

quiet_text : (mode : Mode) (text : Option (List ℕ)) → IsQuiet (parsed_text mode false text)
quiet_text mode None = tt
quiet_text mode (Some text) =
    quiet_if (list_any is_empty_word (split 32 text)) (parsed.Refuses BadLine) (parsed_users (split 32 text)) tt (quiet_users (split 32 text))

quiet_line : (mode : Mode) (told : List LineResult) (line : List ℕ) → IsQuiet (parsed_line mode false told line)
quiet_line mode told line =
    let text : ParsedLine = parsed_text mode false (filled told line) in
    let printable : ParsedLine = if not (list_all is_printable line) then parsed.Refuses BadLine else text in
    let silent : ParsedLine = if is_quiet line then parsed.Silent else printable in
    quiet_if (nat_lt longest_line (length line)) (parsed.Refuses TooLarge) silent tt
    (quiet_if (is_quiet line) parsed.Silent printable tt
    (quiet_if (not (list_all is_printable line)) (parsed.Refuses BadLine) text tt (quiet_text mode (filled told line))))

quiet_row : (goals : List GoalId) (f : ParsedLine) (row : LineRow) → IsQuiet f → Gets goals f row → Idle tt row tt
quiet_row goals f Silent q g = tt
quiet_row goals f (Names users) q g = tt
quiet_row goals f (Refuses why) q g = tt
quiet_row goals (parsed.Asks user command) (Asks event reply) q g = absurd q
quiet_row goals parsed.Waits (Asks event reply) q g = absurd q
quiet_row goals f (Asks event reply) q g = absurd g
quiet_row goals (parsed.Asks user command) (Waits awaited reply) q g = absurd q
quiet_row goals parsed.Waits (Waits awaited reply) q g = absurd q
quiet_row goals f (Waits awaited reply) q g = absurd g

-- the row of such a line
pub quiet : (seen : Seen) (line : List ℕ) (row : LineRow) → seen.begun ≡ false → GetsNext seen line row → Idle tt row tt
quiet seen line row b g = quiet_row seen.goals (parsed_of seen line) row (rw b (quiet_line seen.mode seen.told line)) g
