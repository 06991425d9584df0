-- The lines of the service.
use Rattle.std.proofs.Common.{◌≡◌, ℕ, Bool, true, false, refl, List, [], ◌∷◌, Option, Some, None}
use Rattle.std.specs.Prelude.{if◌then◌else◌, bytes_eq, codes, nat_lt, length, not}
use Rattle.std.specs.List.{list_any, list_all}
use Rattle.model.specs.declared.mode.Mode.TheVariants.{Service}
use Rattle.model.specs.declared.refusal.Refusal.TheVariants.{BadUsers, BadLine, TooLarge}
use Rattle.model.specs.Worlds.{Job, are_users}
use Rattle.model.specs.Replies.{Reply}
use Rattle.model.specs.Lines.{LineResult, split, cut_at, filled}
use Rattle.model.specs.ParsedLines.{ParsedLine, Command, parsed_names, parsed_users, parsed_first, command_in, parsed_command, parsed_later, parsed_text, parsed_line, is_empty_word, is_quiet, is_printable}
use Rattle.model.specs.Limits.{longest_line}
use Rattle.model.specs.ParsedLines as parsed
use Rattle.model.specs.Talk.{LineRow, Silent, Names, Refuses, Asks, Waits, Seen, seen_after, parsed_of, Gets, GetsNext, Talks, awaited_in}

-- a parsed line that is no wait
abbrev IsNoWait : ParsedLine → Type 0
IsNoWait parsed.Waits = ⊥
IsNoWait parsed = Unit {0}

either_parsed : (b : Bool) (f g : ParsedLine) → IsNoWait f → IsNoWait g → IsNoWait (if b then f else g)
either_parsed true f g x y = x
either_parsed false f g x y = y

no_wait-users : (words : List (List ℕ)) → IsNoWait (parsed_users words)
no_wait-users [] = tt
no_wait-users (word ∷ names) =
    either_parsed (bytes_eq word (codes "users")) (parsed_names names) (parsed.Refuses BadLine)
    (either_parsed (are_users names) (parsed.Names names) (parsed.Refuses BadUsers) tt tt) tt

no_wait-command : (user : List ℕ) (command : Option Command) → IsNoWait (parsed_command user command)
no_wait-command user None = tt
no_wait-command user (Some command) = tt

no_wait-later : (text : List ℕ) (r : Option (List ℕ × List ℕ)) → IsNoWait (parsed_later Service text r)
no_wait-later text None = tt
no_wait-later text (Some r) =
    either_parsed (bytes_eq r.0 (codes "users")) (parsed.Refuses BadLine) (parsed_command r.0 (command_in Service r.1)) tt (no_wait-command r.0 (command_in Service r.1))

no_wait-text : (begun : Bool) (text : Option (List ℕ)) → IsNoWait (parsed_text Service begun text)
no_wait-text begun None = tt
no_wait-text begun (Some text) =
    let words = split 32 text in
    either_parsed begun (parsed_later Service text (cut_at 32 text)) (parsed_first words) (no_wait-later text (cut_at 32 text))
    (either_parsed (list_any is_empty_word words) (parsed.Refuses BadLine) (parsed_users words) tt (no_wait-users words))

no_wait-line : (begun : Bool) (told : List LineResult) (line : List ℕ) → IsNoWait (parsed_line Service begun told line)
no_wait-line begun told line =
    let text : ParsedLine = parsed_text Service begun (filled told line) in
    let printable : ParsedLine = if not (list_all is_printable line) then parsed.Refuses BadLine else text in
    let quiet : ParsedLine = if is_quiet line then parsed.Silent else printable in
    either_parsed (nat_lt longest_line (length line)) (parsed.Refuses TooLarge) quiet tt
    (either_parsed (is_quiet line) parsed.Silent printable tt
    (either_parsed (not (list_all is_printable line)) (parsed.Refuses BadLine) text tt (no_wait-text begun (filled told line))))

no_wait-row : (goals awaited : List Job) (f : ParsedLine) (reply : Reply) → IsNoWait f → Gets goals f (Waits awaited reply) → ⊥
no_wait-row goals awaited parsed.Silent reply n g = g
no_wait-row goals awaited (parsed.Names users) reply n g = g
no_wait-row goals awaited (parsed.Refuses why) reply n g = g
no_wait-row goals awaited (parsed.Asks user command) reply n g = g
no_wait-row goals awaited parsed.Waits reply n g = n

no_wait-next : (seen : Seen) (line : List ℕ) (awaited : List Job) (reply : Reply) → seen.mode ≡ Service → GetsNext seen line (Waits awaited reply) → ⊥
no_wait-next seen line awaited reply service g =
    no_wait-row seen.goals awaited (parsed_of seen line) reply (rw service (no_wait-line seen.begun seen.told line)) g

-- where the session knows the lines of the service, none of them waits
pub never_waits : (seen : Seen) (lines : List (List ℕ)) (rows : List LineRow) → seen.mode ≡ Service → Talks seen lines rows → awaited_in rows ≡ []
never_waits seen [] [] service t = refl
never_waits seen [] (r ∷ rows) service t = absurd t
never_waits seen (l ∷ lines) [] service t = refl
never_waits seen (l ∷ lines) (Silent ∷ rows) service t = never_waits (seen_after seen Silent) lines rows service t.2
never_waits seen (l ∷ lines) (Names users ∷ rows) service t = never_waits (seen_after seen (Names users)) lines rows service t.2
never_waits seen (l ∷ lines) (Refuses why ∷ rows) service t = never_waits (seen_after seen (Refuses why)) lines rows service t.2
never_waits seen (l ∷ lines) (Asks event reply ∷ rows) service t = never_waits (seen_after seen (Asks event reply)) lines rows service t.2
never_waits seen (l ∷ lines) (Waits awaited reply ∷ rows) service t = absurd (no_wait-next seen l awaited reply service t.1)
