-- The line of an event, and what it is read as.
use Rattle.std.specs.Prelude.{◌≡◌, ◌≤◌, ◌↔◌, ℕ, nat_le, nat_lt, Bool, ◌&&◌, true, false, not, if◌then◌else◌, List, [], ◌∷◌, ◌++◌, length, drop, bytes_eq, codes, decimal, Option, None, Some}
use Rattle.std.specs.List.{list_all, list_any}
use Rattle.hex.specs.Hex.{encode_lower}
use Rattle.model.specs.declared.mode.Mode.TheVariants.{Service}
use Rattle.model.specs.declared.verb.Verb.{Verb}
use Rattle.model.specs.declared.verb.Verb.TheVariants as verb
use Rattle.model.specs.Archives.{Tree, IsTree, AreBytes}
use Rattle.model.specs.Paths.{is_name, IsPath}
use Rattle.model.specs.ArchiveReading.{tree_of_archive}
use Rattle.model.specs.TreeTexts.{tree_text_of}
use Rattle.model.specs.Limits.{most_goals, longest_line}
use Rattle.model.specs.Worlds.{Job, is_user_name}
use Rattle.model.specs.Events.{Request, AddSource, AddDerivation, Offer, Fetch, Trust, Distrust, Pin, Unpin, Closure, Take, Build, Status, Plan, Start, Finish, Fail, Forget, Event}
use Rattle.model.specs.Replies.{Reply}
use Rattle.model.specs.Lines.{LineResult, is_letter, is_numeral, cut_at, split}
use Rattle.model.specs.Verbs.{word_of}
use Rattle.model.specs.ParsedLines.{is_printable, parsed_line}
use Rattle.model.specs.Talk.{LineRow, Asks, Gets}

-- ---- the text

-- the verb of a request
abbrev pub verb_for : Request → Verb
verb_for (AddSource name tree) = verb.Source
verb_for (AddDerivation text) = verb.Derivation
verb_for (Offer derivation tree) = verb.Offer
verb_for (Fetch path) = verb.Fetch
verb_for (Trust user) = verb.Trust
verb_for (Distrust user) = verb.Distrust
verb_for (Pin class path) = verb.Pin
verb_for (Unpin class) = verb.Unpin
verb_for (Closure class) = verb.Closure
verb_for (Take class) = verb.Take
verb_for (Build derivation) = verb.Build
verb_for (Status number) = verb.Status
verb_for (Plan number) = verb.Plan
verb_for (Start number) = verb.Start
verb_for (Finish number bytes) = verb.Finish
verb_for (Fail number status) = verb.Fail
verb_for (Forget class path) = verb.Forget

-- the word for what a builder wrote: the text of the tree whose archive it is, or else its bytes as they are
abbrev pub output_word : Option Tree → List ℕ → List ℕ
output_word (Some tree) bytes = tree_text_of tree
output_word None bytes = codes "n:" ++ encode_lower bytes

-- the words behind the verb
abbrev pub words_for : Request → List (List ℕ)
words_for (AddSource name tree) = name ∷ tree_text_of tree ∷ []
words_for (AddDerivation text) = text ∷ []
words_for (Offer derivation tree) = derivation ∷ tree_text_of tree ∷ []
words_for (Fetch path) = path ∷ []
words_for (Trust user) = user ∷ []
words_for (Distrust user) = user ∷ []
words_for (Pin class path) = class ∷ path ∷ []
words_for (Unpin class) = class ∷ []
words_for (Closure class) = class ∷ []
words_for (Take class) = class ∷ []
words_for (Build derivation) = derivation ∷ []
words_for (Status number) = decimal number ∷ []
words_for (Plan number) = decimal number ∷ []
words_for (Start number) = decimal number ∷ []
words_for (Finish number bytes) = decimal number ∷ output_word (tree_of_archive bytes) bytes ∷ []
words_for (Fail number status) = decimal number ∷ decimal status ∷ []
words_for (Forget class path) = class ∷ path ∷ []

-- words with a blank between
abbrev pub joined : List (List ℕ) → List ℕ
joined [] = []
joined (word ∷ []) = word
joined (word ∷ next ∷ words) = word ++ 32 ∷ joined (next ∷ words)

-- a user, a verb, and what stands behind it
abbrev pub line_with : List ℕ → Verb → List ℕ → List ℕ
line_with actor verb text = actor ++ (32 ∷ (word_of verb ++ (32 ∷ text)))

abbrev pub event_text : Event → List ℕ
event_text e = line_with e.actor (verb_for e.request) (joined (words_for e.request))

-- ---- which events have a line

-- whether what stands before a closing brace is the number of a line
abbrev pub names_line : Option (List ℕ × List ℕ) → Bool
names_line None = false
names_line (Some r) = is_numeral r.0

-- whether a text behind an opening brace begins with an expansion, whichever line that names
abbrev pub is_expansion : List ℕ → Bool
is_expansion [] = false
is_expansion (letter ∷ text) = is_letter letter && names_line (cut_at 125 text)

-- whether a text has an expansion
abbrev pub has_expansion : List ℕ → Bool
has_expansion text = list_any is_expansion (drop 1 (split 123 text))

-- whether a user's name begins lines of commands: `users` begins the list of users
abbrev pub may_act : List ℕ → Bool
may_act user = is_user_name user && not (bytes_eq user (codes "users"))

abbrev pub is_number : ℕ → Bool
is_number number = nat_lt 0 number && nat_le number most_goals

-- whether the words of a request may stand in a line: a derivation's text is printed there as it is, and means the same on each line
abbrev pub may_stand : Request → Bool
may_stand (AddDerivation text) = list_all is_printable text && not (has_expansion text)
may_stand (Trust user) = is_user_name user
may_stand (Distrust user) = is_user_name user
may_stand (Status number) = is_number number
may_stand (Plan number) = is_number number
may_stand (Start number) = is_number number
may_stand (Finish number bytes) = is_number number
may_stand (Fail number status) = is_number number
may_stand request = true

-- the line of an event, where it has one
abbrev pub line_of : Event → Option (List ℕ)
line_of e =
    if may_act e.actor && (may_stand e.request && nat_le (length (event_text e)) longest_line) then Some (event_text e) else None

-- ---- what requests have by their types

-- names are names, paths are paths, trees are trees, and what a builder wrote are bytes
abbrev pub IsSound : Request → Type 0
IsSound (AddSource name tree) = (is_name name ≡ true) × IsTree tree
IsSound (Offer path tree) = IsPath path × IsTree tree
IsSound (Fetch path) = IsPath path
IsSound (Pin class path) = IsPath class × IsPath path
IsSound (Unpin class) = IsPath class
IsSound (Closure class) = IsPath class
IsSound (Take class) = IsPath class
IsSound (Build path) = IsPath path
IsSound (Finish number bytes) = AreBytes bytes
IsSound (Fail number status) = status ≤ 255
IsSound (Forget class path) = IsPath class × IsPath path
IsSound request = Unit {0}

-- ---- what it is read as

-- wherever it stands behind the list of users in lines of the service, the line gets the rows of this event, with any reply, and no other
abbrev pub IsReadAs : List ℕ → Event → Type 0
IsReadAs line e = (told : List LineResult) (goals : List Job) (row : LineRow)
    → Gets goals (parsed_line Service true told line) row ↔ ((reply : Reply) × (row ≡ Asks e reply))
