-- The line of an event gets the rows of that event, and no other.
use Rattle.std.proofs.Common.{◌≡◌, ◌⊎◌, inl, inr, ◌≤◌, ◌<◌, ◌^◌, ℕ, Bool, true, false, not, ◌&&◌, ◌||◌, List, [], ◌∷◌, ◌++◌, length, Option, Some, None, refl, sym, ◌∙◌, ap, subst, arith}
use Rattle.std.specs.Prelude.{◌==◌, ◌↔◌, nat_le, nat_lt, bytes_eq, codes, decimal, if◌then◌else◌, unwrap_or}
use Rattle.std.specs.Result.{result_unwrap_or}
use Rattle.std.specs.List.{list_all}
use Rattle.std.proofs.lemmas.Bool.Decides.{nat_tests, Decides-ltb}
use Rattle.std.proofs.lemmas.Fmt.{decimal_digit}
use Rattle.std.proofs.lemmas.Bool.{and_parts, or_right, leb-true, false≢true}
use Rattle.hex.specs.Hex.{encode_lower, decode_of}
use Rattle.hex.proofs.HexLemmas.{decode_of-encode_lower}
use Rattle.nar.proofs.ArchiveSoundness.{tree_of_archive-sound}
use Rattle.tree_text.proofs.TextCompleteness.{whole_at-tree_text_of, tree_text_of-injective}
use Rattle.tree_text.specs.TextReading.{whole_at}
use Rattle.model.specs.declared.mode.Mode.TheVariants.{Service}
use Rattle.model.specs.declared.refusal.Refusal.{Refusal}
use Rattle.model.specs.declared.refusal.Refusal.TheVariants.{BadNar, TooLarge}
use Rattle.model.specs.declared.verb.Verb.TheVariants as verb
use Rattle.model.specs.declared.verb.WordKind.{WordKind}
use Rattle.model.specs.declared.verb.WordKind.TheVariants as kind
use Rattle.model.specs.Archives.{Tree, File, Link, Directory, AreBytes, nar}
use Rattle.model.specs.ArchiveReading.{tree_of_archive}
use Rattle.model.specs.TreeTexts.{tree_text_of}
use Rattle.model.specs.Limits.{longest_line, most_goals}
use Rattle.model.specs.Worlds.{Job, is_user_name}
use Rattle.model.specs.Events.{Request, AddSource, AddDerivation, Offer, Fetch, Trust, Distrust, Pin, Unpin, Closure, Take, Build, Status, Plan, Start, Finish, Fail, Forget, Event}
use Rattle.model.specs.Replies.{Reply}
use Rattle.model.specs.Lines.{LineResult}
use Rattle.model.specs.Words.{IsTreeText, IsNoTreeText, IsOutputOf, IsOutputText, IsNoOutputOf, IsWell, IsIll, AreWell, FirstIll, number_in, is_goal_number, is_exit_status, is_raw}
use Rattle.model.specs.Verbs.{kinds_of, IsRequestOf}
use Rattle.model.specs.ParsedLines.{Command, ParsedLine, is_rest_of_line, is_printable, parsed_line}
use Rattle.model.specs.ParsedLines as parsed
use Rattle.model.specs.Talk.{LineRow, Silent, Names, Refuses, Asks, Waits, Gets}
use Rattle.lines.specs.Writing.{verb_for, output_word, words_for, joined, line_with, event_text, may_act, is_number, may_stand, has_expansion, IsReadAs, IsSound}
use Rattle.lines.proofs.StandingWords.{is_word, are_words, one_word, two_words, name_word, user_word, path_word, tree_word, digits_bytes, decimal_number, decimal_word, decimal_numeral}
use Rattle.lines.proofs.ReadBackLemmas.{not_from, words_read, words_printable, text_read, line_printable}

-- ---- numbers

small_number : (n : ℕ) → is_number n ≡ true → n < 2 ^ 64
small_number n is =
    let most = leb-true n most_goals (and_parts (nat_lt 0 n) (nat_le n most_goals) is).1 in
    omega (arith, most)

goal_number : (n : ℕ) → is_number n ≡ true → is_goal_number (decimal n) ≡ true
goal_number n is =
    let parts = and_parts (nat_lt 0 n) (nat_le n most_goals) is in
    let small = small_number n is in
    let numeral = decimal_numeral n ((Decides-ltb 0 n).0 parts.0) small in
    let most : nat_le (number_in (decimal n)) most_goals ≡ true = ap (λ (m : ℕ). nat_le m most_goals) (decimal_number n small) ∙ parts.1 in
    rw (numeral, most) refl

number_word : (n : ℕ) → is_number n ≡ true → is_word (decimal n) ≡ true
number_word n is = decimal_word n (small_number n is)

same_number : (n : ℕ) → is_number n ≡ true → number_in (decimal n) ≡ n
same_number n is = decimal_number n (small_number n is)

zero_or_more : (n : ℕ) → (n ≡ 0) ⊎ (0 < n)
zero_or_more n = grind arith

exit_status : (n : ℕ) → n ≤ 255 → is_exit_status (decimal n) ≡ true
exit_status n most = elim (zero_or_more n) [
  | inl none ↦ ap (λ (m : ℕ). is_exit_status (decimal m)) none ∙ ap is_exit_status (decimal_digit 0 (omega arith))
  | inr some ↦
      let numeral = decimal_numeral n some (omega (arith, most)) in
      let up_to : nat_le n 255 ≡ true = grind (arith, nat_tests, most) in
      let within : nat_le (number_in (decimal n)) 255 ≡ true = ap (λ (m : ℕ). nat_le m 255) (decimal_number n (omega (arith, most))) ∙ up_to in
      or_right (bytes_eq (decimal n) (codes "0")) _ (rw (numeral, within) refl)
]

-- ---- outputs

raw_bytes : (bytes others : List ℕ) → AreBytes bytes → AreBytes others → encode_lower others ≡ encode_lower bytes → others ≡ bytes
raw_bytes bytes others are also same =
    ap (λ (r : _). result_unwrap_or r []) (sym (decode_of-encode_lower others also) ∙ ap decode_of same ∙ decode_of-encode_lower bytes are)

-- a tree's text is no word for raw bytes
no_raw : (tree : Tree) → is_raw (tree_text_of tree) ≡ false
no_raw (File true bytes) = refl
no_raw (File false bytes) = refl
no_raw (Link target) = refl
no_raw (Directory es) = refl

output_well : (o : Option Tree) (bytes : List ℕ) → AreBytes bytes → tree_of_archive bytes ≡ o → IsOutputText (output_word o bytes) bytes
output_well (Some tree) bytes are is =
    let sound = tree_of_archive-sound bytes tree are is in
    subst (λ (raw : Bool). IsOutputOf raw (tree_text_of tree) bytes) (sym (no_raw tree)) (tree, (sound.0, refl), sym sound.1)
output_well None bytes are is = (are, refl)

output_only : (o : Option Tree) (bytes others : List ℕ) → AreBytes bytes → tree_of_archive bytes ≡ o → IsOutputText (output_word o bytes) others → others ≡ bytes
output_only (Some tree) bytes others are is read =
    let sound = tree_of_archive-sound bytes tree are is in
    let found : IsOutputOf false (tree_text_of tree) others = subst (λ (raw : Bool). IsOutputOf raw (tree_text_of tree) others) (no_raw tree) read in
    let same : found.0 ≡ tree = tree_text_of-injective found.0 tree found.1.0 sound.0 found.1.1 in
    found.2 ∙ ap nar same ∙ sound.1
output_only None bytes others are is read = raw_bytes bytes others are read.0 read.1

output_is_word : (o : Option Tree) (bytes : List ℕ) → AreBytes bytes → tree_of_archive bytes ≡ o → is_word (output_word o bytes) ≡ true
output_is_word (Some tree) bytes are is = tree_word tree (tree_of_archive-sound bytes tree are is).0.bytes
output_is_word None bytes are is = digits_bytes bytes are

-- ---- a word is not both well-formed and ill-formed

no_text : (word : List ℕ) (why : Refusal) (tree : Tree) → IsTreeText word tree → IsNoTreeText word why → ⊥
no_text word BadNar tree is none = none tree (record { bytes = is.0.bytes; sound = is.0.sound; depth = is.0.depth }) is.1
no_text word TooLarge tree is none =
    let other = none.0 in
    let texts : whole_at (tree_text_of other) ≡ whole_at (tree_text_of tree) = ap whole_at (none.2 ∙ sym is.1) in
    let both : Some other ≡ Some tree =
    sym (whole_at-tree_text_of other none.1.sound none.1.depth none.1.bytes) ∙ texts ∙ whole_at-tree_text_of tree is.0.sound is.0.depth is.0.bytes in
    let same : other ≡ tree = ap (λ (o : Option Tree). unwrap_or o tree) both in
    omega (arith, none.3, ap (λ t. length (nar t)) same, is.0.length)
no_text word why tree is none = absurd none

no_output : (raw : Bool) (word bytes : List ℕ) (why : Refusal) → IsOutputOf raw word bytes → IsNoOutputOf raw word why → ⊥
no_output true word bytes why is none = none.0 bytes is
no_output false word bytes why is none = no_text word why is.0 is.1 none

not_ill : (k : WordKind) (word : List ℕ) (why : Refusal) → IsWell k word → IsIll k word why → ⊥
not_ill kind.User word why well ill = false≢true (sym ill.0 ∙ well)
not_ill kind.Name word why well ill = false≢true (sym ill.0 ∙ well)
not_ill kind.Path word why well ill = ill.0 well
not_ill kind.Tree word why well ill = no_text word why well.0 well.1 ill
not_ill kind.Text word why well ill = ill
not_ill kind.Number word why well ill = false≢true (sym ill.0 ∙ well)
not_ill kind.ExitStatus word why well ill = false≢true (sym ill.0 ∙ well)
not_ill kind.Output word why well ill = no_output (is_raw word) word well.0 why well.1 ill

none_ill : (kinds : List WordKind) (words : List (List ℕ)) (why : Refusal) → AreWell kinds words → FirstIll kinds words why → ⊥
none_ill [] words why are ill = ill
none_ill (k ∷ kinds) [] why are ill = ill
none_ill (k ∷ kinds) (word ∷ words) why are (inl ill) = not_ill k word why are.0 ill
none_ill (k ∷ kinds) (word ∷ words) why are (inr ill) = none_ill kinds words why are.1 ill.1

-- ---- the words of a request

-- they are well-formed, and make that request
record Makes (request : Request) : Type 0 where
  well : AreWell (kinds_of (verb_for request)) (words_for request)
  made : IsRequestOf (verb_for request) (words_for request) request

makes : (request : Request) → IsSound request → may_stand request ≡ true → Makes request
makes (AddSource name tree) sound may = record { well = (sound.0, ((tree, (sound.1, refl)), tt)); made = (tree, (sound.1, refl), refl) }
makes (AddDerivation text) sound may = record { well = (tt, tt); made = refl }
makes (Offer path tree) sound may = record { well = (sound.0, ((tree, (sound.1, refl)), tt)); made = (tree, (sound.1, refl), refl) }
makes (Fetch path) sound may = record { well = (sound, tt); made = refl }
makes (Trust user) sound may = record { well = (may, tt); made = refl }
makes (Distrust user) sound may = record { well = (may, tt); made = refl }
makes (Pin class path) sound may = record { well = (sound.0, (sound.1, tt)); made = refl }
makes (Unpin class) sound may = record { well = (sound, tt); made = refl }
makes (Closure class) sound may = record { well = (sound, tt); made = refl }
makes (Take class) sound may = record { well = (sound, tt); made = refl }
makes (Build path) sound may = record { well = (sound, tt); made = refl }
makes (Status n) sound may = record { well = (goal_number n may, tt); made = ap Status (sym (same_number n may)) }
makes (Plan n) sound may = record { well = (goal_number n may, tt); made = ap Plan (sym (same_number n may)) }
makes (Start n) sound may = record { well = (goal_number n may, tt); made = ap Start (sym (same_number n may)) }
makes (Finish n bytes) sound may =
    let output = output_well (tree_of_archive bytes) bytes sound refl in
    record { well = (goal_number n may, ((bytes, output), tt)); made = (bytes, output, ap (λ (m : ℕ). Finish m bytes) (sym (same_number n may))) }
makes (Fail n status) sound may = record {
  well = (goal_number n may, (exit_status status sound, tt));
  made = ap (λ (m : ℕ). Fail m status) (sym (same_number n may)) ∙ ap (Fail (number_in (decimal n))) (sym (decimal_number status (omega (arith, sound))));
}
makes (Forget class path) sound may = record { well = (sound.0, (sound.1, tt)); made = refl }

-- they make no other
makes_only : (request other : Request) → IsSound request → may_stand request ≡ true → IsRequestOf (verb_for request) (words_for request) other → other ≡ request
makes_only (AddSource name tree) other sound may made = made.2 ∙ ap (AddSource name) (tree_text_of-injective made.0 tree made.1.0 sound.1 made.1.1)
makes_only (AddDerivation text) other sound may made = made
makes_only (Offer path tree) other sound may made = made.2 ∙ ap (Offer path) (tree_text_of-injective made.0 tree made.1.0 sound.1 made.1.1)
makes_only (Fetch path) other sound may made = made
makes_only (Trust user) other sound may made = made
makes_only (Distrust user) other sound may made = made
makes_only (Pin class path) other sound may made = made
makes_only (Unpin class) other sound may made = made
makes_only (Closure class) other sound may made = made
makes_only (Take class) other sound may made = made
makes_only (Build path) other sound may made = made
makes_only (Status n) other sound may made = made ∙ ap Status (same_number n may)
makes_only (Plan n) other sound may made = made ∙ ap Plan (same_number n may)
makes_only (Start n) other sound may made = made ∙ ap Start (same_number n may)
makes_only (Finish n bytes) other sound may made =
    made.2 ∙ ap (λ (m : ℕ). Finish m made.0) (same_number n may) ∙ ap (Finish n) (output_only (tree_of_archive bytes) bytes made.0 sound refl made.1)
makes_only (Fail n status) other sound may made =
    made ∙ ap (λ (m : ℕ). Fail m (number_in (decimal status))) (same_number n may) ∙ ap (Fail n) (decimal_number status (omega (arith, sound)))
makes_only (Forget class path) other sound may made = made

-- ---- the line

-- a request whose one word is all that is left of the line, or whose words have neither blanks nor braces
words_stand : (request : Request) → IsSound request → may_stand request ≡ true → is_rest_of_line (kinds_of (verb_for request)) ≡ false
    → (length (words_for request) ≡ length (kinds_of (verb_for request))) × (are_words (words_for request) ≡ true)
words_stand (AddSource name tree) sound may several = (refl, two_words name (tree_text_of tree) (name_word name sound.0) (tree_word tree sound.1.bytes))
words_stand (AddDerivation text) sound may several = absurd (false≢true (sym several))
words_stand (Offer path tree) sound may several = (refl, two_words path (tree_text_of tree) (path_word path sound.0) (tree_word tree sound.1.bytes))
words_stand (Fetch path) sound may several = (refl, one_word path (path_word path sound))
words_stand (Trust user) sound may several = (refl, one_word user (user_word user may))
words_stand (Distrust user) sound may several = (refl, one_word user (user_word user may))
words_stand (Pin class path) sound may several = (refl, two_words class path (path_word class sound.0) (path_word path sound.1))
words_stand (Unpin class) sound may several = (refl, one_word class (path_word class sound))
words_stand (Closure class) sound may several = (refl, one_word class (path_word class sound))
words_stand (Take class) sound may several = (refl, one_word class (path_word class sound))
words_stand (Build path) sound may several = (refl, one_word path (path_word path sound))
words_stand (Status n) sound may several = (refl, one_word (decimal n) (number_word n may))
words_stand (Plan n) sound may several = (refl, one_word (decimal n) (number_word n may))
words_stand (Start n) sound may several = (refl, one_word (decimal n) (number_word n may))
words_stand (Finish n bytes) sound may several =
    (refl, two_words (decimal n) (output_word (tree_of_archive bytes) bytes) (number_word n may) (output_is_word (tree_of_archive bytes) bytes sound refl))
words_stand (Fail n status) sound may several =
    (refl, two_words (decimal n) (decimal status) (number_word n may) (decimal_word status (omega (arith, sound))))
words_stand (Forget class path) sound may several = (refl, two_words class path (path_word class sound.0) (path_word path sound.1))

-- the command that the line of an event is
abbrev command_for : Request → Command
command_for request = record { verb = verb_for request; words = words_for request }

record Reads (told : List LineResult) (actor : List ℕ) (request : Request) : Type 0 where
  command : parsed_line Service true told (line_with actor (verb_for request) (joined (words_for request))) ≡ parsed.Asks actor (command_for request)
  printable : list_all is_printable (line_with actor (verb_for request) (joined (words_for request))) ≡ true

several_read : (told : List LineResult) (actor : List ℕ) (request : Request) → may_act actor ≡ true → IsSound request → may_stand request ≡ true
    → length (line_with actor (verb_for request) (joined (words_for request))) ≤ longest_line
    → is_rest_of_line (kinds_of (verb_for request)) ≡ false → Reads told actor request
several_read told actor request acts sound may fits several =
    let stand = words_stand request sound may several in
    record {
      command = words_read told actor (verb_for request) acts (words_for request) several stand.0 stand.1 fits;
      printable = words_printable told actor (verb_for request) acts (words_for request) stand.1;
    }

text_reads : (told : List LineResult) (actor text : List ℕ) → may_act actor ≡ true → may_stand (AddDerivation text) ≡ true
    → length (line_with actor verb.Derivation text) ≤ longest_line → Reads told actor (AddDerivation text)
text_reads told actor text acts may fits =
    let parts = and_parts (list_all is_printable text) (not (has_expansion text)) may in
    record {
      command = text_read told actor verb.Derivation acts text refl parts.0 (not_from (has_expansion text) parts.1) fits;
      printable = line_printable told actor verb.Derivation acts text parts.0;
    }

reads : (told : List LineResult) (actor : List ℕ) (request : Request) → may_act actor ≡ true → IsSound request → may_stand request ≡ true
    → length (line_with actor (verb_for request) (joined (words_for request))) ≤ longest_line → Reads told actor request
reads told actor (AddDerivation text) acts sound may fits = text_reads told actor text acts may fits
reads told actor (AddSource name tree) acts sound may fits = several_read told actor (AddSource name tree) acts sound may fits refl
reads told actor (Offer path tree) acts sound may fits = several_read told actor (Offer path tree) acts sound may fits refl
reads told actor (Fetch path) acts sound may fits = several_read told actor (Fetch path) acts sound may fits refl
reads told actor (Trust user) acts sound may fits = several_read told actor (Trust user) acts sound may fits refl
reads told actor (Distrust user) acts sound may fits = several_read told actor (Distrust user) acts sound may fits refl
reads told actor (Pin class path) acts sound may fits = several_read told actor (Pin class path) acts sound may fits refl
reads told actor (Unpin class) acts sound may fits = several_read told actor (Unpin class) acts sound may fits refl
reads told actor (Closure class) acts sound may fits = several_read told actor (Closure class) acts sound may fits refl
reads told actor (Take class) acts sound may fits = several_read told actor (Take class) acts sound may fits refl
reads told actor (Build path) acts sound may fits = several_read told actor (Build path) acts sound may fits refl
reads told actor (Status n) acts sound may fits = several_read told actor (Status n) acts sound may fits refl
reads told actor (Plan n) acts sound may fits = several_read told actor (Plan n) acts sound may fits refl
reads told actor (Start n) acts sound may fits = several_read told actor (Start n) acts sound may fits refl
reads told actor (Finish n bytes) acts sound may fits = several_read told actor (Finish n bytes) acts sound may fits refl
reads told actor (Fail n status) acts sound may fits = several_read told actor (Fail n status) acts sound may fits refl
reads told actor (Forget class path) acts sound may fits = several_read told actor (Forget class path) acts sound may fits refl

-- ---- its rows

-- the rows of the command are those of the event
rows_of : (goals : List Job) (e : Event) (row : LineRow) → is_user_name e.actor ≡ true → IsSound e.request → may_stand e.request ≡ true
    → Gets goals (parsed.Asks e.actor (command_for e.request)) row ↔ ((reply : Reply) × (row ≡ Asks e reply))
rows_of goals e row named sound may = (only row, gets)
  where
    well : AreWell (kind.User ∷ kinds_of (verb_for e.request)) (e.actor ∷ words_for e.request)
    well = (named, (makes e.request sound may).well)

    only : (row : LineRow) → Gets goals (parsed.Asks e.actor (command_for e.request)) row → (reply : Reply) × (row ≡ Asks e reply)
    only Silent got = absurd got
    only (Names users) got = absurd got
    only (Refuses why) got = absurd (none_ill (kind.User ∷ kinds_of (verb_for e.request)) (e.actor ∷ words_for e.request) why well got)
    only (Asks other reply) got =
        let request : other.request ≡ e.request = makes_only e.request other.request sound may got.2 in
        let same : other ≡ e = ap (λ (a : List ℕ). record { actor = a; request = other.request }) got.1 ∙ ap (λ (r : Request). record { actor = e.actor; request = r }) request in
        (reply, ap (λ (x : Event). Asks x reply) same)
    only (Waits awaited reply) got = absurd got

    gets : (reply : Reply) × (row ≡ Asks e reply) → Gets goals (parsed.Asks e.actor (command_for e.request)) row
    gets asked = subst (Gets goals (parsed.Asks e.actor (command_for e.request))) (sym asked.1) (well, refl, (makes e.request sound may).made)

-- ---- an event with a line

-- a text is the line of an event
pub record IsLineOf (e : Event) (text : List ℕ) : Type 0 where
  pub is : text ≡ event_text e
  pub acts : may_act e.actor ≡ true
  pub may : may_stand e.request ≡ true
  pub fits : length (event_text e) ≤ longest_line

pub read_as : (e : Event) (text : List ℕ) → IsSound e.request → IsLineOf e text → IsReadAs text e
read_as e text sound line told goals row =
    let named = (and_parts (is_user_name e.actor) (not (bytes_eq e.actor (codes "users"))) line.acts).0 in
    let read = (reads told e.actor e.request line.acts sound line.may line.fits).command in
    let same : parsed_line Service true told text ≡ parsed.Asks e.actor (command_for e.request) = ap (parsed_line Service true told) line.is ∙ read in
    subst (λ (p : ParsedLine). Gets goals p row ↔ ((reply : Reply) × (row ≡ Asks e reply))) (sym same) (rows_of goals e row named sound line.may)

pub line_is_printable : (e : Event) (text : List ℕ) → IsSound e.request → IsLineOf e text → list_all is_printable text ≡ true
line_is_printable e text sound line =
    ap (list_all is_printable) line.is ∙ (reads [] e.actor e.request line.acts sound line.may line.fits).printable
