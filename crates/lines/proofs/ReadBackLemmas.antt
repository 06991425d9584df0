-- A user, a verb and its words, on one line, are read as that command.
use Rattle.std.proofs.Common.{◌≡◌, ◌≤◌, ℕ, Bool, true, false, not, ◌&&◌, ◌||◌, List, [], ◌∷◌, ◌++◌, length, Some, option_map, refl, sym, ◌∙◌, ap, arith}
use Rattle.std.specs.Prelude.{◌==◌, nat_lt, bytes_eq, codes}
use Rattle.std.specs.List.{list_all, list_any}
use Rattle.std.specs.Option.{option_and_then}
use Rattle.std.proofs.lemmas.Bool.Decides.{nat_tests}
use Rattle.std.proofs.lemmas.Bool.{and_parts, and_from}
use Rattle.std.proofs.lemmas.List.Folds.{list_all-append}
use Rattle.model.specs.declared.mode.Mode.TheVariants.{Service}
use Rattle.model.specs.declared.verb.Verb.{Verb}
use Rattle.model.specs.declared.verb.Verb.TheVariants.{Source, Derivation, Offer, Fetch, Trust, Distrust, Pin, Unpin, Closure, Take, Build, Status, Plan, Start, Finish, Fail, Forget}
use Rattle.model.specs.Characters.{is_lower_case}
use Rattle.model.specs.Limits.{longest_line}
use Rattle.model.specs.Lines.{LineResult, onto_first, split, cut_at, filled}
use Rattle.model.specs.Worlds.{is_user_name}
use Rattle.model.specs.Verbs.{word_of, kinds_of, verb_in}
use Rattle.model.specs.ParsedLines.{is_empty_word, so_many, words_by, command_by, command_in, parsed_command, parsed_later, parsed_text, parsed_line, is_rest_of_line, is_quiet, is_printable}
use Rattle.model.specs.ParsedLines as parsed
use Rattle.lines.specs.Writing.{joined, line_with, may_act, has_expansion}
use Rattle.lines.proofs.StandingWords.{is_word_byte, are_word_bytes, is_word, are_words, word_bytes, user_word}
use Rattle.lines.proofs.UnexpandedLemmas.{no_braces, behind_plain, plain, filled_same}

pub not_from : (a : Bool) → not a ≡ true → a ≡ false
not_from true is = absurd (cc is)
not_from false is = refl

-- ---- bytes of words

no_blank : (b : ℕ) → is_word_byte b ≡ true → (b == 32) ≡ false
no_blank b is = grind (arith, nat_tests)

no_brace : (b : ℕ) → is_word_byte b ≡ true → not (b == 123) ≡ true
no_brace b is = grind (arith, nat_tests)

printable : (b : ℕ) → is_word_byte b ≡ true → is_printable b ≡ true
printable b is = grind (arith, nat_tests)

all_printable : (word : List ℕ) → are_word_bytes word ≡ true → list_all is_printable word ≡ true
all_printable [] is = refl
all_printable (b ∷ word) is =
    let parts = and_parts (is_word_byte b) (are_word_bytes word) is in
    and_from (is_printable b) (list_all is_printable word) (printable b parts.0) (all_printable word parts.1)

word_braces : (word : List ℕ) → are_word_bytes word ≡ true → no_braces word ≡ true
word_braces [] is = refl
word_braces (b ∷ word) is =
    let parts = and_parts (is_word_byte b) (are_word_bytes word) is in
    and_from (not (b == 123)) (no_braces word) (no_brace b parts.0) (word_braces word parts.1)

-- ---- cutting and splitting

cut_word : (word rest : List ℕ) → are_word_bytes word ≡ true → cut_at 32 (word ++ 32 ∷ rest) ≡ Some (word, rest)
cut_word [] rest is = refl
cut_word (b ∷ word) rest is =
    let parts = and_parts (is_word_byte b) (are_word_bytes word) is in
    rw (no_blank b parts.0) (ap (option_map {U = List ℕ × List ℕ} (λ (r : List ℕ × List ℕ). (b ∷ r.0, r.1))) (cut_word word rest parts.1))

split_word : (word rest : List ℕ) → are_word_bytes word ≡ true → split 32 (word ++ 32 ∷ rest) ≡ word ∷ split 32 rest
split_word [] rest is = refl
split_word (b ∷ word) rest is =
    let parts = and_parts (is_word_byte b) (are_word_bytes word) is in
    rw (no_blank b parts.0) (ap (onto_first b) (split_word word rest parts.1))

split_last : (word : List ℕ) → are_word_bytes word ≡ true → split 32 word ≡ word ∷ []
split_last [] is = refl
split_last (b ∷ word) is =
    let parts = and_parts (is_word_byte b) (are_word_bytes word) is in
    rw (no_blank b parts.0) (ap (onto_first b) (split_last word parts.1))

split_joined : (word : List ℕ) (words : List (List ℕ)) → are_words (word ∷ words) ≡ true → split 32 (joined (word ∷ words)) ≡ word ∷ words
split_joined word [] are = split_last word (word_bytes word (and_parts (is_word word) true are).0)
split_joined word (next ∷ words) are =
    let parts = and_parts (is_word word) (are_words (next ∷ words)) are in
    split_word word (joined (next ∷ words)) (word_bytes word parts.0) ∙ ap (λ (ws : List (List ℕ)). word ∷ ws) (split_joined next words parts.1)

none_empty : (words : List (List ℕ)) → are_words words ≡ true → list_any is_empty_word words ≡ false
none_empty [] are = refl
none_empty ([] ∷ words) are = absurd (cc are)
none_empty ((b ∷ word) ∷ words) are =
    let full : is_empty_word (b ∷ word) ≡ false = grind (arith, nat_tests) in
    rw full (none_empty words (and_parts (is_word (b ∷ word)) (are_words words) are).1)

joined_printable : (words : List (List ℕ)) → are_words words ≡ true → list_all is_printable (joined words) ≡ true
joined_printable [] are = refl
joined_printable (word ∷ []) are = all_printable word (word_bytes word (and_parts (is_word word) true are).0)
joined_printable (word ∷ next ∷ words) are =
    let parts = and_parts (is_word word) (are_words (next ∷ words)) are in
    list_all-append is_printable word (32 ∷ joined (next ∷ words))
    ∙ and_from (list_all is_printable word) (list_all is_printable (joined (next ∷ words))) (all_printable word (word_bytes word parts.0)) (joined_printable (next ∷ words) parts.1)

joined_braces : (words : List (List ℕ)) → are_words words ≡ true → no_braces (joined words) ≡ true
joined_braces [] are = refl
joined_braces (word ∷ []) are = word_braces word (word_bytes word (and_parts (is_word word) true are).0)
joined_braces (word ∷ next ∷ words) are =
    let parts = and_parts (is_word word) (are_words (next ∷ words)) are in
    list_all-append (λ (b : ℕ). not (b == 123)) word (32 ∷ joined (next ∷ words))
    ∙ and_from (no_braces word) (no_braces (joined (next ∷ words))) (word_braces word (word_bytes word parts.0)) (joined_braces (next ∷ words) parts.1)

-- ---- verbs

verb_bytes : (verb : Verb) → are_word_bytes (word_of verb) ≡ true
verb_bytes Source = refl
verb_bytes Derivation = refl
verb_bytes Offer = refl
verb_bytes Fetch = refl
verb_bytes Trust = refl
verb_bytes Distrust = refl
verb_bytes Pin = refl
verb_bytes Unpin = refl
verb_bytes Closure = refl
verb_bytes Take = refl
verb_bytes Build = refl
verb_bytes Status = refl
verb_bytes Plan = refl
verb_bytes Start = refl
verb_bytes Finish = refl
verb_bytes Fail = refl
verb_bytes Forget = refl

verb_read : (verb : Verb) → verb_in Service (word_of verb) ≡ Some verb
verb_read Source = refl
verb_read Derivation = refl
verb_read Offer = refl
verb_read Fetch = refl
verb_read Trust = refl
verb_read Distrust = refl
verb_read Pin = refl
verb_read Unpin = refl
verb_read Closure = refl
verb_read Take = refl
verb_read Build = refl
verb_read Status = refl
verb_read Plan = refl
verb_read Start = refl
verb_read Finish = refl
verb_read Fail = refl
verb_read Forget = refl

some_kinds : (v : Verb) → length (kinds_of v) ≡ 0 → ⊥
some_kinds Source is = omega (arith, is)
some_kinds Derivation is = omega (arith, is)
some_kinds Offer is = omega (arith, is)
some_kinds Fetch is = omega (arith, is)
some_kinds Trust is = omega (arith, is)
some_kinds Distrust is = omega (arith, is)
some_kinds Pin is = omega (arith, is)
some_kinds Unpin is = omega (arith, is)
some_kinds Closure is = omega (arith, is)
some_kinds Take is = omega (arith, is)
some_kinds Build is = omega (arith, is)
some_kinds Status is = omega (arith, is)
some_kinds Plan is = omega (arith, is)
some_kinds Start is = omega (arith, is)
some_kinds Finish is = omega (arith, is)
some_kinds Fail is = omega (arith, is)
some_kinds Forget is = omega (arith, is)

-- ---- lines

loud_byte : (b : ℕ) → is_lower_case b ≡ true → (b == 35) ≡ false
loud_byte b is = grind (arith, nat_tests)

-- a line that begins with a user's name gets a reply
loud : (actor rest : List ℕ) → is_user_name actor ≡ true → is_quiet (actor ++ rest) ≡ false
unfolding is_user_name
loud [] rest is = absurd (cc is)
loud (b ∷ actor) rest is = loud_byte b (and_parts (is_lower_case b) _ is).0

module _ (told : List LineResult) (actor : List ℕ) (verb : Verb) (acts : may_act actor ≡ true) where
  named : is_user_name actor ≡ true
  named = (and_parts (is_user_name actor) (not (bytes_eq actor (codes "users"))) acts).0

  no_users : bytes_eq actor (codes "users") ≡ false
  no_users = not_from (bytes_eq actor (codes "users")) (and_parts (is_user_name actor) (not (bytes_eq actor (codes "users"))) acts).1

  bytes : are_word_bytes actor ≡ true
  bytes = word_bytes actor (user_word actor named)

  pub line_printable : (text : List ℕ) → list_all is_printable text ≡ true → list_all is_printable (line_with actor verb text) ≡ true
  line_printable text is =
      let front = all_printable actor bytes in
      let middle = all_printable (word_of verb) (verb_bytes verb) in
      let behind : list_all is_printable (word_of verb ++ (32 ∷ text)) ≡ true =
      list_all-append is_printable (word_of verb) (32 ∷ text) ∙ and_from (list_all is_printable (word_of verb)) (list_all is_printable text) middle is in
      list_all-append is_printable actor (32 ∷ (word_of verb ++ (32 ∷ text)))
      ∙ and_from (list_all is_printable actor) (list_all is_printable (word_of verb ++ (32 ∷ text))) front behind

  line_unexpanded : (text : List ℕ) → has_expansion text ≡ false → has_expansion (line_with actor verb text) ≡ false
  line_unexpanded text is =
      let inner = behind_plain (word_of verb) (32 ∷ text) (word_braces (word_of verb) (verb_bytes verb)) (behind_plain (32 ∷ []) text refl is) in
      behind_plain actor (32 ∷ (word_of verb ++ (32 ∷ text))) (word_braces actor bytes) (behind_plain (32 ∷ []) (word_of verb ++ (32 ∷ text)) refl inner)

  -- a user, a verb and a text of its words are read as that command
  pub line_read : (text : List ℕ) (words : List (List ℕ)) → list_all is_printable text ≡ true → has_expansion text ≡ false
      → length (line_with actor verb text) ≤ longest_line → words_by (kinds_of verb) text ≡ Some words
      → parsed_line Service true told (line_with actor verb text) ≡ parsed.Asks actor (record { verb = verb; words = words })
  line_read text words is unexpanded fits gives =
      let line = line_with actor verb text in
      let rest = word_of verb ++ (32 ∷ text) in
      let long : nat_lt longest_line (length line) ≡ false = grind (arith, nat_tests, fits) in
      let shown = line_printable text is in
      let is_loud = loud actor (32 ∷ rest) named in
      let fill : filled told line ≡ Some line = filled_same told line (line_unexpanded text unexpanded) in
      let cut : cut_at 32 line ≡ Some (actor, rest) = cut_word actor rest bytes in
      let cut_verb : cut_at 32 rest ≡ Some (word_of verb, text) = cut_word (word_of verb) text (verb_bytes verb) in
      let command : command_in Service rest ≡ Some (record { verb = verb; words = words }) =
      ap (option_and_then (λ (r : List ℕ × List ℕ). option_and_then (command_by r.1) (verb_in Service r.0))) cut_verb
      ∙ ap (option_and_then (command_by text)) (verb_read verb)
      ∙ ap (option_map (λ ws. record { verb = verb; words = ws })) gives in
      let begun : parsed_line Service true told line ≡ parsed_text Service true (filled told line) = rw (long, is_loud, shown) refl in
      let later : parsed_later Service line (Some (actor, rest)) ≡ parsed_command actor (command_in Service rest) = rw no_users refl in
      begun ∙ ap (parsed_text Service true) fill ∙ ap (parsed_later Service line) cut ∙ later ∙ ap (parsed_command actor) command

  -- ---- words

  so_many_words : (words : List (List ℕ)) (count : ℕ) → length words ≡ count → are_words words ≡ true → so_many count words ≡ Some words
  so_many_words words count counts are =
      let counted : (length words == count) ≡ true = grind (arith, nat_tests, counts) in
      rw (none_empty words are, counted) refl

  words_same : (words : List (List ℕ)) → is_rest_of_line (kinds_of verb) ≡ false → length words ≡ length (kinds_of verb) → are_words words ≡ true
      → words_by (kinds_of verb) (joined words) ≡ Some words
  words_same [] several counts are = absurd (some_kinds verb (sym counts))
  words_same (word ∷ words) several counts are =
      rw several (ap (so_many (length (kinds_of verb))) (split_joined word words are) ∙ so_many_words (word ∷ words) (length (kinds_of verb)) counts are)

  pub words_read : (words : List (List ℕ)) → is_rest_of_line (kinds_of verb) ≡ false → length words ≡ length (kinds_of verb) → are_words words ≡ true
      → length (line_with actor verb (joined words)) ≤ longest_line
      → parsed_line Service true told (line_with actor verb (joined words)) ≡ parsed.Asks actor (record { verb = verb; words = words })
  words_read words several counts are fits =
      line_read (joined words) words (joined_printable words are) (plain (joined words) (joined_braces words are)) fits (words_same words several counts are)

  pub words_printable : (words : List (List ℕ)) → are_words words ≡ true → list_all is_printable (line_with actor verb (joined words)) ≡ true
  words_printable words are = line_printable (joined words) (joined_printable words are)

  pub text_read : (text : List ℕ) → is_rest_of_line (kinds_of verb) ≡ true → list_all is_printable text ≡ true → has_expansion text ≡ false
      → length (line_with actor verb text) ≤ longest_line
      → parsed_line Service true told (line_with actor verb text) ≡ parsed.Asks actor (record { verb = verb; words = text ∷ [] })
  text_read text rest_is is unexpanded fits = line_read text (text ∷ []) is unexpanded fits (rw rest_is refl)
