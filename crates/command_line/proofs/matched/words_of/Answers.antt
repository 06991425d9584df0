use Rattle.std.proofs.Common.{◌≡◌, ◌∙◌, ◌∷◌, ◌++◌, [], ap, map, subst, sym, ℕ, List}
use Rattle.std.specs.Prelude.{string_bytes}
use Rattle.std.proofs.lemmas.List.{map-append}
use Rattle.std.specs.Str.Iter.{split_whitespace_rest}
use Rattle.command_line.specs.Named.{AreFirstWords, BeginsWithWord}
use Rattle.command_line.proofs.CommandLemmas.{one_more_word}
use Rattle.command_line.proofs.matched.words_of.Goals as goal

pub loop-word-preserved : goal.loop-word-preserved
loop-word-preserved c =
    let text = c.args.text.now in
    let word = c.in-Some.word.now in
    let between = split_whitespace_rest c.loop-word.word-iterator in
    let rest = split_whitespace_rest c.next.new.self in
    let step = c.in-Some.ensures.steps in
    let begins : BeginsWithWord between word rest = record {
      gap = step.0;
      later = step.5.0;
      is = step.1;
      is_word = step.2;
      is_gap = step.3;
      is_whole = step.4;
      ends = step.5.1;
    } in
    let words : map string_bytes c.push.new.self.items ≡ map string_bytes c.loop-word.words.items ++ word ∷ [] =
    ap (map string_bytes) c.in_ok-push.ensures.items ∙ map-append string_bytes c.loop-word.words.items (c.in_ok-from_str.field-0 ∷ [])
    ∙ ap (λ (t : List ℕ). map string_bytes c.loop-word.words.items ++ t ∷ []) c.in_ok-from_str.ensures.ok in
    subst (λ ws. AreFirstWords text ws rest) (sym words) (one_more_word text word (map string_bytes c.loop-word.words.items) between rest c.loop-word.invariant begins)
