use Rattle.std.proofs.Common.{rules, List, ℕ, map, string_bytes, inl, subst}
use Rattle.std.specs.List.{join_with_byte}
use Rattle.std.proofs.lemmas.Result.{MatchResult-weaker}
use Rattle.nb.specs.Outcomes.{WritesFile}
use Rattle.nb.specs.Tasks.{Asks}
use Rattle.nb.specs.declared.task.Task.TheVariants.{Text}
use Rattle.nb.proofs.WordLemmas.{words_behind}
use Rattle.nb.proofs.outcome.outcome_of.Goals as goal

pub returns-in-Some-Text : goal.returns-in-Some-Text
returns-in-Some-Text c =
    let words = map string_bytes c.args.arguments.now in
    let asks : Asks words Text = subst (Asks words) c.in-Some-Text.field-0-is (search rules) in
    MatchResult-weaker c.file_of_words.result c.file_of_words.ensures
    (λ o given.
    let Given : List (List ℕ) → Type 0 = λ others. WritesFile (join_with_byte 32 others) o in
    inl (Text, asks, subst Given (words_behind c.args.arguments.now) given))
    (λ why h. h)
