-- What the steps that build the command make of it, and what its matches say.
use Rattle.std.proofs.Common.{◌≡◌, ◌≤◌, ◌∙◌, ◌||◌, ◌∷◌, ◌++◌, [], ap, ap₂, inl, length, map, refl, subst, sym, true, List, Option, Some, None, Result, Ok, Err, option_map}
use Rattle.std.specs.Prelude.{codes, unwrap_or}
use Rattle.std.specs.Borrow.{Bor}
use Rattle.std.specs.Result.{IsErrAnd}
use Rattle.std.proofs.lemmas.List.{length-map}
use Rattle.clap.specs.Built.{AddsArg, AddsInTurn, AddsSubcommand}
use Rattle.clap.specs.Matches.{found_of, matched_of, raw_values}
use Rattle.clap.specs.Simple.{App, HasMatchesOf, subcommand_of, subcommand_rows_of, with_rule, with_subcommand}
use Rattle.clap.specs.Walk.{Row, Rule, Text, all_of, texts}
use Rattle.clap.proofs.WalkLemmas.{raw_values-rows}
use Rattle.clap.specs.declared.builder.arg.Arg.{Arg}
use Rattle.clap.specs.declared.builder.command.Command.{Command}
use Rattle.clap.specs.declared.parser.matches.ArgMatches.{ArgMatches}
use Rattle.clap.specs.Faults.{fault_of, is_simple_and_free}
use Rattle.clap.specs.Kinds.{HasKind, Kinds}
use Rattle.clap.specs.declared.error.Error.{Error}
use Rattle.command_line.specs.Intstore.{intstore, with_rules, with_subcommands}
use Rattle.model.specs.Limits.{most_files}
use Rattle.command_line.specs.Named.{AnswersWords, AreFilesOf, AreFirstWords, AskFor, BeginsWithWord, rows_in}
use Rattle.command_line.specs.declared.settings.Options.{Options}
use Rattle.command_line.specs.Steps.{AreArguments, AreCommands, IsArgument, IsCommand, IsFound}

-- one more argument
argument_added : (above : App) (rule : Rule) (old : Command) (a : Arg) (new : Command) → IsCommand above old → IsArgument rule a
    → AddsArg old a new → IsCommand (with_rule above rule) new
argument_added above rule old a new is_old is_a added = (
  added.shape is_a.1 ∙ ap₂ with_rule is_old.0 is_a.0,
  added.globals ∙ ap₂ (λ x y. x || y) is_old.1 is_a.1,
)

-- and all of them
pub arguments_added : (above : App) (rules : List Rule) (old new : Command) (args : List Arg) → IsCommand above old → AreArguments rules args
    → AddsInTurn AddsArg old args new → IsCommand (with_rules above rules) new
arguments_added above [] old new [] is_old are added = subst (IsCommand above) added is_old
arguments_added above [] old new (a ∷ args) is_old are added = absurd are
arguments_added above (rule ∷ rules) old new [] is_old are added = absurd are
arguments_added above (rule ∷ rules) old new (a ∷ args) is_old are added =
    let one = argument_added above rule old a added.0 is_old are.0 added.1 in
    arguments_added (with_rule above rule) rules added.0 new args one are.1 added.2

-- one more subcommand
subcommand_added : (above sub : App) (old c new : Command) → IsCommand above old → IsCommand sub c
    → AddsSubcommand old c new → IsCommand (with_subcommand above sub.top) new
subcommand_added above sub old c new is_old is_c added = (
  added.shape is_c.1 ∙ ap₂ with_subcommand is_old.0 (ap (λ (a : App). a.top) is_c.0),
  added.globals ∙ ap₂ (λ x y. x || y) is_old.1 is_c.1,
)

-- and all of them
pub subcommands_added : (above : App) (subs : List App) (old new : Command) (cs : List Command) → IsCommand above old → AreCommands subs cs
    → AddsInTurn AddsSubcommand old cs new → IsCommand (with_subcommands above subs) new
subcommands_added above [] old new [] is_old are added = subst (IsCommand above) added is_old
subcommands_added above [] old new (c ∷ cs) is_old are added = absurd are
subcommands_added above (sub ∷ subs) old new [] is_old are added = absurd are
subcommands_added above (sub ∷ subs) old new (c ∷ cs) is_old are added =
    let one = subcommand_added above sub old c added.0 is_old are.0 added.1 in
    subcommands_added (with_subcommand above sub.top) subs added.0 new cs one are.1 added.2

-- `clap` says of `intstore` what its matches are, and which faults words have
intstore_simple : is_simple_and_free intstore ≡ true
intstore_simple = refl

-- the kinds of fault of the words are those of `intstore`
pub fault_of_intstore : (P : Kinds → Type 0) (a : App) (words : List Text) → a ≡ intstore → (is_simple_and_free a ≡ true → P (fault_of a words))
    → P (fault_of intstore words)
fault_of_intstore P a words is fails = subst (λ x. (is_simple_and_free x ≡ true → P (fault_of x words))) is fails intstore_simple

-- an error of one of these kinds is an answer
pub refused : (words : List Text) (r : Result Options Error) (e : Error) → IsErrAnd r (λ x. x ≡ e) → HasKind (fault_of intstore words) e
    → AnswersWords words r
refused words (Ok o) e is kind = absurd is
refused words (Err x) e is kind = inl (subst (HasKind (fault_of intstore words)) (sym is) kind)

-- what the matches ask for is what the words ask `intstore` for
pub asked_of_intstore : (a : App) (words : List Text) (m : ArgMatches) (o : Option Options) → a ≡ intstore → HasMatchesOf a words m
    → IsFound (AskFor (subcommand_rows_of m)) o → IsFound (AskFor (subcommand_of intstore words)) o
asked_of_intstore a words m o is has asked =
    let met : subcommand_rows_of m ≡ subcommand_of intstore words = (subst (λ x. HasMatchesOf x words m) is has refl).1 in
    subst (λ t. IsFound (AskFor t) o) met asked

-- what the matches hold for FILE
pub files_held : (m : ArgMatches) (held : Option (Bor (List (Bor Text))))
    → option_map (λ s. map (λ v. v.now) s.now) held ≡ option_map raw_values (matched_of (found_of m) (codes "files"))
    → option_map (λ s. texts s.now) held ≡ all_of (codes "files") (rows_in m)
files_held m held same = same ∙ raw_values-rows (found_of m) (codes "files")

-- as many texts as the matches hold
pub files_counted : (rows : List Row) (words : List (Bor Text)) (files : List Text) → Some (texts words) ≡ all_of (codes "files") rows
    → AreFilesOf rows files → (1 ≤ length words) × (length words ≤ most_files)
files_counted rows words files held are =
    let same : files ≡ texts words = ap (λ o. unwrap_or o []) (sym are.0 ∙ sym held) in
    let counted : length files ≡ length words = ap length same ∙ length-map words (λ s. s.now) in
    subst (λ n. (1 ≤ n) × (n ≤ most_files)) counted (are.1, are.2)

pub files_are : (rows : List Row) (words : List (Bor Text)) (files : List Text) → Some (texts words) ≡ all_of (codes "files") rows
    → files ≡ texts words → 1 ≤ length words → length words ≤ most_files → AreFilesOf rows files
files_are rows words files held same least most =
    let counted : length words ≡ length files = sym (ap length same ∙ length-map words (λ s. s.now)) in
    let within = subst (λ n. (1 ≤ n) × (n ≤ most_files)) counted (least, most) in
    (sym held ∙ ap Some (sym same), within.0, within.1)

pub files_missing : (rows : List Row) (files : List Text) → None ≡ all_of (codes "files") rows → AreFilesOf rows files → ⊥
files_missing rows files none are =
    let bad : None ≡ Some files = none ∙ are.0 in
    cc

-- one more word
pub one_more_word : (text word : Text) (words : List Text) (between rest : Text) → AreFirstWords text words between → BeginsWithWord between word rest
    → AreFirstWords text (words ++ word ∷ []) rest
one_more_word text word [] between rest are begins = (rest, subst (λ t. BeginsWithWord t word rest) are begins, refl)
one_more_word text word (w ∷ words) between rest are begins = (are.0, are.1, one_more_word are.0 word words between rest are.2 begins)
