-- What the words of a command line ask for.
use Rattle.std.specs.Prelude.{◌≡◌, ◌≤◌, ◌<◌, ◌⊎◌, ◌∷◌, ◌++◌, ℕ, Bool, true, false, List, [], Option, Some, None}
use Rattle.std.specs.Prelude.{Result, MatchResult, codes, length, map, option_map, string_bytes}
use Rattle.std.specs.Char.{is_not_whitespace, is_whitespace}
use Rattle.std.specs.Str.{EmptyOrStartsWithPassing, NoCharPasses}
use Rattle.std.specs.Str.Parse.{IsNumeral, digits_value, without_leading_plus}
use Rattle.model.specs.Limits.{most_charge}
use Rattle.clap.specs.Kinds.{HasKind}
use Rattle.clap.specs.Matches.{found_of}
use Rattle.clap.specs.Values.{kind_of}
use Rattle.clap.specs.Walk.{Row, Text, all_of, first_of, one_of, rows_of}
use Rattle.clap.specs.Simple.{subcommand_of}
use Rattle.clap.specs.Faults.{fault_of}
use Rattle.clap.specs.declared.error.Error.{Error}
use Rattle.clap.specs.declared.error.kind.ErrorKind.TheVariants.{MissingRequiredArgument}
use Rattle.clap.specs.declared.parser.matches.ArgMatches.{ArgMatches}
use Rattle.command_line.specs.Intstore.{intstore, longest_limit}
use Rattle.model.specs.Limits.{most_files, most_workers}
use Rattle.command_line.specs.declared.settings.Action.{Action}
use Rattle.command_line.specs.declared.settings.Action.TheVariants as action
use Rattle.command_line.specs.declared.settings.Options.{Options}
use Rattle.command_line.specs.declared.settings.Run.{Run}

-- the number that the digits of a text make
abbrev pub number_of : Text → ℕ
number_of text = digits_value 10 (without_leading_plus text)

-- the text is a number that may limit the charge
abbrev pub IsCharge : Text → Type 0
IsCharge text =
    IsNumeral 10 (without_leading_plus text) × (1 ≤ number_of text) × (number_of text ≤ most_charge)

-- the limit is the number of the text where it may limit the charge, and else the largest
abbrev pub IsChargeOf : Option Text → ℕ → Type 0
IsChargeOf None charge = charge ≡ most_charge
IsChargeOf (Some text) charge =
    (IsCharge text → charge ≡ number_of text) × (¬ IsCharge text → charge ≡ most_charge)

-- there is a text, and it is a number from 1 to 7: this one
abbrev pub IsWorkersOf : Option Text → ℕ → Type 0
IsWorkersOf None workers = ⊥
IsWorkersOf (Some text) workers = IsNumeral 10 (without_leading_plus text)
    × (number_of text ≡ workers) × (1 ≤ workers) × (workers ≤ most_workers)

-- the text is a number of seconds that a builder may be kept to
abbrev pub IsLimit : Text → Type 0
IsLimit text =
    IsNumeral 10 (without_leading_plus text) × (1 ≤ number_of text) × (number_of text ≤ longest_limit)

-- the limit is the number of the text where that is one, and else there is none
abbrev pub IsLimitOf : Option Text → Option ℕ → Type 0
IsLimitOf None limit = limit ≡ None
IsLimitOf (Some text) limit =
    (IsLimit text → limit ≡ Some (number_of text)) × (¬ IsLimit text → limit ≡ None)

-- a text is white space, one of these words, and what is left, which is empty or begins with white space
pub record BeginsWithWord (text word rest : Text) : Type 0 where
  pub gap : Text
  pub later : List ℕ
  pub is : text ≡ gap ++ (word ++ rest)
  pub is_word : 0 < length word
  pub is_gap : NoCharPasses is_not_whitespace gap
  pub is_whole : NoCharPasses is_whitespace word
  pub ends : EmptyOrStartsWithPassing is_whitespace rest later

-- these are the first words of a text, and this is what is left of it
abbrev pub AreFirstWords : Text → List Text → Text → Type 0
AreFirstWords text [] rest = rest ≡ text
AreFirstWords text (word ∷ words) rest = (between : Text) × BeginsWithWord text word between × AreFirstWords between words rest

-- these are the words of a text, with white space between them
abbrev pub AreWordsOf : Text → List Text → Type 0
AreWordsOf text words = (rest : Text) × AreFirstWords text words rest × NoCharPasses is_not_whitespace rest

-- the launcher has the words of the text; one without words is the text itself, and names no program; and there is none
-- where there is no text
abbrev pub IsLauncherOf : Option Text → List Text → Type 0
IsLauncherOf None launcher = launcher ≡ []
IsLauncherOf (Some text) launcher =
    (AreWordsOf text launcher × (0 < length launcher)) ⊎ (AreWordsOf text [] × (launcher ≡ text ∷ []))

-- the flag is set where its text is `true`, and not where that is `false` or where it has none
abbrev pub IsFlagOf : Option Text → Bool → Type 0
IsFlagOf text flag = (text ≡ Some (codes "true") → flag ≡ true)
    × (text ≡ Some (codes "false") → flag ≡ false) × (text ≡ None → flag ≡ false)

-- what the matches of a command hold for its own arguments
abbrev pub rows_in : ArgMatches → List Row
rows_in m = rows_of (found_of m)

-- the texts are what the matches hold for FILE: one to eight
abbrev pub AreFilesOf : List Row → List Text → Type 0
AreFilesOf rows files =
    (all_of (codes "files") rows ≡ Some files) × (1 ≤ length files) × (length files ≤ most_files)

-- the run is the one that the matches name: each of its parts is what they hold for its argument
abbrev pub IsRunOf : List Row → Run → Type 0
IsRunOf rows run = IsWorkersOf (one_of (codes "workers") rows) run.workers
    × (first_of (codes "builders") rows ≡ Some (string_bytes run.builders))
    × (first_of (codes "work") rows ≡ Some (string_bytes run.work))
    × (first_of (codes "logs") rows ≡ option_map string_bytes run.logs)
    × IsLauncherOf (first_of (codes "launcher") rows) (map string_bytes run.launcher.items)
    × IsLimitOf (one_of (codes "limit") rows) run.limit
    × IsFlagOf (one_of (codes "sweep") rows) run.sweep
    × IsFlagOf (one_of (codes "verbose") rows) run.verbose
    × AreFilesOf rows (map string_bytes run.files.items)

-- the action is that of the subcommand with this name, for what its matches name
abbrev pub IsActionOf : Text → List Row → Action → Type 0
IsActionOf name rows (action.Replay sweep explain file) =
    (name ≡ codes "replay") × IsFlagOf (one_of (codes "sweep") rows) sweep
    × IsFlagOf (one_of (codes "explain") rows) explain
    × (first_of (codes "file") rows ≡ Some (string_bytes file))
IsActionOf name rows (action.Strike user timed file) =
    (name ≡ codes "strike") × (first_of (codes "user") rows ≡ Some (string_bytes user))
    × IsFlagOf (one_of (codes "timed") rows) timed
    × (first_of (codes "file") rows ≡ Some (string_bytes file))
IsActionOf name rows (action.Run run) = (name ≡ codes "run") × IsRunOf rows run

-- the options are those of the subcommand with this name and these matches
abbrev pub AreOptionsOf : Text → List Row → Options → Type 0
AreOptionsOf name rows o =
    IsActionOf name rows o.action × IsChargeOf (one_of (codes "charge") rows) o.charge

-- the options are those of the subcommand that was met
abbrev pub AskFor : Option (Text × List Row) → Options → Type 0
AskFor None o = ⊥
AskFor (Some p) o = AreOptionsOf p.0 p.1 o

-- the error says that an argument is missing, of words with no fault that ask for nothing
abbrev pub IsMissing : List Text → Error → Type 0
IsMissing words e = (kind_of e ≡ MissingRequiredArgument) × (fault_of intstore words ≡ [])
    × ((o : Options) → ¬ AskFor (subcommand_of intstore words) o)

-- the answer is the options that the words ask for where `intstore` takes the words, and else an error of
-- a kind that `clap` has for them, for an argument that is missing, or for want of memory
abbrev pub AnswersWords : List Text → Result Options Error → Type 0
AnswersWords words = λ r. MatchResult r
    (λ o. (fault_of intstore words ≡ []) × AskFor (subcommand_of intstore words) o)
    (λ e. HasKind (fault_of intstore words) e ⊎ IsMissing words e)
