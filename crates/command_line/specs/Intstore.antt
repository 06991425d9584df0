-- The command `intstore`, in the words that `clap` has for a command: what is read of its subcommands and
-- of their arguments. Texts of help are no part of it.
use Rattle.std.specs.Prelude.{ℕ, codes, List, [], ◌∷◌, true, Some}
use Rattle.clap.specs.Walk.{Rule}
use Rattle.clap.specs.Simple.{App, Shape, new_app, new_rule, on_top, with_rule, with_subcommand}
use Rattle.clap.specs.declared.builder.action.ArgAction.TheVariants.{Set, SetTrue}
use Rattle.clap.specs.declared.builder.value_parser.ValueParser.TheVariants as parser
use Rattle.model.specs.Limits.{most_files, most_workers, most_charge}

-- `--charge N`: a number from 1 to 1,073,741,824, and the latter where the option is left out
abbrev pub charge_rule : Rule
charge_rule = record (new_rule (codes "charge")) {
  long = Some (codes "charge");
  action = Some Set;
  value_names = 1;
  parser = Some (parser.Unsigned 1 most_charge);
  defaults = codes "1073741824" ∷ [];
}

-- `FILE`
abbrev pub file_rule : Rule
file_rule = record (new_rule (codes "file")) {
  action = Some Set;
  value_names = 1;
  required = true;
}

-- `FILE..`: one to eight of them, with no option in between
abbrev pub files_rule : Rule
files_rule = record (new_rule (codes "files")) {
  action = Some Set;
  range = Some (record { start_inclusive = 1; end_inclusive = most_files });
  value_names = 1;
  required = true;
}

-- `--user U`
abbrev pub user_rule : Rule
user_rule = record (new_rule (codes "user")) {
  long = Some (codes "user");
  action = Some Set;
  value_names = 1;
  required = true;
}

-- `--timed`
abbrev pub timed_rule : Rule
timed_rule = record (new_rule (codes "timed")) {
  long = Some (codes "timed");
  action = Some SetTrue;
}

-- `--sweep`
abbrev pub sweep_rule : Rule
sweep_rule = record (new_rule (codes "sweep")) {
  long = Some (codes "sweep");
  action = Some SetTrue;
}

-- `--explain`
abbrev pub explain_rule : Rule
explain_rule = record (new_rule (codes "explain")) {
  long = Some (codes "explain");
  action = Some SetTrue;
}

-- `--workers N`: a number from 1 to 7
abbrev pub workers_rule : Rule
workers_rule = record (new_rule (codes "workers")) {
  long = Some (codes "workers");
  action = Some Set;
  value_names = 1;
  parser = Some (parser.Unsigned 1 most_workers);
  required = true;
}

-- `--builders DIR`: not empty, and the current folder where the option is left out
abbrev pub builders_rule : Rule
builders_rule = record (new_rule (codes "builders")) {
  long = Some (codes "builders");
  action = Some Set;
  value_names = 1;
  parser = Some parser.NonEmptyString;
  defaults = codes "." ∷ [];
}

-- `--work DIR`: not empty, and the current folder where the option is left out
abbrev pub work_rule : Rule
work_rule = record (new_rule (codes "work")) {
  long = Some (codes "work");
  action = Some Set;
  value_names = 1;
  parser = Some parser.NonEmptyString;
  defaults = codes "." ∷ [];
}

-- `--logs DIR`: not empty
abbrev pub logs_rule : Rule
logs_rule = record (new_rule (codes "logs")) {
  long = Some (codes "logs");
  action = Some Set;
  value_names = 1;
  parser = Some parser.NonEmptyString;
}

-- `--launcher PROGRAM`: not empty
abbrev pub launcher_rule : Rule
launcher_rule = record (new_rule (codes "launcher")) {
  long = Some (codes "launcher");
  action = Some Set;
  value_names = 1;
  parser = Some parser.NonEmptyString;
}

-- the most seconds that a builder may be kept to: 365 days
abbrev pub longest_limit : ℕ
longest_limit = 31536000

-- `--limit SECONDS`: a number from 1 to 31,536,000
abbrev pub limit_rule : Rule
limit_rule = record (new_rule (codes "limit")) {
  long = Some (codes "limit");
  action = Some Set;
  value_names = 1;
  parser = Some (parser.Unsigned 1 longest_limit);
}

-- `--verbose`
abbrev pub verbose_rule : Rule
verbose_rule = record (new_rule (codes "verbose")) {
  long = Some (codes "verbose");
  action = Some SetTrue;
}

-- the command with these arguments as well
abbrev pub with_rules : App → List Rule → App
with_rules a [] = a
with_rules a (r ∷ rs) = with_rules (with_rule a r) rs

-- `replay [--sweep] [--explain] [--charge N] FILE`
abbrev pub replay : App
replay = with_rules (new_app (codes "replay")) (sweep_rule ∷ explain_rule ∷ charge_rule ∷ file_rule ∷ [])

-- `strike --user U [--timed] [--charge N] FILE`
abbrev pub strike : App
strike = with_rules (new_app (codes "strike")) (user_rule ∷ timed_rule ∷ charge_rule ∷ file_rule ∷ [])

-- `run --workers N [--builders DIR] [--work DIR] [--logs DIR] [--launcher PROGRAM] [--limit SECONDS] [--sweep] [--charge N]
-- [--verbose] FILE..`
abbrev pub run : App
run = with_rules (new_app (codes "run")) (workers_rule ∷ builders_rule ∷ work_rule ∷ logs_rule ∷ launcher_rule ∷ limit_rule
    ∷ sweep_rule ∷ charge_rule ∷ verbose_rule ∷ files_rule ∷ [])

-- it has a version, and does nothing without a subcommand
abbrev pub needs_subcommand : Shape → Shape
needs_subcommand s = record s { has_version = true; subcommand_required = true }

-- the command with these subcommands as well
abbrev pub with_subcommands : App → List App → App
with_subcommands a [] = a
with_subcommands a (sub ∷ subs) = with_subcommands (with_subcommand a sub.top) subs

-- the subcommands
abbrev pub subcommands : List App
subcommands = replay ∷ strike ∷ run ∷ []

-- the command, of which one of its subcommands is to be named
abbrev pub intstore : App
intstore = with_subcommands (on_top needs_subcommand (new_app (codes "intstore"))) subcommands
