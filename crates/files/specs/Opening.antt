-- What comes of the files that a command line names.
use Rattle.std.specs.Prelude.{◌≡◌, ◌⊎◌, ℕ, List, [], ◌∷◌, ◌++◌, length, map, option_map, All, string_bytes}
use Rattle.std.specs.Path.{path_buf_bytes}
use Rattle.model.specs.declared.refusal.Refusal.TheVariants.{InputFault, Memory}
use Rattle.command_line.specs.declared.settings.Run.{Run}
use Rattle.session.specs.declared.counted.Counted.{Counted}
use Rattle.builder.specs.declared.preparing.Folders.{Folders}
use Rattle.builder.specs.declared.preparing.Settings.{Settings}
use Rattle.builder.specs.declared.processes.ProcessRunner.{ProcessRunner}
use Rattle.builder.specs.Launching.{limit_words}
use Rattle.messages.specs.declared.narrator.Narrator.{Narrator}
use Rattle.files.specs.declared.opening.Opened.{Opened}
use Rattle.files.specs.declared.opening.Refused.{Refused}

-- these are the folders that the options name
abbrev pub AreFoldersOf : Run → Folders → Type 0
AreFoldersOf run folders =
    (path_buf_bytes folders.builders ≡ string_bytes run.builders) × (path_buf_bytes folders.work ≡ string_bytes run.work)
    × (option_map path_buf_bytes folders.logs ≡ option_map string_bytes run.logs)

-- builders are started in these folders, and through the launcher that the options name, which keeps them to the limit
abbrev pub AreSettingsOf : Run → Settings → Type 0
AreSettingsOf run settings = AreFoldersOf run settings.folders
    × (map string_bytes settings.launcher.items ≡ limit_words run.limit ++ map string_bytes run.launcher.items)

-- a runner builds as the options ask, and says what it does where they ask for that
abbrev pub BuildsIn : {H O : Type 0} → Run → Narrator H (ProcessRunner O) → Type 0
BuildsIn run runner = AreSettingsOf run runner.runner.settings × (runner.is_verbose ≡ run.verbose)

-- there is one for each worker that the options ask for, and each does
abbrev pub AreRunners : {H O : Type 0} → Run → List (Narrator H (ProcessRunner O)) → Type 0
AreRunners run runners = All (BuildsIn run) runners × (length runners ≡ run.workers)

module _ {I Q : Type 0} (opened : List ℕ → I → Type 0) (made : Run → List Q → Type 0) (run : Run) where
  -- the file of that name is open, with runners as the options ask
  pub record IsOpened (name : List ℕ) (file : Opened I Q) : Type 0 where
    pub name_is : file.name.now ≡ name
    pub reader : opened name file.reader
    pub runners : made run file.runners.items
    pub sweeps : file.sweeps ≡ run.sweep

  -- the files of these names are, in their order
  abbrev pub AreOpened : List (List ℕ) → List (Opened I Q) → Type 0
  AreOpened [] [] = Unit {0}
  AreOpened (name ∷ names) (file ∷ files) = IsOpened name file × AreOpened names files
  AreOpened names files = ⊥

-- the file of that name could not be opened, or memory was refused
abbrev pub CannotOpen : (List ℕ → Type 0) → List ℕ → Refused → Type 0
CannotOpen missing name refused =
    (refused.why ≡ Memory) ⊎ ((refused.why ≡ InputFault) × (refused.name.now ≡ name) × missing name)

module _ {I Q : Type 0} (opened : List ℕ → I → Type 0) (made : Run → List Q → Type 0) (run : Run) (missing : List ℕ → Type 0) where
  -- that is the name of the first of these files that could not be opened: those of the names before it are open
  pub record IsFirstUnopened (names : List (List ℕ)) (refused : Refused) : Type 0 where
    pub before : List (List ℕ)
    pub behind : List (List ℕ)
    pub names_are : names ≡ before ++ refused.name.now ∷ behind
    pub files : List (Opened I Q)
    pub opened_before : AreOpened opened made run before files
    pub missing_is : missing refused.name.now

  -- the files of these names are not all open: the first that could not be opened is told, or memory was refused
  abbrev pub AreUnopened : List (List ℕ) → Refused → Type 0
  AreUnopened names refused = (refused.why ≡ Memory) ⊎ ((refused.why ≡ InputFault) × IsFirstUnopened names refused)

-- a reader that has not failed
abbrev pub HasNotFailed : {T : Type 0} → Counted T → Type 0
HasNotFailed counted = counted.failures ≡ 0
