-- What a runner gives for a job.
use Rattle.std.specs.Prelude.{◌≡◌, ◌⊎◌, ℕ, true, false, List, Option, map, option_map, string_bytes, Result, Err}
use Rattle.std.specs.Path.{path_buf_bytes}
use Rattle.model.specs.Derivations.{Derivation, IsDerivation, derivation_text, HasNoDerivation}
use Rattle.model.specs.Worlds.{Job, is_user_name}
use Rattle.model.specs.Goals.{Running}
use Rattle.builder.specs.declared.fault.Fault.{Fault}
use Rattle.builder.specs.declared.fault.Fault.TheVariants.{NotStarted, Memory}
use Rattle.builder.specs.declared.preparing.Folders.{Folders}
use Rattle.builder.specs.declared.preparing.Prepared.{Prepared}
use Rattle.builder.specs.declared.preparing.Settings.{Settings}
use Rattle.builder.specs.Commands.{builder_path, inputs_path, log_path}
use Rattle.builder.specs.Launching.{IsLaunchedBy, is_mistaken}
use Rattle.builder.specs.Steps.{Steps}
use Rattle.builder.specs.Running.{RunsInFolder, log_name}

-- the words of the launcher, none where builders are started by themselves
abbrev pub launcher_of : Settings → List (List ℕ)
launcher_of settings = map string_bytes settings.launcher.items

-- the path of the builder of a derivation
abbrev pub builder_in : Settings → Derivation → List ℕ
builder_in settings d = builder_path (path_buf_bytes settings.folders.builders) d

-- the launcher would mistake the path of the job's builder
pub record IsMistaken (settings : Settings) (job : Running) : Type 0 where
  pub derivation : Derivation
  pub is : IsDerivation derivation
  pub text : derivation_text derivation ≡ job.resolved.text
  pub mistaken : is_mistaken (launcher_of settings) (builder_in settings derivation) ≡ true

-- a job for which nothing can be started: no derivation has its text, its leader has no user's name, or the launcher would
-- mistake its builder
abbrev pub IsUnusable : Settings → Running → Type 0
IsUnusable settings job = HasNoDerivation job.resolved.text ⊎ (is_user_name job.job.leader ≡ false) ⊎ IsMistaken settings job

-- the name of a job's log in the folders of a runner, if one is kept
abbrev pub log_path_in : Folders → Job → Option (List ℕ)
log_path_in folders job = option_map (λ logs. log_path (path_buf_bytes logs) job) folders.logs

-- what is started for a job, and the names of its file of inputs and of its log, if it is to have one
pub record Prepares (settings : Settings) (job : Running) (p : Prepared) : Type 0 where
  pub derivation : Derivation
  pub is : IsDerivation derivation
  pub text : derivation_text derivation ≡ job.resolved.text
  pub inputs : path_buf_bytes p.inputs ≡ inputs_path (path_buf_bytes settings.folders.work) job.job
  pub log : log_name p ≡ log_path_in settings.folders job.job
  pub started : IsLaunchedBy (launcher_of settings) derivation job.resolved.scratch (builder_in settings derivation) (path_buf_bytes p.inputs) p.command
  pub understood : is_mistaken (launcher_of settings) (builder_in settings derivation) ≡ false

module _ {O File Output Process : Type 0} (steps : Steps O File Output Process) where
  -- the job is built; or nothing is done, for want of memory or since nothing can be started for it
  abbrev pub Builds : Settings → O → Running → Result (List ℕ) Fault → O → Type 0
  Builds settings o job given o' =
      ((p : Prepared) × Prepares settings job p × RunsInFolder steps o job.resolved.closure p given o')
      ⊎ ((o' ≡ o) × ((given ≡ Err Memory) ⊎ ((given ≡ Err NotStarted) × IsUnusable settings job)))
