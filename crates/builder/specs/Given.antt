-- What a runner by processes gives, and how it counts.
use Rattle.std.specs.Prelude.{◌≡◌, ℕ, List, Some, IfSome, Result}
use Rattle.std.specs.Path.{path_buf_bytes}
use Rattle.model.specs.Goals.{Running}
use Rattle.builder.specs.declared.runner.RunFault.{RunFault}
use Rattle.builder.specs.Steps.{Steps}
use Rattle.builder.specs.declared.fault.Fault.{Fault}
use Rattle.builder.specs.Meaning.{counted, fault_in, told}
use Rattle.builder.specs.Building.{Builds, log_path_in}
use Rattle.builder.specs.declared.processes.ProcessRunner.{ProcessRunner}

module _ {O File Output Process : Type 0} (steps : Steps O File Output Process) where
  -- the job is built by the runner's settings, what came of it is told, each failure is counted, and the log is
  -- that of the job
  pub record Gives (old : ProcessRunner O) (job : Running) (given : Result (List ℕ) RunFault) (new : ProcessRunner O) : Type 0 where
    pub built : Result (List ℕ) Fault
    pub builds : Builds steps old.settings old.outside job built new.outside
    pub tells : given ≡ told built
    pub fault : new.fault ≡ fault_in built
    pub counts : new.failures ≡ counted old.failures given
    pub settings : new.settings ≡ old.settings
    pub log : IfSome new.log (λ log. log_path_in old.settings.folders job.job ≡ Some (path_buf_bytes log.path))
