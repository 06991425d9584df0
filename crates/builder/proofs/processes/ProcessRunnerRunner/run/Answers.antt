use Rattle.std.proofs.Common.{rules, refl}
use Rattle.builder.specs.Meaning.{output_of}
use Rattle.builder.proofs.processes.ProcessRunnerRunner.run.Goals as goal

pub returns-clause-gives : goal.returns-clause-gives
returns-clause-gives g c =
    record {
      built = output_of c.build-output.result.output;
      builds = c.build-output.ensures.builds;
      tells = c.told-given.ensures;
      fault = search rules;
      counts = search rules;
      settings = refl;
      log = c.build-output.ensures.log;
    }
