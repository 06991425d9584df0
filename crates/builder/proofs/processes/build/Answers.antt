use Rattle.std.proofs.Common.{rules, ◌≡◌, ◌∙◌, ap, inl, subst, sym, List}
use Rattle.std.specs.Prelude.{option_map}
use Rattle.std.specs.Path.{path_buf_bytes}
use Rattle.std.proofs.lemmas.Option.{IfSome_then}
use Rattle.model.specs.Worlds.{Entry}
use Rattle.builder.specs.Meaning.{output_of}
use Rattle.builder.specs.Running.{RunsInFolder}
use Rattle.builder.proofs.processes.build.Goals as goal

pub returns-clause-builds : goal.returns-clause-builds
returns-clause-builds g c =
    let prepared = c.in-Ok.prepared in
    let closure = c.args.job.now.resolved.closure in
    let RunsFor : List Entry → Type 0 = λ entries. RunsInFolder g.O.Outside.steps c.args.outside.now entries prepared (output_of c.run_in_folder-output.result.output) c.run_in_folder-output.new.outside in
    let entries : c.closure.result.now ≡ closure = search rules in
    inl (prepared, c.in-Ok.ensures.ok, subst RunsFor entries c.run_in_folder-output.ensures)

pub returns-clause-log : goal.returns-clause-log
returns-clause-log g c =
    IfSome_then c.logged.result c.logged.ensures (λ log same. sym c.in-Ok.ensures.ok.log ∙ ap (option_map path_buf_bytes) same)
