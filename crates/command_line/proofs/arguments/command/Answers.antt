use Rattle.std.proofs.Common.{◌∙◌, ap, codes, rules}
use Rattle.std.proofs.lemmas.Result.{IfOk-weaker}
use Rattle.clap.specs.Simple.{app_of_fields, new_app, on_top}
use Rattle.clap.specs.declared.builder.command.Command.TheOpen.{Command-F}
use Rattle.clap.specs.declared.builder.command.Command.{Command}
use Rattle.command_line.specs.Intstore.{needs_subcommand, subcommands}
use Rattle.command_line.specs.Steps.{IsCommand}
use Rattle.command_line.proofs.CommandLemmas.{subcommands_added}
use Rattle.command_line.proofs.arguments.command.Goals as goal

pub returns : goal.returns
returns c =
    let above : IsCommand (on_top needs_subcommand (new_app (codes "intstore"))) c.subcommand_required.result = (search rules, search rules) in
    let all = subcommands_added _ subcommands c.subcommand_required.result c.in_ok-subcommands-2.field-0
    c.in_ok-subcommands.subcommands.items above (search rules) c.in_ok-subcommands-2.ensures in
    IfOk-weaker c.bin_name.result _ _ (λ r h. (ap app_of_fields h.0 ∙ all.0, ap (λ (f : Command-F Command). f.has_globals) h.0 ∙ all.1)) c.bin_name.ensures
