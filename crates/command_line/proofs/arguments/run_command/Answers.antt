use Rattle.std.proofs.Common.{codes, rules, []}
use Rattle.std.specs.Prelude.{◌∷◌}
use Rattle.std.proofs.lemmas.Result.{IfOk-weaker}
use Rattle.clap.specs.Simple.{new_app}
use Rattle.command_line.specs.Intstore.{builders_rule, charge_rule, files_rule, launcher_rule, limit_rule, logs_rule, sweep_rule, verbose_rule, work_rule, workers_rule}
use Rattle.command_line.specs.Steps.{IsCommand}
use Rattle.command_line.proofs.CommandLemmas.{arguments_added}
use Rattle.command_line.proofs.arguments.run_command.Goals as goal

pub returns : goal.returns
returns c =
    let bare : IsCommand (new_app (codes "run")) c.about.result = (search rules, search rules) in
    let described = workers_rule ∷ builders_rule ∷ work_rule ∷ logs_rule ∷ launcher_rule ∷ limit_rule ∷ sweep_rule ∷ charge_rule ∷ verbose_rule ∷ files_rule ∷ [] in
    IfOk-weaker c.args-2.result _ _ (λ r added. arguments_added _ described c.about.result r c.in_ok-arguments.arguments.items bare (search rules) added) c.args-2.ensures
