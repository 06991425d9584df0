use Rattle.std.proofs.Common.{rules, ◌≡◌, ◌∙◌, codes, subst}
use Rattle.builder.specs.Commands.{Sets, SetsVariable}
use Rattle.builder.proofs.CommandLemmas.{variables_are}
use Rattle.builder.proofs.command.command_for.Goals as goal

pub returns : goal.returns
returns c =
    let d = c.args.derivation.now in
    let first = c.add_arguments.new.command in
    let second = c.set_variables.new.command in
    let third = c.set_variable.new.command in
    let last = c.set_variable-2.new.command in
    let variables : c.deref-2.result.now ≡ d.environment = search rules in
    let sets : Sets first d.environment second = subst (λ e. Sets first e second) variables c.in_ok-set_variables.ensures.sets in
    let out : SetsVariable second (codes "out") c.args.scratch.now third = subst (λ t. SetsVariable second (codes "out") t third) c.text_of_path.ensures c.in_ok-set_variable.ensures.set in
    record {
      program = search rules;
      arguments = search rules;
      clears = search rules;
      variables = λ name. c.in_ok-set_own_name.ensures.environment.1 name ∙ variables_are d c.args.scratch.now c.args.inputs.now first second third last (λ name. c.in_ok-add_arguments.ensures.environment.1 name ∙ c.in_ok-command.ensures.variables name) sets out c.in_ok-set_variable-2.ensures.set name;
      own_name = search rules;
      folder = search rules;
    }
