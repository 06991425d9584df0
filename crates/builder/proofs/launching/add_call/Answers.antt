use Rattle.std.proofs.Common.{rules, ◌≡◌, ◌∷◌, [], codes, map, subst, ℕ, List}
use Rattle.std.specs.Path.{path_bytes}
use Rattle.builder.specs.Commands.{AddsArguments}
use Rattle.builder.specs.Launching.{assignment}
use Rattle.builder.proofs.LaunchingLemmas.{call_added}
use Rattle.builder.proofs.launching.add_call.Goals as goal

pub returns : goal.returns
returns c =
    let d = c.args.derivation.now in
    let c0 = c.args.command.now in
    let c1 = c.add_argument.new.command in
    let c2 = c.add_argument-2.new.command in
    let c3 = c.add_argument-3.new.command in
    let c4 = c.add_assignments.new.command in
    let c5 = c.add_assignment.new.command in
    let c6 = c.add_assignment-2.new.command in
    let c7 = c.add_argument-4.new.command in
    let c8 = c.add_arguments.new.command in
    let variables : c.deref.result.now ≡ d.environment = search rules in
    let arguments : c.deref-2.result.now ≡ d.arguments = search rules in
    let builder : c.as_str.result.now ≡ path_bytes c.args.builder = search rules in
    let h4 : AddsArguments c3 (map assignment d.environment) c4 = subst (λ vs. AddsArguments c3 (map assignment vs) c4) variables c.in_ok-add_assignments.ensures in
    let h5 : AddsArguments c4 (assignment (codes "out", c.args.scratch.now) ∷ []) c5 =
    subst (λ (t : List ℕ). AddsArguments c4 (assignment (codes "out", t) ∷ []) c5) c.text_of_path.ensures c.in_ok-add_assignment.ensures in
    let h7 : AddsArguments c6 (path_bytes c.args.builder ∷ []) c7 = subst (λ (t : List ℕ). AddsArguments c6 (t ∷ []) c7) builder c.in_ok-add_argument-4.ensures in
    let h8 : AddsArguments c7 d.arguments c8 = subst (λ ws. AddsArguments c7 ws c8) arguments c.in_ok-add_arguments.ensures in
    call_added c0 c1 c2 c3 c4 c5 c6 c7 c8 (codes "/usr/bin/env") (codes "-i") (codes "--") (path_bytes c.args.builder) d.environment
    (codes "out", c.args.scratch.now) (codes "INPUTS", c.args.inputs.now) d.arguments
    c.in_ok-add_argument.ensures c.in_ok-add_argument-2.ensures c.in_ok-add_argument-3.ensures h4 h5 c.in_ok-add_assignment-2.ensures h7 h8
