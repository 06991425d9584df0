-- Arguments of a launcher, one after another.
use Rattle.std.proofs.Common.{◌≡◌, ℕ, List, [], ◌∷◌, ◌++◌, ap, ◌∙◌, subst, sym, append_assoc}
use Rattle.std.specs.Prelude.{map}
use Rattle.std.specs.Global.{Global}
use Rattle.std.specs.Process.{command_args}
use Rattle.std.specs.declared.process.command.Command.{Command}
use Rattle.std.proofs.lemmas.List.{map-append}
use Rattle.builder.specs.Commands.{AddsArguments}
use Rattle.builder.specs.Launching.{assignment}

-- arguments are added, and then others
adds_both : (a b c : Command Global) (xs ys : List (List ℕ)) → AddsArguments a xs b → AddsArguments b ys c → AddsArguments a (xs ++ ys) c
adds_both a b c xs ys first second = record {
  arguments = second.arguments ∙ ap (λ words. words ++ ys) first.arguments ∙ append_assoc (command_args a) xs ys;
  program = second.program ∙ first.program;
  environment = (second.environment.0 ∙ first.environment.0, λ name. second.environment.1 name ∙ first.environment.1 name);
  folder = second.folder ∙ first.folder;
}

-- three words are added, the variables of an environment and two more, and then a call
pub call_added : (c0 c1 c2 c3 c4 c5 c6 c7 c8 : Command Global) (w1 w2 w3 builder : List ℕ) (variables : List (List ℕ × List ℕ)) (out inputs : List ℕ × List ℕ)
    (arguments : List (List ℕ)) → AddsArguments c0 (w1 ∷ []) c1 → AddsArguments c1 (w2 ∷ []) c2 → AddsArguments c2 (w3 ∷ []) c3
    → AddsArguments c3 (map assignment variables) c4 → AddsArguments c4 (assignment out ∷ []) c5 → AddsArguments c5 (assignment inputs ∷ []) c6
    → AddsArguments c6 (builder ∷ []) c7 → AddsArguments c7 arguments c8
    → AddsArguments c0 (w1 ∷ w2 ∷ w3 ∷ map assignment (variables ++ out ∷ inputs ∷ []) ++ builder ∷ arguments) c8
call_added c0 c1 c2 c3 c4 c5 c6 c7 c8 w1 w2 w3 builder variables out inputs arguments h1 h2 h3 h4 h5 h6 h7 h8 =
    let call = adds_both c6 c7 c8 (builder ∷ []) arguments h7 h8 in
    let file = adds_both c5 c6 c8 (assignment inputs ∷ []) (builder ∷ arguments) h6 call in
    let path = adds_both c4 c5 c8 (assignment out ∷ []) (assignment inputs ∷ builder ∷ arguments) h5 file in
    let all = adds_both c3 c4 c8 (map assignment variables) (assignment out ∷ assignment inputs ∷ builder ∷ arguments) h4 path in
    let three = adds_both c2 c3 c8 (w3 ∷ []) _ h3 all in
    let two = adds_both c1 c2 c8 (w2 ∷ []) _ h2 three in
    let one = adds_both c0 c1 c8 (w1 ∷ []) _ h1 two in
    let same : map assignment (variables ++ out ∷ inputs ∷ []) ++ builder ∷ arguments ≡ map assignment variables ++ assignment out ∷ assignment inputs ∷ builder ∷ arguments =
    ap (λ words. words ++ builder ∷ arguments) (map-append assignment variables (out ∷ inputs ∷ []))
    ∙ append_assoc (map assignment variables) (assignment out ∷ assignment inputs ∷ []) (builder ∷ arguments) in
    subst (λ words. AddsArguments c0 (w1 ∷ w2 ∷ w3 ∷ words) c8) (sym same) one
