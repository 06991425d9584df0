-- Setting variables.
use Rattle.std.proofs.Common.{◌≡◌, ℕ, Bool, true, false, List, [], ◌∷◌, ◌++◌, codes, refl, sym, ap, ◌∙◌, cond}
use Rattle.std.specs.Prelude.{Option, Some, None, bytes_eq}
use Rattle.std.specs.Global.{Global}
use Rattle.std.specs.Process.{command_var, SameOtherVars}
use Rattle.std.specs.declared.process.command.Command.{Command}
use Rattle.model.proofs.BoolLemmas.{same_bytes, bytes_differ}
use Rattle.model.specs.Derivations.{Derivation}
use Rattle.builder.specs.Commands.{variable_after, environment_of, Sets, SetsVariable}

-- a variable was set, and no other
pub variable_set : (old new : Command Global) (key value : List ℕ) → command_var new key ≡ Some (Some value) → SameOtherVars old new key
    → SetsVariable old key value new
variable_set old new key value set others name = go (bytes_eq key name) refl
  where
    go : (b : Bool) → bytes_eq key name ≡ b → command_var new name ≡ cond b (Some (Some value)) (command_var old name)
    go true e = ap (command_var new) (sym (same_bytes key name e)) ∙ set
    go false e = others name (λ same. bytes_differ key name e (sym same))

-- one environment after another
variable_after-append : (name : List ℕ) (before : Option (Option (List ℕ))) (xs ys : List (List ℕ × List ℕ))
    → variable_after name before (xs ++ ys) ≡ variable_after name (variable_after name before xs) ys
variable_after-append name before [] ys = refl
variable_after-append name before (x ∷ xs) ys = variable_after-append name (cond (bytes_eq x.0 name) (Some (Some x.1)) before) xs ys

-- the variables of an environment were set where there was none, and then two more
pub variables_are : (d : Derivation) (scratch inputs : List ℕ) (first second third last : Command Global)
    → ((name : List ℕ) → command_var first name ≡ None) → Sets first d.environment second
    → SetsVariable second (codes "out") scratch third → SetsVariable third (codes "INPUTS") inputs last
    → (name : List ℕ) → command_var last name ≡ variable_after name None (environment_of d scratch inputs)
variables_are d scratch inputs first second third last none sets out file name =
    file name
    ∙ ap (λ v. cond (bytes_eq (codes "INPUTS") name) (Some (Some inputs)) v) (out name ∙ ap (λ v. cond (bytes_eq (codes "out") name) (Some (Some scratch)) v) (sets name ∙ ap (λ v. variable_after name v d.environment) (none name)))
    ∙ sym (variable_after-append name None d.environment ((codes "out", scratch) ∷ (codes "INPUTS", inputs) ∷ []))
