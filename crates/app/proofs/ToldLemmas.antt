-- An end of which no lines are told.
use Rattle.std.proofs.Common.{◌≡◌, ℕ, sym, subst, Option}
use Rattle.std.specs.Prelude.{Result, Ok, Err, IfErr, OnOk}
use Rattle.model.specs.declared.refusal.Refusal.{Refusal}
use Rattle.replaying.specs.declared.bad_lines.BadLines.{BadLines}
use Rattle.session.specs.Serving.{EndsByCounts}
use Rattle.app.specs.Actions.{nothing_told}

pub told_err : (ended : Result (Unit {0}) Refusal) (told : Result (Option BadLines) Refusal) (Q : Refusal → Type 0)
    → told ≡ nothing_told ended → IfErr ended Q → IfErr told Q
told_err (Ok u) told Q same q = subst (λ r. IfErr r Q) (sym same) tt
told_err (Err why) told Q same q = subst (λ r. IfErr r Q) (sym same) q

pub told_ok : (ended : Result (Unit {0}) Refusal) (told : Result (Option BadLines) Refusal) (P : Type 0)
    → told ≡ nothing_told ended → OnOk ended P → OnOk told P
told_ok (Ok u) told P same p = subst (λ r. OnOk r P) (sym same) p
told_ok (Err why) told P same p = subst (λ r. OnOk r P) (sym same) tt

pub told_counts : (ended : Result (Unit {0}) Refusal) (told : Result (Option BadLines) Refusal) (reads reads_now writes writes_now : ℕ)
    → told ≡ nothing_told ended → EndsByCounts ended reads reads_now writes writes_now → EndsByCounts told reads reads_now writes writes_now
told_counts ended told reads reads_now writes writes_now same counts = record {
  whole = told_ok ended told _ same counts.whole;
  input_fault = told_err ended told _ same counts.input_fault;
  output_fault = told_err ended told _ same counts.output_fault;
  memory = told_err ended told _ same counts.memory;
}
