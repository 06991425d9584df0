use Rattle.std.proofs.Common.{List, Result, Ok, Err, rules}
use Rattle.std.specs.Prelude.{IfOk}
use Rattle.model.specs.declared.refusal.Refusal.{Refusal}
use Rattle.std.proofs.lemmas.Result.{err_from_is_err_and}
use Rattle.model.specs.Worlds.{Label}
use Rattle.outputs.specs.Below.{AreCandidates}
use Rattle.handlers.specs.Offering.{IsNotSettled}
use Rattle.handlers.proofs.OfferLemmas.{are_labels, no_output}
use Rattle.handlers.proofs.offers.output_for.Goals as goal

pub returns-in_err-output-clause-refused : goal.returns-in_err-output-clause-refused
returns-in_err-output-clause-refused c =
    let p = err_from_is_err_and c.from_residual-in_err-output.result c.from_residual-in_err-output.ensures.1 in
    let labels : List Label = c.in_ok-candidates.candidates in
    let found : AreCandidates c.args.desk.now.known c.args.admitted.now.derivation c.args.desk.now.records labels = search rules in
    let refused : IsNotSettled labels c.args.admitted.now c.args.tree.now p.0 = rw p.2 c.in_err-output.ensures.refused in
    rw p.1 (no_output c.args.desk.now c.args.admitted.now c.args.tree.now labels p.0 (are_labels c.args.desk.now c.args.admitted.now labels found) refused)

-- what holds of a pair where two other things do
if_both : {X : Type 0} (P Q R : X → Type 0) → ((x : X) → P x → Q x → R x) → (result : Result X Refusal) → IfOk result P → IfOk result Q → IfOk result R
if_both P Q R both (Ok x) p q = both x p q
if_both P Q R both (Err why) p q = tt

pub returns-clause-output : goal.returns-clause-output
returns-clause-output c =
    let labels : List Label = c.in_ok-candidates.candidates in
    let found : AreCandidates c.args.desk.now.known c.args.admitted.now.derivation c.args.desk.now.records labels = search rules in
    if_both _ _ _
    (λ o record_is tree_is. record {
      labels = labels;
      candidates = are_labels c.args.desk.now c.args.admitted.now labels found;
      settled = c.in_ok-output.output;
      is = c.in_ok-output.ensures.settled;
      tree_is = tree_is;
      record_is = record_is;
      sound = c.in_ok-output.ensures.tree;
      own = c.in_ok-output.ensures.own;
      paths = c.in_ok-output.ensures.paths;
    }) c.recorded.result c.recorded.ensures.record c.recorded.ensures.tree
