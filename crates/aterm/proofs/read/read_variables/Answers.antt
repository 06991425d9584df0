use Rattle.std.proofs.Common.{rules, ◌≡◌, ◌∷◌, codes, [], ◌++◌, true, false, arith, length, drop}
use Rattle.std.proofs.lemmas.Result.{err_from_is_err_and}
use Rattle.model.specs.DerivationTexts.{is_at, variable_at, variables_at}
use Rattle.model.proofs.ReadingLemmas.{fails_on}
use Rattle.aterm.proofs.Items.{loop_ends, loop_fails, loop_spent, loop_goes_on}
use Rattle.aterm.proofs.read.read_variables.Goals as goal

pub returns-in-Some : goal.returns-in-Some
returns-in-Some c =
    let here : is_at (codes "]") c.loop.rest.now ≡ true = search rules in
    let after : drop 1 c.loop.rest.now ≡ c.in-Some.after.now = search rules in
    loop_ends variable_at (codes "]") (codes ",") (variables_at c.args.tag.now c.args.bytes.now) c.loop.variables.items _ c.loop.separator.now c.loop.rest.now _ c.loop.invariant (omega arith) here after

pub returns-in_err-variable : goal.returns-in_err-variable
returns-in_err-variable c =
    let p = err_from_is_err_and c.from_residual-in_err-variable.result c.from_residual-in_err-variable.ensures.1 in
    let here : is_at (codes "]") c.loop.rest.now ≡ false = search rules in
    rw (p.1, p.2) (fails_on _ _ _ (loop_fails variable_at (codes "]") (codes ",") (variables_at c.args.tag.now c.args.bytes.now) c.loop.variables.items _ c.loop.separator.now c.loop.rest.now c.loop.invariant here) c.in_err-variable.ensures)

pub loop-preserved : goal.loop-preserved
loop-preserved c =
    let here : is_at (codes "]") c.loop.rest.now ≡ false = search rules in
    let pushed : c.loop.variables.items ++ c.in_ok-variable.variable ∷ [] ≡ c.push.new.self.items = search rules in
    let later : codes "," ≡ c.as_slice-separator-in-loop.result.now = search rules in
    loop_goes_on variable_at (codes "]") (codes ",") (variables_at c.args.tag.now c.args.bytes.now) c.loop.variables.items c.push.new.self.items (length c.in_ok-rest.rest.now) c.loop.counter c.loop.separator.now c.as_slice-separator-in-loop.result.now c.loop.rest.now c.in_ok-variable.variable c.in_ok-variable.after.now c.loop.invariant (omega arith) here c.in_ok-variable.ensures pushed later

pub returns : goal.returns
returns c = loop_spent variable_at (codes "]") (codes ",") (variables_at c.args.tag.now c.args.bytes.now) c.loop.variables.items _ c.loop.separator.now c.loop.rest.now c.loop.invariant (omega arith)
