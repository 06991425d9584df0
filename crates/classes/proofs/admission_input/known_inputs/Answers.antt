use Rattle.std.proofs.Common.{rules, ◌≡◌, ◌+◌, ◌++◌, ◌∷◌, [], take, ap, sym, ◌∙◌}
use Rattle.std.specs.Prelude.{Some}
use Rattle.std.proofs.lemmas.List.{take_more}
use Rattle.model.specs.Classes.{known_at}
use Rattle.classes.proofs.Admitting.{next_found}
use Rattle.classes.proofs.admission_input.known_inputs.Goals as goal

pub loop-path-preserved : goal.loop-path-preserved
loop-path-preserved c =
    let known = c.args.known.now in
    let k = c.loop-path.path-index in
    let behind : take (k + 1) c.args.paths.now ≡ take k c.args.paths.now ++ c.path-item.result ∷ [] =
    take_more c.args.paths.now k c.path-item.result c.loop-path-test.true ∙ ap (λ p. take k c.args.paths.now ++ p ∷ []) (sym c.path-item.is) in
    let found : known_at known c.path-item.result ≡ Some c.in-Some.admitted.now = search rules in
    let next = next_found known (take k c.args.paths.now) (take (k + 1) c.args.paths.now) c.loop-path.inputs.items c.push.new.self.items c.path-item.result c.in-Some.admitted.now c.in_ok-clone.field-0
    c.loop-path.invariant.inputs c.loop-path.invariant.known behind found (search rules) (search rules) in
    record { inputs = next.0; known = next.1 }
