use Rattle.std.proofs.Common.{◌∷◌, [], Err, ap, refl}
use Rattle.std.proofs.lemmas.Result.{err_from_is_err_and}
use Rattle.model.specs.declared.verb.WordKind.TheVariants as kind
use Rattle.lines.proofs.CommandLemmas.{path_ill, first_ill, later_ill}
use Rattle.lines.proofs.commands.offer_request.Goals as goal

pub returns-in_err-path : goal.returns-in_err-path
returns-in_err-path c =
    let p = err_from_is_err_and c.from_residual.result c.from_residual.ensures.1 in
    let known = c.in_err-path.ensures in
    rw (p.1, p.2)
    (first_ill kind.Path (kind.Tree ∷ []) c.args.first.now (c.args.second.now ∷ []) _
    (path_ill c.args.first.now _ known.errors (λ bad. known.refused.0 (ap Err bad))))

pub returns-in_err-read_tree : goal.returns-in_err-read_tree
returns-in_err-read_tree c =
    let p = err_from_is_err_and c.from_residual-in_err-read_tree.result c.from_residual-in_err-read_tree.ensures.1 in
    rw (p.1, p.2)
    (later_ill kind.Path (kind.Tree ∷ []) c.args.first.now (c.args.second.now ∷ []) _ c.in_ok-path.ensures.read.1
    (first_ill kind.Tree [] c.args.second.now [] _ c.in_err-read_tree.ensures.refused))

pub returns : goal.returns
returns c =
    let first = c.in_ok-path.ensures.read in
    let second = c.in_ok-read_tree.ensures.read in
    ((first.1, ((_, second), tt)), (_, second, rw first.0 refl))
