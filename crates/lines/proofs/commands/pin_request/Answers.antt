use Rattle.std.proofs.Common.{◌∷◌, [], Err, ap, refl}
use Rattle.std.proofs.lemmas.Result.{err_from_is_err_and}
use Rattle.model.specs.declared.verb.WordKind.TheVariants as kind
use Rattle.lines.proofs.CommandLemmas.{path_ill, first_ill, later_ill}
use Rattle.lines.proofs.commands.pin_request.Goals as goal

pub returns-in_err-class : goal.returns-in_err-class
returns-in_err-class c =
    let p = err_from_is_err_and c.from_residual.result c.from_residual.ensures.1 in
    let known = c.in_err-class.ensures in
    rw (p.1, p.2)
    (first_ill kind.Path (kind.Path ∷ []) c.args.first.now (c.args.second.now ∷ []) _
    (path_ill c.args.first.now _ known.errors (λ bad. known.refused.0 (ap Err bad))))

pub returns-in_err-read_path : goal.returns-in_err-read_path
returns-in_err-read_path c =
    let p = err_from_is_err_and c.from_residual-in_err-read_path.result c.from_residual-in_err-read_path.ensures.1 in
    let known = c.in_err-read_path.ensures in
    rw (p.1, p.2)
    (later_ill kind.Path (kind.Path ∷ []) c.args.first.now (c.args.second.now ∷ []) _ c.in_ok-class.ensures.read.1
    (first_ill kind.Path [] c.args.second.now [] _ (path_ill c.args.second.now _ known.errors (λ bad. known.refused.0 (ap Err bad)))))

pub returns : goal.returns
returns c =
    let first = c.in_ok-class.ensures.read in
    let second = c.in_ok-read_path.ensures.read in
    ((first.1, (second.1, tt)), rw (first.0, second.0) refl)
