use Rattle.std.proofs.Common.{◌≡◌, ◌∙◌, ap, subst, None}
use Rattle.std.proofs.lemmas.Result.{err_from_is_err_and}
use Rattle.model.specs.Occurrences.{among, fault}
use Rattle.model.specs.Substitutions.{keys_of}
use Rattle.model.specs.Settling.{hash_part_in}
use Rattle.model.specs.Repairs.{images_of}
use Rattle.repair.proofs.RelabellingLemmas.{rewritten_by, rewritten_fault}
use Rattle.repair.proofs.relabelling.rewritten.Goals as goal

pub returns-in_err-places : goal.returns-in_err-places
returns-in_err-places c =
    let p = err_from_is_err_and c.from_residual-in_err-places.result c.from_residual-in_err-places.ensures.1 in
    let r = c.args.chosen.now in
    let replacements = c.args.replacements.now in
    rw (p.1, p.2) (rewritten_fault r replacements c.in_ok-images.images c.in_ok-archive.archive c.in_ok-keys.keys c.in_err-places.field-0.0
    (c.in_ok-images.ensures ∙ ap (λ path. images_of (hash_part_in path) replacements) c.path.ensures) (c.in_ok-archive.ensures.archive ∙ c.tree.ensures)
    c.in_ok-keys.ensures.keys c.in_err-places.ensures.refused)

pub returns : goal.returns
returns c =
    let r = c.args.chosen.now in
    let replacements = c.args.replacements.now in
    let images = c.in_ok-images.images in
    let tree = c.in_ok-archive.archive in
    let sound : fault (among (keys_of images)) tree ≡ None = subst (λ keys. fault (among keys) tree ≡ None) c.in_ok-keys.ensures.keys c.in_ok-places.ensures.sound in
    rewritten_by r replacements images tree c.substitute.result (c.in_ok-images.ensures ∙ ap (λ path. images_of (hash_part_in path) replacements) c.path.ensures)
    (c.in_ok-archive.ensures.archive ∙ c.tree.ensures) sound c.substitute.ensures.put c.substitute.ensures.true_put c.substitute.ensures.refused
