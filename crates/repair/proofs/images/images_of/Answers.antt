use Rattle.std.proofs.Common.{◌≡◌, [], ◌∷◌, ◌++◌, ap, ◌∙◌, arith}
use Rattle.std.proofs.lemmas.List.{take_all}
use Rattle.model.specs.Settling.{hash_part_in}
use Rattle.model.specs.Worlds.{Label}
use Rattle.model.specs.Repairs.{Replacement, images_of}
use Rattle.rewrite.proofs.StepLemmas.{mapped_next}
use Rattle.repair.proofs.images.images_of.Goals as goal

pub loop-one-preserved : goal.loop-one-preserved
loop-one-preserved c =
    let own = hash_part_in c.args.own.now in
    let one = c.one-item.result in
    let old : c.hash_part-old.result ≡ hash_part_in one.label.path = c.hash_part-old.ensures.value ∙ ap hash_part_in c.path.ensures
    ∙ ap (λ (l : Label). hash_part_in l.path) c.label.ensures in
    let new : c.hash_part-new.result ≡ hash_part_in one.path = c.hash_part-new.ensures.value ∙ ap hash_part_in c.path-in-loop-one.ensures in
    mapped_next (λ (m : Replacement). (hash_part_in m.label.path, hash_part_in m.path)) ((own, own) ∷ []) c.args.replacements.now c.loop-one.one-index one
    c.loop-one.images c.add-in-loop-one.new.self c.loop-one-test.true c.one-item.is c.loop-one.invariant
    (c.in_ok-add-2.ensures.added ∙ ap (λ part. c.loop-one.images ++ (part, c.hash_part-new.result) ∷ []) old
    ∙ ap (λ part. c.loop-one.images ++ (hash_part_in one.label.path, part) ∷ []) new)

pub returns : goal.returns
returns c =
    c.loop-one.invariant ∙ ap (images_of (hash_part_in c.args.own.now)) (take_all c.loop-one.one-index c.args.replacements.now (omega arith))
