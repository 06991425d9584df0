use Rattle.std.proofs.Common.{◌≡◌, [], ◌∷◌, ◌++◌, ap, ◌∙◌, arith}
use Rattle.std.proofs.lemmas.List.{take_all}
use Rattle.model.specs.Settling.{hash_part_in}
use Rattle.model.specs.Resolutions.{Served, images_for}
use Rattle.rewrite.proofs.StepLemmas.{mapped_next}
use Rattle.resolving.proofs.served.images_for.Goals as goal

pub loop-one-preserved : goal.loop-one-preserved
loop-one-preserved c =
    let one = c.one-item.result in
    let class : c.hash_part.result ≡ hash_part_in one.class = c.hash_part.ensures.value ∙ ap hash_part_in c.class.ensures in
    let path : c.hash_part-in-loop-one.result ≡ hash_part_in one.path = c.hash_part-in-loop-one.ensures.value ∙ ap hash_part_in c.path.ensures in
    mapped_next (λ (s : Served). (hash_part_in s.class, hash_part_in s.path)) [] c.args.served.now c.loop-one.one-index one
    c.loop-one.images c.add.new.self c.loop-one-test.true c.one-item.is c.loop-one.invariant
    (c.in_ok-add.ensures.added ∙ ap (λ part. c.loop-one.images ++ (part, c.hash_part-in-loop-one.result) ∷ []) class
    ∙ ap (λ part. c.loop-one.images ++ (hash_part_in one.class, part) ∷ []) path)

pub returns : goal.returns
returns c = c.loop-one.invariant ∙ ap images_for (take_all c.loop-one.one-index c.args.served.now (omega arith))
