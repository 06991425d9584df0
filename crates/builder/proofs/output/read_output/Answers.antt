use Rattle.std.proofs.Common.{◌≡◌, ◌∷◌, ◌+◌, ◌<◌, arith, length}
use Rattle.builder.proofs.PieceLemmas.{piece_kept}
use Rattle.builder.proofs.output.read_output.Goals as goal

pub loop-preserved : goal.loop-preserved
loop-preserved g c =
    let so_far = c.loop.invariant in
    let piece = c.in-Ok.ensures.0 in
    let is_count : length piece ≡ c.in-Ok.field-0 = c.in-Ok.ensures.2 in
    let some : 0 < length piece = grind (arith, c.in-Ok.field-0-test, is_count) in
    let pieces : length so_far.0 ≡ c.loop.counter = so_far.3 in
    let one_more : length (piece ∷ so_far.0) ≡ c.loop.counter + 1 = omega arith in
    let read = c.read.new.kept.items in
    let kept = piece_kept 67108865 c.loop.kept.items read c.truncate.new.self.items piece so_far.0 so_far.2 c.in-Ok.ensures.1 c.truncate.ensures.items in
    (piece ∷ so_far.0, (c.loop.outside, c.loop.output, so_far.1, some, c.in-Ok.ensures.3), kept, one_more)
