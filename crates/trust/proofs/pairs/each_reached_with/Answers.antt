use Rattle.std.proofs.Common.{◌≡◌, ◌<◌, length, arith, ◌∙◌}
use Rattle.std.specs.Prelude.{slice_index}
use Rattle.std.proofs.lemmas.List.{length-set}
use Rattle.trust.specs.Trusting.{reached_with}
use Rattle.trust.proofs.RowLemmas.{one_more_word}
use Rattle.trust.proofs.pairs.each_reached_with.Goals as goal

pub loop-place-preserved : goal.loop-place-preserved
loop-place-preserved c =
    let so = c.loop-place.invariant in
    let long = so.1 in
    let test = c.loop-place-test.true in
    let inside : c.loop-place.place < length c.loop-place.after = omega (arith, long, test) in
    let before = c.args.reached.now in (
      one_more_word (λ p word. word ≡ reached_with (slice_index before p) c.args.user (slice_index before c.args.other)) c.loop-place.after c.loop-place.place _
          inside so.0 c.reached_with.ensures,
      length-set c.loop-place.after c.loop-place.place _ ∙ long,
    )
