use Rattle.std.proofs.Common.{◌≡◌, length, ℕ, arith, ap}
use Rattle.board.specs.Ready.{claim_of, lane_at}
use Rattle.board.proofs.OrderLemmas.{still_first, now_first}
use Rattle.board.proofs.ready.Ready.first.Goals as goal
use Rattle.board.proofs.ready.Ready.first.Goals.{then-comes_before, else-comes_before}

pub loop-place-preserved : goal.loop-place-preserved
loop-place-preserved c =
    let r = c.args.self.now in
    let f = λ (k : ℕ). claim_of r (lane_at r.lanes k) in
    let many : length c.self.inside.lanes.items ≡ length r.lanes = ap (λ v. length v.lanes) c.self.view_is in
    elim c.if-comes_before.branch [
      | then-comes_before w ↦ rw w.best-is (record {
        within = omega arith;
        first = now_first f c.loop-place.place
            c.loop-place.best c.loop-place.invariant.first (cc);
      })
      | else-comes_before w ↦ rw w.best-is (record {
        within = omega arith;
        first = still_first f c.loop-place.place
            c.loop-place.best c.loop-place.invariant.first (cc);
      })
    ]
