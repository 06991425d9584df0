use Rattle.std.proofs.Common.{refl, sym, ◌∙◌, arith}
use Rattle.std.proofs.lemmas.List.Sums.{sum-map}
use Rattle.running.specs.Meeting.{stops_by}
use Rattle.running.proofs.ServedSessionLemmas.{given_back}
use Rattle.running.proofs.runs.close_front.Goals as goal

pub returns-clause-closed : goal.returns-clause-closed
returns-clause-closed g c =
    let counted = c.len.ensures in
    let kept = c.args.ended.back.passes.ok.0 in
    let same = c.if-len-count.false in (
      record {
        legal = c.close-history.ensures.legal;
        whole = omega (arith, counted, kept, same);
        back = given_back c.close-history.result c.args.ended.back.passes.items c.close-history.ensures.sure c.close-history.ensures.seen
            c.close-history.ensures.each c.close-history.ensures.stopped;
        stopped = sym (sum-map stops_by c.args.ended.back.passes.items) ∙ c.close-history.ensures.stops;
        others = rw (c.deref.ensures.value, c.deref-2.ensures.value, c.deref-3.ensures.value) at (sym c.are_accounted.ensures ∙ c.if-not-are_accounted.false);
        asked = rw (c.deref-4.ensures.value, c.deref-5.ensures.value) at (sym c.in_ok-are_asked.ensures ∙ c.if-not-branch.false);
      },
      refl,
    )
