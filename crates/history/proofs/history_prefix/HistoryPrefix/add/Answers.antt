use Rattle.std.proofs.Common.{sym, ◌∙◌, ap}
use Rattle.history.proofs.AddingLemmas.{adds_moves}
use Rattle.history.proofs.history_prefix.HistoryPrefix.add.Goals as goal

pub compare_exchange-found-requires : goal.compare_exchange-found-requires
compare_exchange-found-requires g c =
    let self = c.args.self.now in
    let h = c.args.head.now.head_is in
    let offer = c.plain-offer.ensures in
    let pen = c.no_pen-pen.ensures in
    let named = c.requires.book in (
      ap (λ w. w.tracked) h,
      named ∙ sym (ap (λ w. w.book) h),
      pen.0 ∙ (named ∙ sym (ap (λ w. w.book) h)),
      offer.0,
      rw (ap (λ w. w.key) h, pen.1, offer.1, offer.3) (adds_moves self.seen.log c.args.row.now self.rows (sym self.counted)),
    )
