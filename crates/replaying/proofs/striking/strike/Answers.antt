use Rattle.replaying.proofs.InputLemmas.{after_ok}
use Rattle.session.proofs.FlushLemmas.{early_after}
use Rattle.replaying.proofs.StruckLemmas.{all_flushed, not_flushed, early_told, end_ok, end_with, end_err, with_ok, with_err, with_told}
use Rattle.replaying.proofs.UnnamedLemmas.{still_why}
use Rattle.replaying.proofs.striking.strike.Goals as goal

pub returns-clause-ok : goal.returns-clause-ok
returns-clause-ok g c =
    with_told c.ended_with.result c.flush_after-shown.result c.end_of-ended.result c.strike_lines-told.result _ _ c.ended_with.ensures c.end_of-ended.ensures
    c.flush_after-shown.ensures.ok c.strike_lines-told.ensures.ok
    (λ bad h all known. all_flushed _ _ _ _ _ _ _ c.flush_after-shown.ensures.kept bad (h all known))

pub returns-clause-err : goal.returns-clause-err
returns-clause-err g c =
    let told = c.strike_lines-told.result in
    let ended = c.end_of-ended.result in
    let shown = c.flush_after-shown.result in
    with_err c.ended_with.result shown told _ c.ended_with.ensures
    (early_after _ _ _ _ shown ended _ _ _ c.flush_after-shown.ensures.err (end_with told ended _ c.end_of-ended.ensures c.strike_lines-told.ensures.ok)
    (end_err told ended _ c.end_of-ended.ensures c.strike_lines-told.ensures.err)
    (λ h all known. not_flushed _ _ _ _ _ _ _ c.flush_after-shown.ensures.kept h.0 (h.1 all known))
    (λ first why told h all known. early_told _ _ _ _ _ _ _ c.flush_after-shown.ensures.kept first why told (h all known)))

pub returns-clause-counts : goal.returns-clause-counts
returns-clause-counts g c =
    let told = c.strike_lines-told.result in
    let ended = c.end_of-ended.result in
    let shown = c.flush_after-shown.result in
    let flushed = c.flush_after-shown.ensures in
    rw (← c.failures-reader_before.ensures, ← c.failures-writer_before.ensures) (record {
      whole = with_ok c.ended_with.result shown told _ c.ended_with.ensures
          (after_ok shown ended _ _ flushed.ok (end_ok told ended _ c.end_of-ended.ensures (rw c.failures-reader_before.ensures c.strike_lines-told.ensures.whole)) (λ whole. whole));
      input_fault = with_err c.ended_with.result shown told _ c.ended_with.ensures flushed.input_fault;
      output_fault = with_err c.ended_with.result shown told _ c.ended_with.ensures flushed.output_fault;
      memory = with_err c.ended_with.result shown told _ c.ended_with.ensures flushed.memory;
    })

pub returns-clause-shown : goal.returns-clause-shown
returns-clause-shown g c =
    rw (← c.failures-writer_before.ensures)
    (with_ok c.ended_with.result c.flush_after-shown.result c.strike_lines-told.result _ c.ended_with.ensures c.flush_after-shown.ensures.shown)

pub returns-clause-why : goal.returns-clause-why
returns-clause-why g c =
    let told = c.strike_lines-told.result in
    let ended = c.end_of-ended.result in
    let shown = c.flush_after-shown.result in
    with_err c.ended_with.result shown told _ c.ended_with.ensures
    (still_why _ _ _ _ _ _ shown ended c.flush_after-shown.ensures.err
    (end_err told ended _ c.end_of-ended.ensures c.strike_lines-told.ensures.why))
