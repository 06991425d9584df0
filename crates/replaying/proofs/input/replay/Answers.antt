use Rattle.std.proofs.Common.{refl}
use Rattle.model.specs.declared.refusal.Refusal.TheVariants.{OutputFault}
use Rattle.session.proofs.ProgressLemmas.{by_output_fault}
use Rattle.replaying.proofs.InputLemmas.{flushed, flushed_in_part, not_flushed, other_fault, after_ok}
use Rattle.replaying.proofs.WholeLemmas.{after_err, after_failed, so_far_flushed, told_other, kept_told}
use Rattle.replaying.proofs.input.replay.Goals as goal

pub returns-clause-ok : goal.returns-clause-ok
returns-clause-ok g c = after_ok c.flush_after.result c.answer_input-ended.result _ _ c.flush_after.ensures.ok c.answer_input-ended.ensures.ok (λ h all known.
    flushed _ _ _ _ _ (h all known) c.flush_after.ensures.kept)

pub returns-clause-err : goal.returns-clause-err
returns-clause-err g c = after_err _ _ _ _ c.flush_after.result c.answer_input-ended.result _ _ _ c.flush_after.ensures.err
    (λ is. c.flush_after.ensures.output is (rw c.failures-writer_before.ensures ((rw is at c.answer_input-ended.ensures.output_fault) refl)))
    c.answer_input-ended.ensures.ok c.answer_input-ended.ensures.err
    (λ h all known. not_flushed _ _ _ _ _ OutputFault by_output_fault (h all known) c.flush_after.ensures.kept)
    (λ first why other h all known. flushed_in_part _ _ _ _ _ why (other_fault _ _ _ _ first why (told_other first why other) (kept_told first why other) (h all known)) c.flush_after.ensures.kept)
    (λ why h all known. flushed_in_part _ _ _ _ _ why (h all known) c.flush_after.ensures.kept)

pub returns-clause-failed : goal.returns-clause-failed
returns-clause-failed g c = after_failed _ _ _ _ c.flush_after.result c.answer_input-ended.result _ _ c.flush_after.ensures.err c.answer_input-ended.ensures.failed
    (λ h all known. so_far_flushed _ _ _ _ _ _ (h all known) c.flush_after.ensures.kept)

pub returns-clause-counts : goal.returns-clause-counts
returns-clause-counts g c =
    let flushed = c.flush_after.ensures in
    rw (← c.failures-reader_before.ensures, ← c.failures-writer_before.ensures) (record {
      whole = after_ok c.flush_after.result c.answer_input-ended.result _ _ flushed.ok (rw c.failures-reader_before.ensures c.answer_input-ended.ensures.whole) (λ whole. whole);
      input_fault = flushed.input_fault;
      output_fault = flushed.output_fault;
      memory = flushed.memory;
    })
