use Rattle.std.proofs.Common.{Some, inl, inr, refl, sym, subst}
use Rattle.model.specs.declared.mode.Mode.TheVariants.{Service}
use Rattle.session.specs.Ahead.{LooksAhead}
use Rattle.session.specs.Serving.{HasFailed}
use Rattle.session.proofs.RowLemmas.{err-is, on_ok, if_err}
use Rattle.session.proofs.ProgressLemmas.{by_memory}
use Rattle.replaying.proofs.InputLemmas.{finished_by_store, stopped_by_store, found_are_users}
use Rattle.replaying.proofs.WholeLemmas.{so_far_by_store}
use Rattle.replaying.proofs.HeadLemmas.{none_serves, quiet_replayed, quiet_in_part, quiet_so_far, is_answered, names_all}
use Rattle.replaying.proofs.input.answer_input.Goals as goal

pub returns-in_err-head-clause-err : goal.returns-in_err-head-clause-err
returns-in_err-head-clause-err g c = err-is _ _ _ c.from_residual.ensures.1 (λ all known.
    let h = c.in_err-head.ensures.err in
    quiet_in_part c.args.settings.limits.charge all _ _ _ _ known h.0 _ h.1 h.2)

pub returns-in_err-head-clause-failed : goal.returns-in_err-head-clause-failed
returns-in_err-head-clause-failed g c = err-is _ _ _ c.from_residual.ensures.1 (λ failed all known.
    let h = c.in_err-head.ensures.failed failed in
    quiet_so_far c.args.settings.limits.charge all _ _ _ _ known h.0 h.1 h.2)

pub returns-in_default-clause-ok : goal.returns-in_default-clause-ok
returns-in_default-clause-ok g c = λ all known.
    let h = rw c.in_default.is at c.in_ok-head.ensures.ok in
    quiet_replayed c.args.settings.limits.charge all _ _ _ _ known h.0 h.1 h.2.0 h.2.1

pub returns-clause-ok : goal.returns-clause-ok
returns-clause-ok g c = on_ok c.serve_core.result (λ h all known.
    let head = rw c.in-Some.is at c.in_ok-head.ensures.ok in
    let looks : LooksAhead Service all (Some c.in-Some.users.items) = names_all all head.0 _ _ _ _ _ c.in-Some.users.items _ known head.1 head.2 in
    finished_by_store c.args.settings.limits.charge all _ _ c.in-Some.users.items _ _ looks known
    ((rw c.in_ok-core.ensures.setup at h) (g.R.Read.remaining c.args.reader.now) (g.W.Write.contents c.args.writer.now) head.2.front (is_answered _ _ _ _ head.0 _ _ _ head.1 head.2)))
    c.serve_core.ensures.ok

pub returns-clause-err : goal.returns-clause-err
returns-clause-err g c = if_err c.serve_core.result (λ why h all known.
    let head = rw c.in-Some.is at c.in_ok-head.ensures.ok in
    let looks : LooksAhead Service all (Some c.in-Some.users.items) = names_all all head.0 _ _ _ _ _ c.in-Some.users.items _ known head.1 head.2 in
    stopped_by_store c.args.settings.limits.charge all _ _ c.in-Some.users.items _ _ why looks known
    ((rw c.in_ok-core.ensures.setup at h) (g.R.Read.remaining c.args.reader.now) (g.W.Write.contents c.args.writer.now) head.2.front (is_answered _ _ _ _ head.0 _ _ _ head.1 head.2)))
    c.serve_core.ensures.err

-- where there is no store, no event is answered
pub returns-in_err-core-clause-err : goal.returns-in_err-core-clause-err
returns-in_err-core-clause-err g c = err-is _ _ _ c.from_residual-in_err-core.ensures.1 (λ all known.
    let head = rw c.in-Some.is at c.in_ok-head.ensures.ok in
    let looks : LooksAhead Service all (Some c.in-Some.users.items) = names_all all head.0 _ _ _ _ _ c.in-Some.users.items _ known head.1 head.2 in
    let are = found_are_users all c.in-Some.users.items looks in
    stopped_by_store c.args.settings.limits.charge all _ _ c.in-Some.users.items _ _ _ looks known
    (none_serves _ _ _ _ _ _ (by_memory _ (elim c.in_err-core.ensures.refused [ inl memory ↦ memory | inr bad ↦ cc ]))
    (g.R.Read.remaining c.args.reader.now) (g.W.Write.contents c.args.writer.now) head.2.front (is_answered _ _ _ _ head.0 _ _ _ head.1 head.2)))

pub returns-in_err-blank-clause-err : goal.returns-in_err-blank-clause-err
returns-in_err-blank-clause-err g c = err-is _ _ _ c.from_residual-in_err-blank.ensures.1 (λ all known.
    let head = rw c.in-Some.is at c.in_ok-head.ensures.ok in
    let looks : LooksAhead Service all (Some c.in-Some.users.items) = names_all all head.0 _ _ _ _ _ c.in-Some.users.items _ known head.1 head.2 in
    stopped_by_store c.args.settings.limits.charge all _ _ c.in-Some.users.items _ _ _ looks known
    (none_serves _ _ _ _ _ _ (by_memory _ refl)
    (g.R.Read.remaining c.args.reader.now) (g.W.Write.contents c.args.writer.now) head.2.front (is_answered _ _ _ _ head.0 _ _ _ head.1 head.2)))

pub returns-clause-failed : goal.returns-clause-failed
returns-clause-failed g c = if_err c.serve_core.result (λ why h failed all known.
    let head = rw c.in-Some.is at c.in_ok-head.ensures.ok in
    let looks : LooksAhead Service all (Some c.in-Some.users.items) = names_all all head.0 _ _ _ _ _ c.in-Some.users.items _ known head.1 head.2 in
    so_far_by_store c.args.settings.limits.charge all _ _ c.in-Some.users.items _ _ looks known
    ((rw c.in_ok-core.ensures.setup at h) failed (g.R.Read.remaining c.args.reader.now) (g.W.Write.contents c.args.writer.now) head.2.front (is_answered _ _ _ _ head.0 _ _ _ head.1 head.2)))
    c.serve_core.ensures.failed

pub returns-clause-output_fault : goal.returns-clause-output_fault
returns-clause-output_fault g c = if_err c.serve_core.result (λ why f is.
    subst (λ n. HasFailed n (g.W.Faults.failed c.serve_core.new.writer)) c.in_ok-head.ensures.counts.1 (f is)) c.serve_core.ensures.output_fault

pub returns-in_default-clause-whole : goal.returns-in_default-clause-whole
returns-in_default-clause-whole g c = c.in_ok-head.ensures.whole c.in_default.is

pub returns-clause-whole : goal.returns-clause-whole
returns-clause-whole g c = on_ok c.serve_core.result (λ whole failed.
    whole (subst (λ n. HasFailed n (g.R.Faults.failed c.serve_core.new.reader)) (sym c.in_ok-head.ensures.counts.0) failed)) c.serve_core.ensures.whole
