use Rattle.std.proofs.Common.{◌≡◌, sym, ◌∙◌, ap, subst, rules, Ok, Err}
use Rattle.std.proofs.lemmas.Result.{err_from_is_err_and}
use Rattle.std.proofs.lemmas.List.Elements.{All-get_or}
use Rattle.model.specs.Goals.{in_status, is_building}
use Rattle.model.specs.Worlds.{Building}
use Rattle.model.specs.Replies as replies
use Rattle.events.specs.Terms.{reply_of}
use Rattle.handlers.specs.Sound.{IsSound}
use Rattle.handlers.proofs.TakeLemmas.{copied_here}
use Rattle.handlers.proofs.StateLemmas.{has_desk}
use Rattle.goals.proofs.StateLemmas.{with_goals}
use Rattle.goals.proofs.StartLemmas.{goal_closure, entered_there, entered_inside}
use Rattle.goals.proofs.StartedLemmas.{run_started, owned_started, no_memory_so, entered_so, left_job, owned_left}
use Rattle.goals.proofs.starting.start_anew.Goals as goal

pub returns-in_err-job : goal.returns-in_err-job
returns-in_err-job c =
    let p = err_from_is_err_and c.from_residual.result c.from_residual.ensures.1 in
    rw (p.1, p.2, c.in_err-job.ensures.memory) (no_memory_so c.args.state.now c.args.planned.place c.args.planned.number c.requires.of_run c.args.planned.resolved.now
    c.requires.planned)

pub returns-in_err-clone : goal.returns-in_err-clone
returns-in_err-clone c =
    let p = err_from_is_err_and c.from_residual-in_err-clone.result c.from_residual-in_err-clone.ensures.1 in
    rw (p.1, p.2) (no_memory_so c.args.state.now c.args.planned.place c.args.planned.number c.requires.of_run c.args.planned.resolved.now c.requires.planned)

pub returns-in_err-reply : goal.returns-in_err-reply
returns-in_err-reply c =
    let p = err_from_is_err_and c.from_residual-in_err-reply.result c.from_residual-in_err-reply.ensures.1 in
    rw (p.1, p.2) (no_memory_so c.args.state.now c.args.planned.place c.args.planned.number c.requires.of_run c.args.planned.resolved.now c.requires.planned)

pub enter-requires-clause-of_run : goal.enter-requires-clause-of_run
enter-requires-clause-of_run c = with_goals c.args.state.now c.args.planned.place c.requires.of_run

pub enter-requires-clause-idle : goal.enter-requires-clause-idle
enter-requires-clause-idle c = rw c.requires.planned.there (ap is_building c.requires.planned.planned)

pub returns-in_err-enter : goal.returns-in_err-enter
returns-in_err-enter c =
    let p = err_from_is_err_and c.from_residual-in_err-enter.result c.from_residual-in_err-enter.ensures.1 in
    rw (p.1, p.2, c.in_err-enter.ensures.memory, c.in_err-enter.ensures.kept)
    (no_memory_so c.args.state.now c.args.planned.place c.args.planned.number c.requires.of_run c.args.planned.resolved.now c.requires.planned)

pub copy_all-requires-clause-sound : goal.copy_all-requires-clause-sound
copy_all-requires-clause-sound c =
    let s = c.args.state.now in
    subst (IsSound s.table.sources s.limits.charge) (sym c.index_mut.ensures.value)
    (All-get_or (IsSound s.table.sources s.limits.charge) s.desks.items c.args.planned.place c.index_mut.result.now
    (has_desk s c.args.planned.place c.requires.of_run) s.run.sound)

pub copy_all-requires-clause-closure : goal.copy_all-requires-clause-closure
copy_all-requires-clause-closure c =
    let s = c.args.state.now in
    rw c.closure.ensures (goal_closure s.table.sources s.jobs.goals c.args.planned.place c.args.planned.number c.args.planned.resolved.now s.run.goals_sound c.requires.planned).0

pub leave_job-requires-clause-of_run : goal.leave_job-requires-clause-of_run
leave_job-requires-clause-of_run c =
    let s = c.args.state.now in
    let place = c.args.planned.place in
    let n = c.args.planned.number in
    let below = c.requires.of_run in
    let it = c.requires.planned in
    entered_inside s.jobs c.enter.new.self place n it.goal c.in_ok-job.job it.there (with_goals s place below)
    (c.in_ok-enter.ensures.entered it.goal it.there)

pub leave_job-requires-clause-there : goal.leave_job-requires-clause-there
leave_job-requires-clause-there c =
    let s = c.args.state.now in
    let place = c.args.planned.place in
    let n = c.args.planned.number in
    let below = c.requires.of_run in
    let it = c.requires.planned in
    entered_there s.jobs c.enter.new.self place n it.goal c.in_ok-job.job it.there (with_goals s place below)
    (c.in_ok-enter.ensures.entered it.goal it.there)

pub invariant_of-state-in-Ok : goal.invariant_of-state-in-Ok
invariant_of-state-in-Ok c =
    let s = c.args.state.now in
    let place = c.args.planned.place in
    let n = c.args.planned.number in
    let below = c.requires.of_run in
    let r = c.args.planned.resolved.now in
    let it = c.requires.planned in
    let result : c.copy_all.result ≡ Ok tt = search rules in
    let copies = copied_here s place below c.index_mut.result.now c.index_mut.ensures.value r.closure c.closure.result.now
    (Ok tt) c.copy_all.new.table.sources c.copy_all.new.desk c.closure.ensures (rw result at c.copy_all.ensures) in
    let starts = entered_so s place n below r it c.requires.none c.in_ok-job.job c.in_ok-job.ensures.value
    c.enter.new.self c.in_ok-enter.ensures.entered c.copy_all.new.table.sources c.copy_all.new.desk c.in_ok-reply.reply
    (ap reply_of c.in_ok-reply.ensures.reply ∙ ap (λ j. replies.Status (Building j)) c.in_ok-clone.ensures.cases) copies in
    record {
      run = run_started s place n below r it (Ok c.in_ok-reply.reply) c.enter.new.self c.copy_all.new.table.sources c.copy_all.new.desk starts;
      owned = owned_started s place n below r it (in_status (Building c.in_ok-job.job)) c.enter.new.self c.in_ok-enter.ensures.entered;
    }

pub returns-in-Ok : goal.returns-in-Ok
returns-in-Ok c =
    let s = c.args.state.now in
    let place = c.args.planned.place in
    let n = c.args.planned.number in
    let below = c.requires.of_run in
    let r = c.args.planned.resolved.now in
    let it = c.requires.planned in
    let result : c.copy_all.result ≡ Ok tt = search rules in
    let copies = copied_here s place below c.index_mut.result.now c.index_mut.ensures.value r.closure c.closure.result.now
    (Ok tt) c.copy_all.new.table.sources c.copy_all.new.desk c.closure.ensures (rw result at c.copy_all.ensures) in
    entered_so s place n below r it c.requires.none c.in_ok-job.job c.in_ok-job.ensures.value
    c.enter.new.self c.in_ok-enter.ensures.entered c.copy_all.new.table.sources c.copy_all.new.desk c.in_ok-reply.reply
    (ap reply_of c.in_ok-reply.ensures.reply ∙ ap (λ j. replies.Status (Building j)) c.in_ok-clone.ensures.cases) copies

pub invariant_of-state-in-Err-1 : goal.invariant_of-state-in-Err-1
invariant_of-state-in-Err-1 c =
    let s = c.args.state.now in
    let place = c.args.planned.place in
    let n = c.args.planned.number in
    let below = c.requires.of_run in
    let r = c.args.planned.resolved.now in
    let it = c.requires.planned in
    let why = c.in-Err.why in
    let copies = copied_here s place below c.index_mut.result.now c.index_mut.ensures.value r.closure c.closure.result.now
    (Err why) c.copy_all.new.table.sources c.copy_all.new.desk c.closure.ensures (rw c.in-Err.is at c.copy_all.ensures) in
    let starts = left_job s place n below r it c.requires.none c.in_ok-job.job c.in_ok-job.ensures.value
    c.enter.new.self c.in_ok-enter.ensures.entered c.copy_all.new.table.sources c.copy_all.new.desk
    why c.leave_job.new.jobs c.leave_job.ensures.left c.leave_job.result copies c.leave_job.ensures.told in
    record {
      run = run_started s place n below r it c.leave_job.result c.leave_job.new.jobs c.copy_all.new.table.sources c.copy_all.new.desk starts;
      owned = owned_left s place n below r it c.requires.none c.in_ok-job.job c.in_ok-job.ensures.value
          c.enter.new.self c.in_ok-enter.ensures.entered c.copy_all.new.table.sources c.copy_all.new.desk why c.leave_job.new.jobs c.leave_job.ensures.left;
    }

pub returns-in-Err : goal.returns-in-Err
returns-in-Err c =
    let s = c.args.state.now in
    let place = c.args.planned.place in
    let n = c.args.planned.number in
    let below = c.requires.of_run in
    let r = c.args.planned.resolved.now in
    let it = c.requires.planned in
    let why = c.in-Err.why in
    let copies = copied_here s place below c.index_mut.result.now c.index_mut.ensures.value r.closure c.closure.result.now
    (Err why) c.copy_all.new.table.sources c.copy_all.new.desk c.closure.ensures (rw c.in-Err.is at c.copy_all.ensures) in
    left_job s place n below r it c.requires.none c.in_ok-job.job c.in_ok-job.ensures.value
    c.enter.new.self c.in_ok-enter.ensures.entered c.copy_all.new.table.sources c.copy_all.new.desk
    why c.leave_job.new.jobs c.leave_job.ensures.left c.leave_job.result copies c.leave_job.ensures.told
