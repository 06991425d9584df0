use Rattle.std.proofs.Common.{◌⊎◌, inl, inr, refl, sym, ap, subst, Result, Ok, Err}
use Rattle.std.proofs.lemmas.Result.{err_from_is_err_and}
use Rattle.std.proofs.lemmas.List.Elements.{All-get_or}
use Rattle.model.specs.declared.refusal.Refusal.{Refusal}
use Rattle.model.specs.declared.refusal.Refusal.TheVariants.{Quota}
use Rattle.model.specs.Goals.{in_status}
use Rattle.model.specs.Worlds.{Failed}
use Rattle.events.specs.declared.reply.Reply.TheVariants.{Status as StatusReply}
use Rattle.events.specs.declared.status.Status.TheVariants as status
use Rattle.events.specs.Terms.{reply_of}
use Rattle.handlers.specs.Sound.{IsSound}
use Rattle.handlers.specs.Viewing.{desk_at}
use Rattle.handlers.specs.Taking.{CopiesEntries}
use Rattle.handlers.proofs.TakeLemmas.{copied_here}
use Rattle.handlers.proofs.StateLemmas.{has_desk}
use Rattle.goals.proofs.StateLemmas.{with_goals}
use Rattle.goals.proofs.StartLemmas.{goal_closure}
use Rattle.goals.proofs.StartedLemmas.{run_started, owned_started, its_closure, lacking_so, failed_so}
use Rattle.goals.proofs.starting.fail_for_room.Goals as goal

pub copy_all-requires-clause-sound : goal.copy_all-requires-clause-sound
copy_all-requires-clause-sound c =
    let s = c.args.state.now in
    subst (IsSound s.table.sources s.limits.charge) (sym c.index_mut.ensures.value)
    (All-get_or (IsSound s.table.sources s.limits.charge) s.desks.items c.args.planned.place c.index_mut.result.now
    (has_desk s c.args.planned.place c.requires.of_run) s.run.sound)

pub copy_all-requires-clause-closure : goal.copy_all-requires-clause-closure
copy_all-requires-clause-closure c =
    let s = c.args.state.now in
    rw c.closure.ensures (goal_closure s.table.sources s.jobs.goals c.args.planned.place c.args.planned.number c.args.planned.resolved.now s.run.goals_sound c.requires.planned).0

pub set_status-requires-clause-of_run : goal.set_status-requires-clause-of_run
set_status-requires-clause-of_run c = with_goals c.args.state.now c.args.planned.place c.requires.of_run

pub set_status-requires-clause-there : goal.set_status-requires-clause-there
set_status-requires-clause-there c = rw c.requires.planned.there refl

pub invariant_of-state : goal.invariant_of-state
invariant_of-state c =
    let s = c.args.state.now in
    let place = c.args.planned.place in
    let n = c.args.planned.number in
    let below = c.requires.of_run in
    let r = c.args.planned.resolved.now in
    let it = c.requires.planned in
    let why = c.in_err-unless_full.field-0.0 in
    let told = c.in_err-unless_full.ensures in
    let copies = copied_here s place below c.index_mut.result.now c.index_mut.ensures.value r.closure c.closure.result.now
    (Err why) c.copy_all.new.table.sources c.copy_all.new.desk c.closure.ensures (rw told.0 at c.copy_all.ensures) in
    let starts = lacking_so s place n below r it r.closure why c.copy_all.new.table.sources c.copy_all.new.desk
    (its_closure s place n below r it) copies told.1 in
    record {
      run = run_started s place n below r it (Err why) s.jobs c.copy_all.new.table.sources c.copy_all.new.desk starts;
      owned = s.owned;
    }

pub returns-in_err-unless_full : goal.returns-in_err-unless_full
returns-in_err-unless_full c =
    let p = err_from_is_err_and c.from_residual.result c.from_residual.ensures.1 in
    let s = c.args.state.now in
    let place = c.args.planned.place in
    let n = c.args.planned.number in
    let below = c.requires.of_run in
    let r = c.args.planned.resolved.now in
    let it = c.requires.planned in
    let why = c.in_err-unless_full.field-0.0 in
    let told = c.in_err-unless_full.ensures in
    let copies = copied_here s place below c.index_mut.result.now c.index_mut.ensures.value r.closure c.closure.result.now
    (Err why) c.copy_all.new.table.sources c.copy_all.new.desk c.closure.ensures (rw told.0 at c.copy_all.ensures) in
    let starts = lacking_so s place n below r it r.closure why c.copy_all.new.table.sources c.copy_all.new.desk
    (its_closure s place n below r it) copies told.1 in
    rw (p.1, p.2) starts

pub invariant_of-state-2 : goal.invariant_of-state-2
invariant_of-state-2 c =
    let s = c.args.state.now in
    let place = c.args.planned.place in
    let n = c.args.planned.number in
    let below = c.requires.of_run in
    let r = c.args.planned.resolved.now in
    let it = c.requires.planned in
    let P : Result (Unit {0}) Refusal → Type 0 = λ o. CopiesEntries s.limits.charge s.table.sources (desk_at s.desks.items place)
    r.closure o c.copy_all.new.table.sources c.copy_all.new.desk in
    let copies : P c.copy_all.result = copied_here s place below c.index_mut.result.now c.index_mut.ensures.value r.closure
    c.closure.result.now c.copy_all.result c.copy_all.new.table.sources c.copy_all.new.desk c.closure.ensures c.copy_all.ensures in
    let either : P (Ok tt) ⊎ P (Err Quota) =
    elim c.in_ok-unless_full.ensures [ inl done ↦ inl (subst P done copies) | inr full ↦ inr (subst P full copies) ] in
    let starts = failed_so s place n below r it c.requires.full (StatusReply (status.Failed Quota)) refl c.set_status.new.self c.set_status.ensures
    c.copy_all.new.table.sources c.copy_all.new.desk either in
    record {
      run = run_started s place n below r it (Ok (StatusReply (status.Failed Quota))) c.set_status.new.self c.copy_all.new.table.sources
          c.copy_all.new.desk starts;
      owned = owned_started s place n below r it (in_status (Failed Quota)) c.set_status.new.self c.set_status.ensures;
    }

pub returns : goal.returns
returns c =
    let s = c.args.state.now in
    let place = c.args.planned.place in
    let n = c.args.planned.number in
    let below = c.requires.of_run in
    let r = c.args.planned.resolved.now in
    let it = c.requires.planned in
    let P : Result (Unit {0}) Refusal → Type 0 = λ o. CopiesEntries s.limits.charge s.table.sources (desk_at s.desks.items place)
    r.closure o c.copy_all.new.table.sources c.copy_all.new.desk in
    let copies : P c.copy_all.result = copied_here s place below c.index_mut.result.now c.index_mut.ensures.value r.closure
    c.closure.result.now c.copy_all.result c.copy_all.new.table.sources c.copy_all.new.desk c.closure.ensures c.copy_all.ensures in
    let either : P (Ok tt) ⊎ P (Err Quota) =
    elim c.in_ok-unless_full.ensures [ inl done ↦ inl (subst P done copies) | inr full ↦ inr (subst P full copies) ] in
    failed_so s place n below r it c.requires.full c.failed.result (ap reply_of c.failed.ensures) c.set_status.new.self c.set_status.ensures
    c.copy_all.new.table.sources c.copy_all.new.desk either
