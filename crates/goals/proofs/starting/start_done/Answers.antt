use Rattle.std.proofs.Common.{◌≡◌, ◌≢◌, refl, sym, ◌∙◌, ap, subst, rules, List, Ok, Err}
use Rattle.std.proofs.lemmas.Result.{err_from_is_err_and}
use Rattle.std.proofs.lemmas.List.Elements.{All-get_or}
use Rattle.model.specs.declared.refusal.Refusal.TheVariants.{Quota}
use Rattle.model.specs.Worlds.{Entry, Done}
use Rattle.model.specs.Goals.{in_status}
use Rattle.model.specs.Events as events
use Rattle.model.specs.Replies as replies
use Rattle.events.specs.Terms.{reply_of}
use Rattle.jobs.specs.Owned.{ChangesGoal}
use Rattle.handlers.specs.Parts.{Parts}
use Rattle.handlers.specs.Sound.{IsSound}
use Rattle.handlers.specs.States.{parts_of}
use Rattle.handlers.specs.Handling.{IsHandledByAll}
use Rattle.handlers.specs.Taking.{IsLabelledBy, with_built}
use Rattle.handlers.proofs.TakeLemmas.{copied_here}
use Rattle.goals.specs.Starting.{HasNoRoom}
use Rattle.handlers.proofs.StateLemmas.{has_desk}
use Rattle.goals.proofs.StateLemmas.{with_goals}
use Rattle.goals.proofs.StartLemmas.{goal_closure}
use Rattle.goals.proofs.StartedLemmas.{run_started, owned_started, no_memory_so, both_stored, lacking_so, done_so, put_back, left_copies}
use Rattle.goals.proofs.starting.start_done.Goals as goal

pub returns-in_err-path : goal.returns-in_err-path
returns-in_err-path c =
    let p = err_from_is_err_and c.from_residual.result c.from_residual.ensures.1 in
    rw (p.1, p.2) (no_memory_so c.args.state.now c.args.planned.place c.args.planned.number c.requires.of_run c.args.planned.resolved.now c.requires.planned)

pub returns-in_err-clone : goal.returns-in_err-clone
returns-in_err-clone c =
    let p = err_from_is_err_and c.from_residual-in_err-clone.result c.from_residual-in_err-clone.ensures.1 in
    rw (p.1, p.2) (no_memory_so c.args.state.now c.args.planned.place c.args.planned.number c.requires.of_run c.args.planned.resolved.now c.requires.planned)

pub returns-in_err-reply : goal.returns-in_err-reply
returns-in_err-reply c =
    let p = err_from_is_err_and c.from_residual-in_err-reply.result c.from_residual-in_err-reply.ensures.1 in
    rw (p.1, p.2) (no_memory_so c.args.state.now c.args.planned.place c.args.planned.number c.requires.of_run c.args.planned.resolved.now c.requires.planned)

pub copy_with-requires-clause-sound : goal.copy_with-requires-clause-sound
copy_with-requires-clause-sound c =
    let s = c.args.state.now in
    subst (IsSound s.table.sources s.limits.charge) (sym c.index_mut.ensures.value)
    (All-get_or (IsSound s.table.sources s.limits.charge) s.desks.items c.args.planned.place c.index_mut.result.now
    (has_desk s c.args.planned.place c.requires.of_run) s.run.sound)

pub copy_with-requires-clause-closure : goal.copy_with-requires-clause-closure
copy_with-requires-clause-closure c =
    let s = c.args.state.now in
    rw c.closure.ensures (goal_closure s.table.sources s.jobs.goals c.args.planned.place c.args.planned.number c.args.planned.resolved.now s.run.goals_sound c.requires.planned).0

pub copy_with-requires-clause-labelled : goal.copy_with-requires-clause-labelled
copy_with-requires-clause-labelled c =
    subst (λ (entries : List Entry). IsLabelledBy entries c.args.built) (sym c.closure.ensures) (c.requires.built.labelled c.args.built refl)

pub set_status-requires-clause-of_run : goal.set_status-requires-clause-of_run
set_status-requires-clause-of_run c = with_goals c.args.state.now c.args.planned.place c.requires.of_run

pub set_status-requires-clause-there : goal.set_status-requires-clause-there
set_status-requires-clause-there c = rw c.requires.planned.there refl

pub invariant_of-state : goal.invariant_of-state
invariant_of-state c =
    let s = c.args.state.now in
    let place = c.args.planned.place in
    let n = c.args.planned.number in
    let below = c.requires.of_run in
    let r = c.args.planned.resolved.now in
    let it = c.requires.planned in
    let both : List Entry = with_built r.closure c.args.built in
    let result : c.copy_with.result ≡ Ok tt = search rules in
    let copies = copied_here s place below c.index_mut.result.now c.index_mut.ensures.value both
    (with_built c.closure.result.now c.args.built) (Ok tt) c.copy_with.new.table.sources c.copy_with.new.desk
    (ap (λ (es : List Entry). with_built es c.args.built) c.closure.ensures) (rw result at c.copy_with.ensures) in
    let path : c.in_ok-path.path ≡ c.args.built.path = c.in_ok-path.ensures.cases ∙ c.path.ensures in
    let told = ap reply_of c.in_ok-reply.ensures.reply ∙ ap (λ p. replies.Status (Done p)) (c.in_ok-clone.ensures.cases ∙ path) in
    let turns = subst (λ p. ChangesGoal place n (in_status (Done p)) s.jobs c.set_status.new.self) path c.set_status.ensures in
    let starts = done_so s place n below r it c.args.built c.requires.built c.set_status.new.self c.copy_with.new.table.sources c.copy_with.new.desk
    c.in_ok-reply.reply told turns copies in
    record {
      run = run_started s place n below r it (Ok c.in_ok-reply.reply) c.set_status.new.self c.copy_with.new.table.sources c.copy_with.new.desk starts;
      owned = owned_started s place n below r it (in_status (Done c.args.built.path)) c.set_status.new.self turns;
    }

pub returns-in-Ok : goal.returns-in-Ok
returns-in-Ok c =
    let s = c.args.state.now in
    let place = c.args.planned.place in
    let n = c.args.planned.number in
    let below = c.requires.of_run in
    let r = c.args.planned.resolved.now in
    let it = c.requires.planned in
    let both : List Entry = with_built r.closure c.args.built in
    let result : c.copy_with.result ≡ Ok tt = search rules in
    let copies = copied_here s place below c.index_mut.result.now c.index_mut.ensures.value both
    (with_built c.closure.result.now c.args.built) (Ok tt) c.copy_with.new.table.sources c.copy_with.new.desk
    (ap (λ (es : List Entry). with_built es c.args.built) c.closure.ensures) (rw result at c.copy_with.ensures) in
    let path : c.in_ok-path.path ≡ c.args.built.path = c.in_ok-path.ensures.cases ∙ c.path.ensures in
    let told = ap reply_of c.in_ok-reply.ensures.reply ∙ ap (λ p. replies.Status (Done p)) (c.in_ok-clone.ensures.cases ∙ path) in
    let turns = subst (λ p. ChangesGoal place n (in_status (Done p)) s.jobs c.set_status.new.self) path c.set_status.ensures in
    done_so s place n below r it c.args.built c.requires.built c.set_status.new.self c.copy_with.new.table.sources c.copy_with.new.desk
    c.in_ok-reply.reply told turns copies

pub fail_for_room-requires-clause-full : goal.fail_for_room-requires-clause-full
fail_for_room-requires-clause-full c =
    let s = c.args.state.now in
    let place = c.args.planned.place in
    let n = c.args.planned.number in
    let below = c.requires.of_run in
    let r = c.args.planned.resolved.now in
    let it = c.requires.planned in
    let both : List Entry = with_built r.closure c.args.built in
    let result : c.copy_with.result ≡ Err Quota = search rules in
    let copies = copied_here s place below c.index_mut.result.now c.index_mut.ensures.value both
    (with_built c.closure.result.now c.args.built) (Err Quota) c.copy_with.new.table.sources c.copy_with.new.desk
    (ap (λ (es : List Entry). with_built es c.args.built) c.closure.ensures) (rw result at c.copy_with.ensures) in
    let back = put_back s place n below r it both Quota c.copy_with.new.table.sources c.copy_with.new.desk copies in
    subst (λ (p : Parts). HasNoRoom p place n r) (sym back) (record {
      built = c.args.built;
      again = c.requires.built;
      over = left_copies s place n below r it both Quota c.copy_with.new.table.sources c.copy_with.new.desk copies;
    })

pub returns-in-Err-Quota : goal.returns-in-Err-Quota
returns-in-Err-Quota c =
    let s = c.args.state.now in
    let place = c.args.planned.place in
    let n = c.args.planned.number in
    let below = c.requires.of_run in
    let r = c.args.planned.resolved.now in
    let it = c.requires.planned in
    let both : List Entry = with_built r.closure c.args.built in
    let result : c.copy_with.result ≡ Err Quota = search rules in
    let copies = copied_here s place below c.index_mut.result.now c.index_mut.ensures.value both
    (with_built c.closure.result.now c.args.built) (Err Quota) c.copy_with.new.table.sources c.copy_with.new.desk
    (ap (λ (es : List Entry). with_built es c.args.built) c.closure.ensures) (rw result at c.copy_with.ensures) in
    let back = put_back s place n below r it both Quota c.copy_with.new.table.sources c.copy_with.new.desk copies in
    subst (λ (p : Parts). IsHandledByAll p place (events.Start n) c.fail_for_room.result (parts_of c.fail_for_room.new.state)) back c.fail_for_room.ensures

pub returns : goal.returns
returns c =
    let s = c.args.state.now in
    let place = c.args.planned.place in
    let n = c.args.planned.number in
    let below = c.requires.of_run in
    let r = c.args.planned.resolved.now in
    let it = c.requires.planned in
    let both : List Entry = with_built r.closure c.args.built in
    let why = c.in-Err.why in
    let other : why ≢ Quota = search rules in
    let copies = copied_here s place below c.index_mut.result.now c.index_mut.ensures.value both
    (with_built c.closure.result.now c.args.built) (Err why) c.copy_with.new.table.sources c.copy_with.new.desk
    (ap (λ (es : List Entry). with_built es c.args.built) c.closure.ensures) (rw c.in-Err.is at c.copy_with.ensures) in
    let starts = lacking_so s place n below r it both why c.copy_with.new.table.sources c.copy_with.new.desk
    (both_stored s place n below r it c.args.built c.requires.built) copies other in
    starts
