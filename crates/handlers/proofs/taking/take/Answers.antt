use Rattle.std.proofs.Common.{◌≡◌, List, None, Some, Ok, Err, inl, refl, sym, ◌∙◌, ap, subst, rules, ◌⊎◌}
use Rattle.std.proofs.lemmas.Result.{err_from_is_err_and}
use Rattle.model.specs.declared.refusal.Refusal.TheVariants.{Memory, NotRealised}
use Rattle.model.specs.Closures.{path_for}
use Rattle.model.specs.Events as events
use Rattle.model.specs.Worlds.{Entry}
use Rattle.trust.specs.Trusting.{trusts}
use Rattle.events.specs.Terms.{reply_of}
use Rattle.handlers.specs.States.{parts_of}
use Rattle.handlers.proofs.RunLemmas.{by_own_observation}
use Rattle.handlers.proofs.StateLemmas.{by_sight}
use Rattle.handlers.proofs.TakeLemmas.{take_unserved, take_unnamed, take_done, take_refused, copied_here, run_taken}
use Rattle.handlers.proofs.taking.take.Goals as goal

pub returns-in_err-entries-clause-handled : goal.returns-in_err-entries-clause-handled
returns-in_err-entries-clause-handled c =
    let s = c.args.state.now in
    let p = err_from_is_err_and c.from_residual.result c.from_residual.ensures.1 in
    let why = c.in_err-entries.field-0.0 in
    rw (p.1, p.2) (by_sight s c.args.place (events.Take c.args.class.now) (Err why)
    (take_unserved c.served_are_made.ensures (trusts s.trust) s.limits.charge s.table.sources s.desks.items c.args.place c.args.class.now why
    c.in_err-entries.ensures.served))

pub returns-in_err-path-clause-handled : goal.returns-in_err-path-clause-handled
returns-in_err-path-clause-handled c =
    let s = c.args.state.now in
    let p = err_from_is_err_and c.from_residual-in_err-path.result c.from_residual-in_err-path.ensures.1 in
    let why = c.in_err-path.field-0.0 in
    rw (p.1, p.2) (by_sight s c.args.place (events.Take c.args.class.now) (Err why)
    (take_unnamed c.served_are_made.ensures (trusts s.trust) s.limits.charge s.table.sources s.desks.items c.args.place c.args.class.now
    c.in_ok-entries.entries.items c.in_ok-entries.ensures.served why
    (subst (λ (es : List Entry). (why ≡ Memory) ⊎ ((why ≡ NotRealised) × (path_for c.args.class.now es ≡ None))) c.deref.ensures.value c.in_err-path.ensures)))

pub returns-in_err-reply-clause-handled : goal.returns-in_err-reply-clause-handled
returns-in_err-reply-clause-handled c =
    let s = c.args.state.now in
    let p = err_from_is_err_and c.from_residual-in_err-reply.result c.from_residual-in_err-reply.ensures.1 in
    rw (p.1, p.2) (by_sight s c.args.place (events.Take c.args.class.now) (Err Memory)
    (take_unnamed c.served_are_made.ensures (trusts s.trust) s.limits.charge s.table.sources s.desks.items c.args.place c.args.class.now
    c.in_ok-entries.entries.items c.in_ok-entries.ensures.served Memory (inl refl)))

pub invariant_of-state : goal.invariant_of-state
invariant_of-state c =
    let s = c.args.state.now in
    let named : path_for c.args.class.now c.in_ok-entries.entries.items ≡ Some c.in_ok-path.path =
    ap (path_for c.args.class.now) (sym c.deref.ensures.value) ∙ c.in_ok-path.ensures in
    let copies = copied_here s c.args.place c.requires c.index_mut.result.now c.index_mut.ensures.value c.in_ok-entries.entries.items
    c.deref-2.result.now c.copy_all.result
    c.copy_all.new.table.sources c.copy_all.new.desk c.deref-2.ensures.value c.copy_all.ensures in
    record {
      run = run_taken c.served_are_made.ensures s c.args.place c.requires c.args.class.now c.in_ok-entries.entries.items c.in_ok-entries.ensures.served
          c.in_ok-path.path named c.copy_all.result c.copy_all.new.table.sources c.copy_all.new.desk copies;
      owned = s.owned;
    }

pub returns-in_err-copy_all-clause-handled : goal.returns-in_err-copy_all-clause-handled
returns-in_err-copy_all-clause-handled c =
    let s = c.args.state.now in
    let p = err_from_is_err_and c.from_residual-in_err-copy_all.result c.from_residual-in_err-copy_all.ensures.1 in
    let why = c.in_err-copy_all.field-0.0 in
    let result : c.copy_all.result ≡ Err why = search rules in
    let named : path_for c.args.class.now c.in_ok-entries.entries.items ≡ Some c.in_ok-path.path =
    ap (path_for c.args.class.now) (sym c.deref.ensures.value) ∙ c.in_ok-path.ensures in
    let copies = copied_here s c.args.place c.requires c.index_mut.result.now c.index_mut.ensures.value c.in_ok-entries.entries.items
    c.deref-2.result.now (Err why)
    c.copy_all.new.table.sources c.copy_all.new.desk c.deref-2.ensures.value (rw result at c.copy_all.ensures) in
    rw (p.1, p.2) (by_own_observation (parts_of s) c.args.place (events.Take c.args.class.now) (Err why) c.copy_all.new.table.sources c.copy_all.new.desk s.run
    (take_refused c.served_are_made.ensures (trusts s.trust) s.limits.charge s.table.sources s.desks.items c.args.place c.args.class.now
    c.in_ok-entries.entries.items c.in_ok-entries.ensures.served c.in_ok-path.path named c.copy_all.new.table.sources c.copy_all.new.desk why copies))

pub returns-clause-handled : goal.returns-clause-handled
returns-clause-handled c =
    let s = c.args.state.now in
    let result : c.copy_all.result ≡ Ok tt = search rules in
    let named : path_for c.args.class.now c.in_ok-entries.entries.items ≡ Some c.in_ok-path.path =
    ap (path_for c.args.class.now) (sym c.deref.ensures.value) ∙ c.in_ok-path.ensures in
    let copies = copied_here s c.args.place c.requires c.index_mut.result.now c.index_mut.ensures.value c.in_ok-entries.entries.items
    c.deref-2.result.now (Ok tt)
    c.copy_all.new.table.sources c.copy_all.new.desk c.deref-2.ensures.value (rw result at c.copy_all.ensures) in
    by_own_observation (parts_of s) c.args.place (events.Take c.args.class.now) _ c.copy_all.new.table.sources c.copy_all.new.desk s.run
    (take_done c.served_are_made.ensures (trusts s.trust) s.limits.charge s.table.sources s.desks.items c.args.place c.args.class.now
    c.in_ok-entries.entries.items c.in_ok-entries.ensures.served c.in_ok-path.path named c.copy_all.new.table.sources c.copy_all.new.desk _
    (ap reply_of c.in_ok-reply.ensures.reply) copies)
