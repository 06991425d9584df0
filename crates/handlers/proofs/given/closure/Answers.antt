use Rattle.std.proofs.Common.{◌∙◌, ap, inl, refl, Err}
use Rattle.std.proofs.lemmas.Result.{err_from_is_err_and}
use Rattle.model.specs.declared.refusal.Refusal.TheVariants.{Memory}
use Rattle.model.specs.Events as events
use Rattle.model.specs.Replies as replies
use Rattle.events.specs.Terms.{reply_of}
use Rattle.trust.specs.Trusting.{trusts}
use Rattle.handlers.proofs.ClosureLemmas.{closure_handled, closure_refused}
use Rattle.handlers.proofs.StateLemmas.{by_sight}
use Rattle.handlers.proofs.given.closure.Goals as goal

pub returns-in_err-entries : goal.returns-in_err-entries
returns-in_err-entries c =
    let s = c.args.state.now in
    let p = err_from_is_err_and c.from_residual.result c.from_residual.ensures.1 in
    let why = c.in_err-entries.field-0.0 in
    rw (p.1, p.2) (by_sight s c.args.place (events.Closure c.args.class.now) (Err why)
    (closure_refused (trusts s.trust) s.limits.charge s.table.sources s.desks.items c.args.place c.args.class.now why c.in_err-entries.ensures.served))

pub returns-in_err-new : goal.returns-in_err-new
returns-in_err-new c =
    let s = c.args.state.now in
    let p = err_from_is_err_and c.from_residual-in_err-new.result c.from_residual-in_err-new.ensures.1 in
    let why = c.in_err-new.field-0.0 in
    rw (p.1, p.2) (by_sight s c.args.place (events.Closure c.args.class.now) (Err why)
    (closure_refused (trusts s.trust) s.limits.charge s.table.sources s.desks.items c.args.place c.args.class.now why
    (λ users limit goals actor listed found paired within. inl c.in_err-new.ensures)))

pub returns-in_err-new-2 : goal.returns-in_err-new-2
returns-in_err-new-2 c =
    let s = c.args.state.now in
    let p = err_from_is_err_and c.from_residual-in_err-new-2.result c.from_residual-in_err-new-2.ensures.1 in
    rw (p.1, p.2) (by_sight s c.args.place (events.Closure c.args.class.now) (Err Memory)
    (closure_refused (trusts s.trust) s.limits.charge s.table.sources s.desks.items c.args.place c.args.class.now Memory
    (λ users limit goals actor listed found paired within. inl refl)))

pub returns : goal.returns
returns c =
    let s = c.args.state.now in
    by_sight s c.args.place (events.Closure c.args.class.now) _
    (closure_handled (trusts s.trust) s.limits.charge s.table.sources s.desks.items c.args.place c.args.class.now c.in_ok-entries.entries.items _
    (λ users limit goals actor listed found paired within. (c.in_ok-entries.ensures.served users limit goals actor listed found paired within).are)
    (ap reply_of c.in_ok-new-2.ensures.reply ∙ ap replies.Closure c.in_ok-new.ensures))
