use Rattle.std.proofs.Common.{◌≡◌, ◌<◌, true, false, refl, sym, ◌∙◌, ap, arith, Ok, Err}
use Rattle.std.specs.Prelude.{bytes_eq}
use Rattle.std.specs.List.{list_any}
use Rattle.model.specs.declared.refusal.Refusal.TheVariants.{NotHeld, InUse}
use Rattle.model.specs.Events as events
use Rattle.trust.specs.Trusting.{holds, trusts}
use Rattle.jobs.specs.Owned.{OwnedByAll}
use Rattle.events.specs.declared.reply.Reply.TheVariants.{Ok as OkReply}
use Rattle.events.specs.Terms.{reply_of}
use Rattle.realise.specs.Held.{paths_held}
use Rattle.desk_records.specs.RecordLists.{is_recorded_at}
use Rattle.realise.specs.Holdings.{Holdings, without_records}
use Rattle.handlers.specs.States.{parts_of}
use Rattle.handlers.specs.Viewing.{desk_at}
use Rattle.handlers.proofs.RunLemmas.{still_run}
use Rattle.goals.proofs.StateLemmas.{few_of, own_desk, left_so}
use Rattle.goals.proofs.ForgetLemmas.{forget_absent, forget_used}
use Rattle.goals.proofs.ForgottenLemmas.{forgotten}
use Rattle.goals.proofs.forgetting.forget.Goals as goal

pub returns-then-not-has_record_at : goal.returns-then-not-has_record_at
returns-then-not-has_record_at c =
    let s = c.args.state.now in
    let class = c.args.class.now in
    let path = c.args.path.now in
    let d : Holdings = c.index.result.now in
    let none : list_any (is_recorded_at class path) (desk_at s.desks.items c.args.place).records ≡ false =
    ap (λ (x : Holdings). list_any (is_recorded_at class path) x.records) (sym (own_desk s c.args.place c.requires d) ∙ sym c.index.ensures)
    ∙ sym c.has_record_at.ensures ∙ c.if-not-has_record_at.true in
    left_so s c.args.place (events.Forget class path) (Err NotHeld) (λ actor found.
    forget_absent s.users s.limits.charge (trusts s.trust) s.jobs.goals s.table.sources s.desks.items c.args.place class path s.run.listed
    s.run.paired s.run.sound s.run.goals_sound s.run.within actor found none)

pub closure-reached-requires : goal.closure-reached-requires
closure-reached-requires c = let few = few_of c.args.state.now in let below : c.args.place < _ = c.requires in omega (arith, few, below)

pub returns-then-is_in_use : goal.returns-then-is_in_use
returns-then-is_in_use c =
    let s = c.args.state.now in
    let class = c.args.class.now in
    let path = c.args.path.now in
    let d : Holdings = c.index.result.now in
    let there : list_any (is_recorded_at class path) (desk_at s.desks.items c.args.place).records ≡ true =
    ap (λ (x : Holdings). list_any (is_recorded_at class path) x.records) (sym (own_desk s c.args.place c.requires d) ∙ sym c.index.ensures)
    ∙ sym c.has_record_at.ensures ∙ c.if-not-has_record_at.false in
    left_so s c.args.place (events.Forget class path) (Err InUse) (λ actor found.
    forget_used s.users s.limits.charge (trusts s.trust) s.jobs.goals s.table.sources s.desks.items c.args.place class path s.run.listed
    s.run.paired s.run.sound s.run.goals_sound s.run.within actor found (holds c.closure-reached.result) c.closure-reached.ensures there
    (sym c.is_in_use.ensures ∙ c.if-is_in_use.true))

pub invariant_of-state : goal.invariant_of-state
invariant_of-state c =
    let s = c.args.state.now in
    let class = c.args.class.now in
    let path = c.args.path.now in
    let d : Holdings = c.index.result.now in
    let there : list_any (is_recorded_at class path) (desk_at s.desks.items c.args.place).records ≡ true =
    ap (λ (x : Holdings). list_any (is_recorded_at class path) x.records) (sym (own_desk s c.args.place c.requires d) ∙ sym c.index.ensures)
    ∙ sym c.has_record_at.ensures ∙ c.if-not-has_record_at.false in
    let free = sym c.is_in_use.ensures ∙ c.if-is_in_use.false in
    let own = c.index_mut.ensures.value ∙ own_desk s c.args.place c.requires c.index_mut.result.now in
    let held : list_any (bytes_eq path) (paths_held (desk_at s.desks.items c.args.place).archives) ≡ true =
    ap (λ (x : Holdings). list_any (bytes_eq path) (paths_held x.archives)) (sym own) ∙ c.forget.ensures.held in
    let after : c.forget.new.self ≡ without_records class path (desk_at s.desks.items c.args.place) =
    c.forget.ensures.value ∙ ap (without_records class path) own in
    let handled = forgotten s c.args.place class path (holds c.closure-reached.result) c.closure-reached.ensures there free held OkReply refl c.let_go.new.self
    c.forget.new.self c.let_go.ensures after in
    record {
      run = still_run (parts_of s) _ c.args.place (events.Forget class path) (Ok OkReply) s.run c.requires handled;
      owned = ap (λ (j : OwnedByAll). j.users) c.let_go.ensures ∙ s.owned;
    }

pub returns : goal.returns
returns c =
    let s = c.args.state.now in
    let class = c.args.class.now in
    let path = c.args.path.now in
    let d : Holdings = c.index.result.now in
    let there : list_any (is_recorded_at class path) (desk_at s.desks.items c.args.place).records ≡ true =
    ap (λ (x : Holdings). list_any (is_recorded_at class path) x.records) (sym (own_desk s c.args.place c.requires d) ∙ sym c.index.ensures)
    ∙ sym c.has_record_at.ensures ∙ c.if-not-has_record_at.false in
    let free = sym c.is_in_use.ensures ∙ c.if-is_in_use.false in
    let own = c.index_mut.ensures.value ∙ own_desk s c.args.place c.requires c.index_mut.result.now in
    let held : list_any (bytes_eq path) (paths_held (desk_at s.desks.items c.args.place).archives) ≡ true =
    ap (λ (x : Holdings). list_any (bytes_eq path) (paths_held x.archives)) (sym own) ∙ c.forget.ensures.held in
    let after : c.forget.new.self ≡ without_records class path (desk_at s.desks.items c.args.place) =
    c.forget.ensures.value ∙ ap (without_records class path) own in
    forgotten s c.args.place class path (holds c.closure-reached.result) c.closure-reached.ensures there free held c.done.result (ap reply_of c.done.ensures)
    c.let_go.new.self c.forget.new.self c.let_go.ensures after
