use Rattle.std.proofs.Common.{◌≡◌, ◌≢◌, List, sym, ap, ◌∙◌, subst}
use Rattle.model.specs.declared.refusal.Refusal.TheVariants.{Stopped}
use Rattle.events.specs.declared.reply.Reply.{Reply}
use Rattle.events.specs.declared.reply.Reply.TheVariants.{Refused}
use Rattle.schedule.specs.Queries.{event_for}
use Rattle.history.specs.declared.row.Row.{Row}
use Rattle.history.specs.Histories.{IsReadAfter}
use Rattle.book.proofs.last_closure.LastClosure.new.Goals as goal

pub invariant_of-result : goal.invariant_of-result
invariant_of-result g c =
    let setup = g.J.FrontId.setup in
    let is : c.in_ok-copy_of.field-0 ≡ c.args.reply.now = c.in_ok-copy_of.ensures in
    let told = c.is_closure_within.ensures.recorded c.if-is_closure_within.true in (
      ap (λ s. s.book) c.clone.ensures ∙ c.requires.book,
      subst (λ (r : Reply). r ≢ Refused Stopped) (sym is) c.requires.going,
      λ number. subst (λ (x : List Row × Reply). IsReadAfter setup number x.0 (event_for c.args.query) x.1)
          (λ i. (sym (ap (λ s. s.log) c.clone.ensures) i, sym is i)) (c.requires.read told number),
    )
