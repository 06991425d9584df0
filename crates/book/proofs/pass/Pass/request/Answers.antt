use Rattle.std.proofs.Common.{List, length, ap, sym, ◌∙◌, subst}
use mathlib.Core.List.{IsPrefix}
use Rattle.history.specs.declared.row.Row.{Row}
use Rattle.history.specs.Callers.{stops_of}
use Rattle.book.specs.Keeping.{Contents}
use Rattle.book.specs.Asking.{IsAskedAfter}
use Rattle.book.proofs.CallLemmas.{sure_asked}
use Rattle.book.proofs.AskingLemmas.{after_all, is_asked_alone}
use Rattle.book.proofs.pass.Pass.request.Goals as goal

pub returns : goal.returns
returns g c =
    let asked = c.request-told.ensures in
    let rows = c.seen-2.ensures.0 ∙ ap (λ (b : Contents). b.rows) asked.stays in
    rw (← c.self.view_is) (record {
      by = record {
        asked = λ going.
            subst (λ (all : List Row). IsAskedAfter g.J.FrontId.setup all c.args.user.now c.args.number c.request-told.result) (sym rows)
            (after_all g.J.FrontId.setup c.args.book.now c.args.user.now c.args.number c.request-told.result c.kept_closures_are_good.ensures
            asked.legal asked.given asked.reached asked.value asked.stopped going);
        seen = subst (λ (all : List Row). IsPrefix c.self.inside.seen.seen.log all) (sym rows)
            (subst (λ (all : List Row). IsPrefix c.self.inside.seen.seen.log all) c.seen.ensures.0 (rw c.insist.ensures at c.begins.ensures));
        going = λ going i. record { caller = asked.going going i; seen = c.seen-2.result.seen.log; stops = asked.part.1 i };
        stopped = λ told i. record { caller = asked.told told i; seen = c.seen-2.result.seen.log; stops = asked.part.1 i };
        remains = λ was. asked.stopped (asked.matches.stopped_too was);
      };
      alone = is_asked_alone g.J.FrontId.setup c.args.book.now c.args.user.now c.args.number c.request-told.result c.kept_closures_are_good.ensures
          asked.legal asked.given asked.reached asked.value asked.stopped c.self.inside.account.caller.sure _ asked.alone;
      stopped_alone = λ only told. asked.stops_alone only ∙ ap stops_of (asked.only_then told);
    })

pub invariant_of-self : goal.invariant_of-self
invariant_of-self g c =
    let old = c.self.inside in
    let rows = c.seen-2.ensures.0 ∙ ap (λ (b : Contents). b.rows) c.request-told.ensures.stays in
    let sure = sure_asked old.account.caller c.request-told.new.account.caller c.request-told.result c.request-told.ensures.going c.request-told.ensures.told in (
      subst (λ (all : List Row). IsPrefix c.request-told.new.account.caller.sure all) (sym rows)
          (subst (λ (begun : List Row). IsPrefix begun c.args.book.now.rows) (sym sure) c.request-told.ensures.matches.sure),
      c.seen-2.ensures.1,
      c.self.invariant.2,
      c.self.invariant.3 ∙ ap length (sym sure),
      c.request-told.ensures.part.0,
    )
