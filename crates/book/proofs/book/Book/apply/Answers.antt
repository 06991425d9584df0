use Rattle.std.proofs.Common.{List, [], ◌∷◌, ◌++◌, length, ap, sym, ◌∙◌, subst}
use mathlib.Core.List.{IsPrefix}
use Rattle.history.specs.declared.row.Row.{Row}
use Rattle.history.specs.Callers.{Caller, answered, stops_of}
use Rattle.history.specs.Histories.{row, IsLegal}
use Rattle.book.proofs.CallLemmas.{sure_seen, sure_counted, seen_grows}
use Rattle.book.proofs.book.Book.apply.Given.{Over}
use Rattle.book.proofs.book.Book.apply.Goals.{After-sure_after}
use Rattle.book.proofs.book.Book.apply.Goals as goal

-- all that it had seen is among all rows
begins : (g : Over) (c : After-sure_after g) → IsPrefix c.pass.inside.seen.seen.log c.args.self.now.rows
begins g c = subst (λ (rows : List Row). IsPrefix c.pass.inside.seen.seen.log rows) c.seen.ensures.0 (rw c.insist.ensures at c.begins.ensures)

pub invariant_of-pass : goal.invariant_of-pass
invariant_of-pass g c =
    let old = c.pass.inside in
    let told = c.answer-reply.ensures in
    let new : Caller = c.answer-reply.new.account.caller in
    let reply = c.answer-reply.result in
    let rows : List Row = c.answer-reply.new.self.rows in (
      subst (λ (all : List Row). IsPrefix new.sure all) (sym c.seen-2.ensures.0)
          (sure_seen old.account.caller new reply c.args.self.now.rows rows told.applied.counted told.applied.memory told.applied.told told.applied.no_row told.applied.matches.sure),
      c.seen-2.ensures.1,
      c.pass.invariant.2,
      sure_counted old.account.caller new reply c.args.self.now.rows rows told.applied.counted told.applied.memory told.applied.told old.sure c.len.result c.sure_after.result c.pass.invariant.3
          (c.len.ensures ∙ ap length c.seen-2.ensures.0) c.sure_after.ensures,
      told.part,
    )

pub returns-clause-called : goal.returns-clause-called
returns-clause-called g c =
    let applied = c.answer-reply.ensures.applied in
    let then = (goal.at.returns-clause-called g c).After-sure_after in
    let event_row : Row = row c.pass.inside.account.caller.number c.args.event c.answer-reply.result in
    rw (← c.pass.view_is) (record {
      answered = λ some. record {
        before = c.args.self.now.rows;
        longer = begins g then;
        sure = applied.counted some ∙ ap (λ (rows : List Row). answered c.pass.inside.account.caller rows) (applied.row some);
        seen = c.seen-2.ensures.0 ∙ applied.row some;
        legal = subst (λ (rows : List Row). IsLegal g.J.FrontId.setup rows) (applied.row some) applied.legal;
      };
      alone = λ some only.
          ap (λ (p : Caller). p.sure) (applied.counted some)
          ∙ (applied.row some ∙ ap (λ (rows : List Row). rows ++ event_row ∷ []) (sym (applied.alone only)));
      memory = applied.memory;
      stopped = applied.told;
      seen = subst (λ (rows : List Row). IsPrefix c.pass.inside.seen.seen.log rows) (sym c.seen-2.ensures.0)
          (seen_grows c.answer-reply.result c.pass.inside.seen.seen.log c.args.self.now.rows c.answer-reply.new.self.rows event_row
          applied.row applied.no_row (begins g then));
      no_stop = applied.no_stop;
      stopped_alone = λ only told. applied.stops_alone only ∙ ap stops_of (applied.only_then told);
    })
