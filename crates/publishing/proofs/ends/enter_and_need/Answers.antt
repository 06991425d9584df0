use Rattle.std.proofs.Common.{◌≡◌, ◌∙◌, ap, List, refl, sym, subst}
use Rattle.std.specs.Prelude.{IfOk}
use Rattle.history.specs.declared.row.Row.{Row}
use Rattle.events.specs.Terms.{event_of}
use Rattle.publishing.specs.declared.law.FrontName.{FrontName}
use Rattle.publishing.specs.FrontNames.{book_in, setup_in}
use Rattle.publishing.specs.Following.{IsNeedAfter}
use Rattle.publishing.proofs.Ties.{turns_still, name_seen}
use Rattle.publishing.proofs.ends.enter_and_need.Goals as goal

pub enter_as-requires : goal.enter_as-requires
enter_as-requires c x = turns_still _ _ x x refl

pub returns-in-Ok-clause-needed : goal.returns-in-Ok-clause-needed
returns-in-Ok-clause-needed c =
    let name = name_seen _ _ _ c.get-snapshot.result.now c.in-Ok.ensures.1 c.requires c.get-snapshot.ensures in
    let seen = c.seen-rows.ensures in
    let book : c.seen-rows.result.seen.book ≡ book_in c.get-snapshot.result.now.name =
    λ i. record { number = seen.book.0 i; log_name = seen.book.1 i; cells_name = seen.book.2 i } in
    record {
      book = book ∙ ap book_in name;
      need = subst (λ (t : FrontName × List Row). IfOk c.need-needed.result (IsNeedAfter (setup_in t.0) t.1 (event_of c.args.preparation.event.now)))
          (λ i. (name i, sym seen.log i)) c.need-needed.ensures.need;
      memory = c.need-needed.ensures.memory;
    }
