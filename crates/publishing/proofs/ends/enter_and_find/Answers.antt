use Rattle.std.proofs.Common.{◌≡◌, ◌∙◌, ap, List, refl, sym, subst}
use Rattle.history.specs.declared.row.Row.{Row}
use Rattle.history.specs.Histories.{IsLegal}
use Rattle.publishing.specs.declared.law.FrontName.{FrontName}
use Rattle.publishing.specs.declared.law.Shown.{Shown}
use Rattle.publishing.specs.FrontNames.{book_in, setup_in}
use Rattle.publishing.specs.Following.{IsOutlookAfter}
use Rattle.publishing.proofs.Ties.{turns_still, name_seen}
use Rattle.publishing.proofs.ends.enter_and_find.Goals as goal

pub enter_as-requires : goal.enter_as-requires
enter_as-requires c x = turns_still _ _ x x refl

pub returns-in-Ok-clause-found : goal.returns-in-Ok-clause-found
returns-in-Ok-clause-found c =
    let sees = c.in-Ok.ensures.1 in
    let same = c.get-snapshot.ensures in
    let name = name_seen _ _ _ c.get-snapshot.result.now sees c.requires same in
    let seen = c.seen-rows.ensures in
    let book : c.seen-rows.result.seen.book ≡ book_in c.get-snapshot.result.now.name =
    λ i. record { number = seen.book.0 i; log_name = seen.book.1 i; cells_name = seen.book.2 i } in
    record {
      book = book ∙ ap book_in name;
      legal = subst (λ (t : FrontName × List Row). IsLegal (setup_in t.0) t.1) (λ i. (name i, sym seen.log i))
          (subst (λ (t : Shown). IsLegal (setup_in t.name) t.seen) (sym same) sees.0);
      outlook = subst (λ (t : FrontName × List Row). IsOutlookAfter (setup_in t.0) t.1 c.args.goal.0.now c.args.goal.1 c.outlook-found.result)
          (λ i. (name i, sym seen.log i)) c.outlook-found.ensures;
    }
