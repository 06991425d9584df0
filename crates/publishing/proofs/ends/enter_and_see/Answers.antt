use Rattle.std.proofs.Common.{◌≡◌, ◌∙◌, ap, refl}
use Rattle.publishing.specs.FrontNames.{book_in}
use Rattle.publishing.proofs.Ties.{turns_still, name_seen}
use Rattle.publishing.proofs.ends.enter_and_see.Goals as goal

pub enter_as-requires : goal.enter_as-requires
enter_as-requires c x = turns_still _ _ x x refl

pub returns-in-Ok-clause-book : goal.returns-in-Ok-clause-book
returns-in-Ok-clause-book c =
    let seen = c.seen-rows.ensures in
    let book : c.seen-rows.result.seen.book ≡ book_in c.get.result.now.name =
    λ i. record { number = seen.book.0 i; log_name = seen.book.1 i; cells_name = seen.book.2 i } in
    book ∙ ap book_in (name_seen _ _ _ c.get.result.now c.in-Ok.ensures.1 c.requires c.get.ensures)
