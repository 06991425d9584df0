use Rattle.std.proofs.Common.{◌≡◌, List, sym, ap, ◌∙◌, subst}
use Rattle.model.specs.Worlds.{Setup}
use Rattle.schedule.specs.Standing.{setup_of}
use Rattle.history.specs.declared.row.Row.{Row}
use Rattle.publishing.specs.declared.law.Shown.{Shown}
use Rattle.history.specs.Histories.{IsLegal}
use Rattle.publishing.specs.FrontNames.{name_of, setup_in}
use Rattle.publishing.specs.Publishing.{Published}
use Rattle.publishing.proofs.publisher.Publisher.show.Goals as goal

pub replace_with-requires : goal.replace_with-requires
replace_with-requires g c =
    let book = ap (λ s. s.book) c.clone.ensures ∙ c.requires.book in
    let setup = ap setup_of c.in-Ok.ensures ∙ c.requires.follows.given in
    let name : c.new-snapshot.result.name ≡ name_of g.J.FrontId.book g.J.FrontId.setup =
    ap (λ (t : Shown). t.name) c.new-snapshot.ensures ∙ (λ i. name_of (book i) (setup i)) in
    let seen : c.new-snapshot.result.seen ≡ c.args.rows.seen.log = ap (λ (t : Shown). t.seen) c.new-snapshot.ensures ∙ ap (λ s. s.log) c.clone.ensures in (
      c.self.invariant.3 (ap (λ (s : Published). s.whole) c.self.view_is ∙ c.requires.whole),
      (
        name ∙ sym c.self.invariant.2,
        subst (λ (x : Setup × List Row). IsLegal x.0 x.1) (λ i. (sym (ap setup_in name) i, sym seen i)) c.requires.follows.legal,
      ),
    )
