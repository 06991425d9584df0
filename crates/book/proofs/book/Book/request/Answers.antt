use Rattle.std.proofs.Common.{◌≡◌, List, ℕ, map, ap, ◌∙◌}
use Rattle.std.specs.Arc.{arc_value}
use Rattle.std.proofs.lemmas.List.Elements.{All-contains_itself}
use Rattle.model.specs.Worlds.{nothing}
use Rattle.model.specs.HashedTexts.{hashed}
use Rattle.history.specs.Histories.{events_of}
use Rattle.book.specs.Keeping.{Contents}
use Rattle.book.proofs.KeepingLemmas.{is_legal, sure_of_all}
use Rattle.book.proofs.book.Book.request.Given.{Over}
use Rattle.book.proofs.book.Book.request.Goals.{After-audit-2}
use Rattle.book.proofs.book.Book.request.Goals as goal

-- the only pass
only_pass : (g : Over) (c : After-audit-2 g) → g.J.Ledger.parts ≡ 1 → c.args.account.now.caller.sure ≡ c.args.self.now.rows
only_pass g c one =
    let inside = c.self.inside in
    sure_of_all c.args.account.now.caller.sure c.compare.new.self.sure inside.log.rows (map arc_value inside.history.items) _ c.compare.ensures.matches.sure
    c.self.invariant.4 c.compare.ensures.sure (c.audit.ensures.alone one).0 c.self.invariant.1 ∙ ap (λ (b : Contents). b.rows) c.self.view_is

pub returns-clause-alone : goal.returns-clause-alone
returns-clause-alone g c = only_pass g ((goal.at.returns-clause-alone g c).After-audit-2)

pub returns-clause-legal : goal.returns-clause-legal
returns-clause-legal g c =
    rw (← c.self.view_is) (is_legal g.J.FrontId.setup c.self.inside.cores c.self.inside.stopped (map arc_value c.self.inside.history.items)
    c.self.invariant.0 c.isolation.ensures c.timed_isolation.ensures c.closures_are_good.ensures)

pub returns-clause-reached : goal.returns-clause-reached
returns-clause-reached g c = rw (← c.self.view_is) (λ going clean.
    let texts : List (List ℕ) = hashed g.J.FrontId.setup nothing (events_of (map arc_value c.self.inside.history.items)) in
    (c.self.invariant.0.reached going texts clean (All-contains_itself texts)).world)

pub returns-then-stopped-clause-legal : goal.returns-then-stopped-clause-legal
returns-then-stopped-clause-legal g c =
    rw (← c.self.view_is) (is_legal g.J.FrontId.setup c.self.inside.cores c.self.inside.stopped (map arc_value c.self.inside.history.items)
    c.self.invariant.0 c.isolation.ensures c.timed_isolation.ensures c.closures_are_good.ensures)
