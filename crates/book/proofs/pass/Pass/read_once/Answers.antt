use Rattle.std.proofs.Common.{List, [], ◌∷◌, ◌++◌, ap, sym, ◌∙◌, subst}
use Rattle.model.specs.Worlds.{Setup}
use Rattle.history.specs.declared.row.Row.{Row}
use Rattle.history.specs.Callers.{PassKnowledge}
use Rattle.history.specs.Histories.{row, IsLegal}
use Rattle.schedule.specs.Queries.{event_for}
use Rattle.publishing.specs.FrontNames.{setup_in}
use Rattle.publishing.specs.Following.{FindsRead}
use Rattle.publishing.proofs.LegalLemmas.{legal_with}
use Rattle.book.proofs.pass.Pass.read_once.Goals as goal

pub returns-then-see-clause-read : goal.returns-then-see-clause-read
returns-then-see-clause-read g c some number =
    let rows : List Row = c.in-Some.rows.seen.log in
    let event = event_for c.args.query in
    let reply = c.serve.result in
    let r : Row = row number event reply in
    let setup = ap (λ v. setup_in v.name) c.self.invariant.2 in
    let looked = rw c.in-Some.is at c.look.ensures.looked in
    let legal = subst (λ (s : Setup). IsLegal s rows) setup looked.legal in
    let finds = subst (λ (s : Setup). FindsRead s rows event c.in-Some.found) setup looked.answer in
    let told = finds reply c.serve.ensures in
    let seen = ap (λ (k : PassKnowledge). k.seen) (c.self-2.view_is ∙ (rw c.if-see.true at c.see.ensures).1) in
    subst (λ (all : List Row). IsLegal g.J.FrontId.setup (all ++ r ∷ [])) (sym seen)
    (legal_with g.J.FrontId.setup rows r legal (told.told some) c.isolation.ensures c.timed_isolation.ensures told.well_formed some)

pub returns-then-see-clause-going : goal.returns-then-see-clause-going
returns-then-see-clause-going g c =
    let looked = rw c.in-Some.is at c.look.ensures.looked in
    (looked.answer c.serve.result c.serve.ensures).going
