use Rattle.std.proofs.Common.{List, ap, sym, subst}
use Rattle.model.specs.Worlds.{Setup}
use Rattle.history.specs.declared.row.Row.{Row}
use Rattle.history.specs.Callers.{PassKnowledge}
use Rattle.history.specs.Histories.{IsLegal}
use Rattle.publishing.specs.FrontNames.{setup_in}
use Rattle.publishing.specs.Following.{IsOutlookAfter}
use Rattle.book.proofs.pass.Pass.outlook.Goals as goal

pub returns-then-see-clause-told : goal.returns-then-see-clause-told
returns-then-see-clause-told g c some =
    let rows : List Row = c.in-Some.rows.seen.log in
    let user = c.args.user.now in
    let setup = ap (λ v. setup_in v.name) c.self.invariant.2 in
    let found = rw c.in-Some.is at c.outlook.ensures.found in
    let seen = ap (λ (k : PassKnowledge). k.seen) (rw c.if-see.true at c.see.ensures).1 in
    subst (λ (all : List Row). IsOutlookAfter g.J.FrontId.setup all user c.args.number c.in-Some.found) (sym seen)
    (subst (λ (s : Setup). IsOutlookAfter s rows user c.args.number c.in-Some.found) setup found.outlook)

pub returns-then-see-clause-legal : goal.returns-then-see-clause-legal
returns-then-see-clause-legal g c some =
    let rows : List Row = c.in-Some.rows.seen.log in
    let setup = ap (λ v. setup_in v.name) c.self.invariant.2 in
    let found = rw c.in-Some.is at c.outlook.ensures.found in
    let seen = ap (λ (k : PassKnowledge). k.seen) (rw c.if-see.true at c.see.ensures).1 in
    subst (IsLegal g.J.FrontId.setup) (sym seen) (subst (λ (s : Setup). IsLegal s rows) setup found.legal)

pub returns-then-see-clause-errors : goal.returns-then-see-clause-errors
returns-then-see-clause-errors g c =
    let found = rw c.in-Some.is at c.outlook.ensures.found in
    found.outlook.errors
