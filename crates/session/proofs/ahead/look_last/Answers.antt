use Rattle.std.proofs.Common.{subst, refl, List, ℕ, Some, None}
use Rattle.model.specs.declared.refusal.Refusal.TheVariants.{BadUsers}
use Rattle.model.specs.Talk.{Names, Refuses}
use Rattle.session.specs.Ahead.{Searched}
use Rattle.session.proofs.AheadLemmas.{found-none, found-last}
use Rattle.session.proofs.ahead.look_last.Goals as goal

pub returns-then-not-is_begun-clause-found : goal.returns-then-not-is_begun-clause-found
returns-then-not-is_begun-clause-found c = λ mode input p.
    let none = rw c.if-not-is_begun.true at c.is_begun.ensures in
    found-none input c.args.session.now (subst (λ (t : List ℕ). Searched mode input c.args.session.now t) none p)

pub returns-in-Users-clause-found : goal.returns-in-Users-clause-found
returns-in-Users-clause-found c = λ mode input p.
    let some = rw c.if-not-is_begun.false at c.is_begun.ensures in
    let look = rw c.in-Users.is at c.in_ok-users.ensures.found in
    found-last input c.args.session.now c.args.held.now (Names c.in-Users.users.items) (Some c.in-Users.users.items) some p look refl

pub returns-in-Refused-clause-found : goal.returns-in-Refused-clause-found
returns-in-Refused-clause-found c = λ mode input p.
    let some = rw c.if-not-is_begun.false at c.is_begun.ensures in
    let look = rw c.in-Refused.is at c.in_ok-users.ensures.found in
    found-last input c.args.session.now c.args.held.now (Refuses BadUsers) None some p look refl

pub returns-in-Other-clause-found : goal.returns-in-Other-clause-found
returns-in-Other-clause-found c = λ mode input p.
    let some = rw c.if-not-is_begun.false at c.is_begun.ensures in
    let look = rw c.in-Other.is at c.in_ok-users.ensures.found in
    found-last input c.args.session.now c.args.held.now look.0 None some p look.1 look.3
