use Rattle.std.proofs.Common.{rules, ◌≡◌, All, take, take_all, subst}
use Rattle.classes.specs.Admitting.{IsNotFor}
use Rattle.classes.proofs.Admitting.{found_read, found_admits, none_for}
use Rattle.classes.proofs.admissions.found.Goals as goal

pub returns-then-is_for-clause-read : goal.returns-then-is_for-clause-read
returns-then-is_for-clause-read c =
    let is = c.is_for.ensures.yes c.if-is_for.true in
    found_read c.one-item.result c.args.text.now c.admitted.result.now c.admitted.ensures.made is.text_is c.admitted.ensures.admitted

pub returns-then-is_for-clause-admits : goal.returns-then-is_for-clause-admits
returns-then-is_for-clause-admits c =
    let is = c.is_for.ensures.yes c.if-is_for.true in
    found_admits c.args.known.now c.one-item.result c.admitted.result.now c.admitted.ensures.made is.admits c.admitted.ensures.admitted

pub returns-clause-none : goal.returns-clause-none
returns-clause-none c =
    let all : take c.loop-one.one-index c.args.all.now ≡ c.args.all.now = search (rules, take_all) in
    let none : All (IsNotFor c.args.known.now c.args.text.now) c.args.all.now =
    subst (All (IsNotFor c.args.known.now c.args.text.now)) all c.loop-one.invariant in
    none_for c.args.known.now c.args.text.now c.args.all.now none
