use Rattle.std.proofs.Common.{rules, ◌≡◌, Ok, false, refl, subst, []}
use Rattle.std.specs.Io.KnownBytes.{IsAtEnd}
use Rattle.session.proofs.InputHeadLemmas.{none_ahead, some_ahead, otherwise}
use Rattle.session.proofs.input_head.look_ahead.Goals as goal

pub returns-in_default-clause-others : goal.returns-in_default-clause-others
returns-in_default-clause-others g c = λ is.
    let read = c.in_ok-ahead.ensures in
    otherwise _ _ c.in_ok-ahead.ahead.bytes.items read.read (λ left end.
    let found = read.users c.if-ahead.false left (λ ended. subst IsAtEnd end (read.ended ended)) in
    none_ahead _ (rw c.in_default.is at found))

pub returns-then-not-branch-clause-others : goal.returns-then-not-branch-clause-others
returns-then-not-branch-clause-others g c = λ is.
    let read = c.in_ok-ahead.ensures in
    let told : c.begins_with_users.result ≡ Ok false = search rules in
    let none = rw c.as_slice.ensures.value at (c.begins_with_users.ensures.others told) in
    let found = rw c.in-Some.is at (read.users c.if-ahead.false [] (λ ended. refl)) in
    otherwise _ _ c.in_ok-ahead.ahead.bytes.items read.read (λ left end first. none (some_ahead _ left c.in-Some.users.items found first))
