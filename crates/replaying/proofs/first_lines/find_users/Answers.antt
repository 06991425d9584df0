use Rattle.std.proofs.Common.{refl, ℕ, List, ◌∷◌, ◌++◌, []}
use Rattle.std.specs.Prelude.{if◌then◌else◌, length}
use Rattle.replaying.specs.BadLines.{AreBad}
use Rattle.replaying.specs.Recording.{IsFirst}
use Rattle.replaying.proofs.RecordingLemmas.{begins_none, begins_on, still_nobody, names_users}
use Rattle.session.proofs.RowLemmas.{err-is}
use Rattle.replaying.proofs.UnnamedLemmas.{if_known, by_first, names_nobody, refuses_line}
use Rattle.replaying.proofs.first_lines.find_users.Given.{Over}
use Rattle.replaying.proofs.first_lines.find_users.Goals as goal
use Rattle.replaying.proofs.first_lines.find_users.Goals.{After-bad_after-bad}

pub loop-init : goal.loop-init
loop-init g c = rw c.new-session.ensures (refl, λ all known. (all, known, begins_none _))

-- the line that was answered
first : (g : Over) (c : After-bad_after-bad g) → IsFirst c.in-Some.line.items c.loop.session c.answer_first.new.session c.in_ok-users.field-0
first g c = rw c.as_slice.ensures.value at c.in_ok-users.ensures.first

-- its number
adds : (g : Over) (c : After-bad_after-bad g) → (numbers : List ℕ) → AreBad c.loop.bad numbers
    → AreBad c.bad_after-bad.result (numbers ++ (if c.in_ok-users.field-0.is_bad then length c.answer_first.new.session.told ∷ [] else []))
adds g c = rw c.line_count.ensures at c.bad_after-bad.ensures

pub loop-preserved : goal.loop-preserved
loop-preserved g c =
    let is = c.in_default-users.is in
    let b = (goal.at.loop-preserved g c).After-bad_after-bad in (
      still_nobody _ _ _ _ (first g b) is,
      λ all known.
          let i = c.loop.invariant.1 all known in
          let cut = rw c.in-Some.is at (c.in_ok-line.ensures.line i.0 i.1) in
          begins_on _ i.0 _ c.in-Some.line.items cut c.loop.session _ c.in_ok-users.field-0 c.loop.bad _ c.loop.invariant.0 (first g b) (adds g b) i.2 is,
    )

pub returns-in-Some-users-clause-named : goal.returns-in-Some-users-clause-named
returns-in-Some-users-clause-named g c = λ all known.
    let b = (goal.at.returns-in-Some-users-clause-named g c).After-bad_after-bad in
    let i = c.loop.invariant.1 all known in
    let cut = rw c.in-Some.is at (c.in_ok-line.ensures.line i.0 i.1) in
    names_users _ i.0 _ c.in-Some.line.items cut c.loop.session _ c.in_ok-users.field-0 c.loop.bad _ c.loop.invariant.0 (first g b) (adds g b) i.2
    _ c.in-Some-users.is refl refl

pub returns-in_default-clause-why : goal.returns-in_default-clause-why
returns-in_default-clause-why g c = λ user. if_known _ _ (λ all known.
    let i = c.loop.invariant.1 all known in
    let none = rw c.in_default.is at (c.in_ok-line.ensures.line i.0 i.1) in
    names_nobody all i.0 _ _ user none i.2)

pub returns-in_err-users-clause-why : goal.returns-in_err-users-clause-why
returns-in_err-users-clause-why g c = err-is _ _ _ c.from_residual-in_err-users.ensures.1 (λ user.
    by_first user _ _ c.in-Some.line.items c.loop.session (rw c.as_slice.ensures.value at c.in_err-users.ensures.refused) (λ all known h.
    let i = c.loop.invariant.1 all known in
    let cut = rw c.in-Some.is at (c.in_ok-line.ensures.line i.0 i.1) in
    refuses_line all i.0 _ c.in-Some.line.items c.loop.session _ cut i.2 h))
