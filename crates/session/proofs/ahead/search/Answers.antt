use Rattle.std.proofs.Common.{sym, subst, refl, List, [], ℕ, ◌++◌}
use Rattle.std.proofs.lemmas.Bool.{true≢false, false≢true}
use Rattle.std.proofs.lemmas.List.{append-nil}
use Rattle.std.specs.Io.KnownBytes.{Consumes}
use Rattle.session.specs.Ahead.{Searched}
use Rattle.session.proofs.RowLemmas.{err-is, consumes-none, consumes-more, consumes-end, on_err}
use Rattle.session.proofs.AheadLemmas.{searched-none}
use Rattle.session.proofs.ahead.search.Goals as goal
use Rattle.session.proofs.ahead.search.Goals.{in-Users, in-Refused}

pub loop-init : goal.loop-init
loop-init g c = rw (c.requires.2, c.requires.1, c.requires.0) (consumes-none _, searched-none)

pub loop-preserved-in-Ok-None : goal.loop-preserved-in-Ok-None
loop-preserved-in-Ok-None g c =
    let i = c.loop.invariant in
    let s = rw c.in-Ok-None.field-0-is at c.in-Ok-None.ensures.ok in
    (consumes-end _ _ _ c.loop.bytes.items [] 0 refl i.0 s, i.1)

-- ---- what was read

pub returns-in-Err-clause-read : goal.returns-in-Err-clause-read
returns-in-Err-clause-read g c = consumes-end _ _ _ c.loop.bytes.items [] 0 refl c.loop.invariant.0 c.in-Err.ensures.err

pub returns-then-n-eq0-clause-read : goal.returns-then-n-eq0-clause-read
returns-then-n-eq0-clause-read g c =
    let s = rw c.in-Ok-Some.field-0-is at c.in-Ok-Some.ensures.ok in
    consumes-end _ _ _ c.loop.bytes.items _ c.in-Ok-Some.n c.if-n-eq0.true c.loop.invariant.0 s.1

-- ---- the users

pub returns-then-n-eq0-clause-users : goal.returns-then-n-eq0-clause-users
returns-then-n-eq0-clause-users g c = λ f more e.
    let i = c.loop.invariant in
    let bytes = c.loop.bytes.items in
    let held : Searched c.args.session.now.mode bytes c.loop.session c.as_slice.result.now =
    subst (λ (t : List ℕ). Searched c.args.session.now.mode bytes c.loop.session t) (sym c.as_slice.ensures.value) i.1 in
    rw (e refl, append-nil) (c.in_ok-users.ensures.found c.args.session.now.mode bytes held)

pub loop-preserved : goal.loop-preserved
loop-preserved g c =
    let i = c.loop.invariant in
    let s = rw c.in-Ok-Some.field-0-is at c.in-Ok-Some.ensures.ok in
    let piece = c.split_at.result.0.now in
    rw c.in_ok-extend_from_slice.ensures.items (
      consumes-more _ _ _ c.loop.bytes.items piece i.0 (rw c.split_at.ensures.front s.1),
      rw c.in-Other.is at (c.in_ok-users-2.ensures.found c.args.session.now.mode c.loop.bytes.items i.1),
    )

pub returns-in-loop-clause-users : goal.returns-in-loop-clause-users
returns-in-loop-clause-users g c = λ f more e.
    let i = c.loop.invariant in
    let found = c.in_ok-users-2.ensures.found c.args.session.now.mode c.loop.bytes.items i.1 in
    elim c.match-branch-4.branch [
      | in-Users w ↦ rw (w.users-is, c.in_ok-extend_from_slice.ensures.items) (let look = rw w.in-Users.is at found in look more)
      | in-Refused w ↦ rw (w.users-is, c.in_ok-extend_from_slice.ensures.items) (let look = rw w.in-Refused.is at found in look more)
    ]

-- ---- what was read where memory is refused

pub returns-in_err-users-clause-err : goal.returns-in_err-users-clause-err
returns-in_err-users-clause-err g c =
    let s = rw c.in-Ok-Some.field-0-is at c.in-Ok-Some.ensures.ok in
    let read : (input : List ℕ) × Consumes (g.R.Read.remaining c.args.reader.now) (g.R.Read.remaining c.read_some.new.reader) input =
    (c.loop.bytes.items, consumes-end _ _ _ c.loop.bytes.items _ c.in-Ok-Some.n c.if-n-eq0.true c.loop.invariant.0 s.1) in
    on_err _ read

pub returns-in_err-extend_from_slice-clause-err : goal.returns-in_err-extend_from_slice-clause-err
returns-in_err-extend_from_slice-clause-err g c =
    let s = rw c.in-Ok-Some.field-0-is at c.in-Ok-Some.ensures.ok in
    let piece = c.split_at.result.0.now in
    let read : (input : List ℕ) × Consumes (g.R.Read.remaining c.args.reader.now) (g.R.Read.remaining c.read_some.new.reader) input =
    (c.loop.bytes.items ++ piece, consumes-more _ _ _ c.loop.bytes.items piece c.loop.invariant.0 (rw c.split_at.ensures.front s.1)) in
    on_err _ read

pub returns-in_err-users-2-clause-err : goal.returns-in_err-users-2-clause-err
returns-in_err-users-2-clause-err g c =
    let s = rw c.in-Ok-Some.field-0-is at c.in-Ok-Some.ensures.ok in
    let piece = c.split_at.result.0.now in
    let read : (input : List ℕ) × Consumes (g.R.Read.remaining c.args.reader.now) (g.R.Read.remaining c.read_some.new.reader) input =
    (c.loop.bytes.items ++ piece, consumes-more _ _ _ c.loop.bytes.items piece c.loop.invariant.0 (rw c.split_at.ensures.front s.1)) in
    on_err _ read

-- ---- how the reading ended

pub returns-in-Err-clause-ended : goal.returns-in-Err-clause-ended
returns-in-Err-clause-ended g c = λ e. absurd (false≢true e)

pub returns-in-Err-clause-failed : goal.returns-in-Err-clause-failed
returns-in-Err-clause-failed g c = λ e. rw (← c.failures-before.ensures) c.in-Err.ensures.fault.1

pub returns-then-n-eq0-clause-ended : goal.returns-then-n-eq0-clause-ended
returns-then-n-eq0-clause-ended g c = λ e.
    let s = rw c.in-Ok-Some.field-0-is at c.in-Ok-Some.ensures.ok in
    s.2 c.if-n-eq0.true

pub returns-then-n-eq0-clause-failed : goal.returns-then-n-eq0-clause-failed
returns-then-n-eq0-clause-failed g c = λ e. absurd (false≢true e)

pub returns-in-loop-clause-ended : goal.returns-in-loop-clause-ended
returns-in-loop-clause-ended g c = λ e. absurd (false≢true e)

pub returns-in-loop-clause-failed : goal.returns-in-loop-clause-failed
returns-in-loop-clause-failed g c = λ e. absurd (false≢true e)

-- ---- the users where the reader failed, or did not

pub returns-in-Err-clause-users : goal.returns-in-Err-clause-users
returns-in-Err-clause-users g c = λ e. absurd (true≢false e)

pub returns-in-Err-clause-no_users : goal.returns-in-Err-clause-no_users
returns-in-Err-clause-no_users g c = λ e. (refl, c.loop.invariant.1.so_far)

pub returns-then-n-eq0-clause-no_users : goal.returns-then-n-eq0-clause-no_users
returns-then-n-eq0-clause-no_users g c = λ e. absurd (false≢true e)

pub returns-in-loop-clause-no_users : goal.returns-in-loop-clause-no_users
returns-in-loop-clause-no_users g c = λ e. absurd (false≢true e)

-- ---- memory

pub returns-in_err-users-clause-memory : goal.returns-in_err-users-clause-memory
returns-in_err-users-clause-memory g c = err-is _ _ _ c.from_residual.ensures.1 c.in_err-users.ensures.memory

pub returns-in_err-extend_from_slice-clause-memory : goal.returns-in_err-extend_from_slice-clause-memory
returns-in_err-extend_from_slice-clause-memory g c = err-is _ _ _ c.from_residual-in_err-extend_from_slice.ensures.1 refl

pub returns-in_err-users-2-clause-memory : goal.returns-in_err-users-2-clause-memory
returns-in_err-users-2-clause-memory g c = err-is _ _ _ c.from_residual-in_err-users-2.ensures.1 c.in_err-users-2.ensures.memory

pub returns-clause-err : goal.returns-clause-err
returns-clause-err g c = (c.loop.bytes.items, c.loop.invariant.0)

pub returns-clause-memory : goal.returns-clause-memory
returns-clause-memory g c = refl
