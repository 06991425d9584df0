use Rattle.std.proofs.Common.{◌≡◌, ◌≤◌, ◌+◌, ◌∙◌, ap, length}
use Rattle.std.specs.Prelude.{bytes_eq}
use Rattle.jobs.specs.Numbers.{numbers_at, room_at}
use Rattle.jobs.proofs.IndexLemmas.{room_planned}
use Rattle.jobs.proofs.indexes.Indexes.plan.Goals as goal

pub returns-clause-room : goal.returns-clause-room
returns-clause-room c =
    let old = c.args.self.now in
    let reserved = c.reserve_at.new.index.entries in
    let scratch = c.args.resolved.now.scratch in
    let many : length c.numbers_at.result.now + 1 ≡ length (numbers_at (bytes_eq scratch) old.built.entries) + 1 =
    ap (λ ns. length ns + 1) c.numbers_at.ensures ∙ ap (λ p. length (numbers_at (bytes_eq p) old.built.entries) + 1) c.scratch-scratch.ensures in
    let room : length c.numbers_at.result.now + 1 ≤ room_at (bytes_eq scratch) reserved =
    rw (c.in_ok-clone.ensures.cases, c.scratch-scratch.ensures) at c.in_ok-reserve_at.ensures.room in
    rw c.relist.ensures.done (room_planned c.args.goal.now.resolved c.args.resolved.now c.args.number (length c.numbers_at.result.now + 1)
    old.built.entries c.relist.new.self.built.entries old.done.entries reserved c.relist.result many room c.reserve_at.ensures.kept c.requires
    c.relist.ensures.built)
