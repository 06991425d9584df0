use Rattle.std.proofs.Common.{◌≡◌, rules, true, false, refl, Some, None}
use Rattle.std.specs.Prelude.{bytes_eq}
use Rattle.jobs.proofs.IndexLemmas.{is_listed, stays_listed, relisted}
use Rattle.jobs.proofs.indexes.Indexes.relist.Goals as goal

pub returns-in_default-clause-built : goal.returns-in_default-clause-built
returns-in_default-clause-built c =
    let none : c.args.goal.now.resolved ≡ None = search rules in
    rw none (is_listed c.scratch.result.now c.args.resolved.now c.args.number c.args.self.now.built.entries c.list.new.self.built.entries c.list.result
    c.scratch.ensures c.list.ensures.built)

pub returns-then-eq-clause-built : goal.returns-then-eq-clause-built
returns-then-eq-clause-built c =
    let had : c.args.goal.now.resolved ≡ Some c.in-Some.had.now = search rules in
    let same : bytes_eq c.in-Some.had.now.scratch c.args.resolved.now.scratch ≡ true = search rules in
    rw had (stays_listed c.in-Some.had.now c.args.resolved.now c.args.number c.args.self.now.built.entries same)

pub returns-clause-built : goal.returns-clause-built
returns-clause-built c =
    let had : c.args.goal.now.resolved ≡ Some c.in-Some.had.now = search rules in
    let other : bytes_eq c.in-Some.had.now.scratch c.args.resolved.now.scratch ≡ false = search rules in
    rw had (relisted c.in-Some.had.now c.args.resolved.now c.args.number c.args.self.now.built.entries c.list-2.new.self.built.entries
    c.list-2.new.self.built.entries c.remove_at.new.index.entries other refl
    (rw c.scratch-4.ensures at c.in_ok-list.ensures.built) (rw c.scratch-5.ensures at c.remove_at.ensures.numbers))
