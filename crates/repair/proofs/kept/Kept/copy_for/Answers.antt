use Rattle.std.proofs.Common.{◌≡◌, sym, ap, ◌∙◌, option_copied}
use Rattle.repair.specs.Keeping.{size_of, sizes}
use Rattle.repair.specs.AtHand.{paths_of_key, kept_by}
use Rattle.repair.proofs.KeepingLemmas.{promoted_total, found_by}
use Rattle.repair.proofs.kept.Kept.copy_for.Goals as goal
use Rattle.repair.proofs.kept.Kept.copy_for.Goals.{After-promote, After-peek}

-- another order counts the same
promoted : (c : After-promote) → c.args.self.now.bytes ≡ sizes c.promote.new.self.entries
promoted c =
    c.args.self.now.counted
    ∙ sym (ap (λ r. sizes r.entries) c.promote.ensures.entries ∙ promoted_total size_of _ c.args.self.now.records.entries)

pub invariant_of-self : goal.invariant_of-self
invariant_of-self c = record { counted = promoted (goal.at.invariant_of-self c).After-promote; bounded = c.args.self.now.bounded }

pub invariant_of-self-in-Break-1 : goal.invariant_of-self-in-Break-1
invariant_of-self-in-Break-1 c = record { counted = promoted (goal.at.invariant_of-self-in-Break-1 c).After-promote; bounded = c.args.self.now.bounded }

pub invariant_of-self-2 : goal.invariant_of-self-2
invariant_of-self-2 c = record { counted = promoted (goal.at.invariant_of-self-2 c).After-promote; bounded = c.args.self.now.bounded }

-- what is looked at is what is kept by the paths
looked_at : (c : After-peek) → option_copied c.peek.result ≡ kept_by (paths_of_key c.args.chosen.now c.args.replacements.now) c.args.self.now.records.entries
looked_at c =
    found_by (paths_of_key c.args.chosen.now c.args.replacements.now) c.args.key.now c.args.self.now.records c.promote.new.self (option_copied c.peek.result)
    c.requires c.promote.ensures.entries c.peek.ensures

pub returns-in_default-clause-none : goal.returns-in_default-clause-none
returns-in_default-clause-none c = λ kept.
    c.in_default.ensures.none kept.one (looked_at (goal.at.returns-in_default-clause-none c).After-peek ∙ kept.there) kept.is

pub returns-clause-some : goal.returns-clause-some
returns-clause-some c =
    let some = c.in-Some.ensures.some in
    record { one = some.0; there = sym (looked_at (goal.at.returns-clause-some c).After-peek) ∙ some.1; is = some.2 }
