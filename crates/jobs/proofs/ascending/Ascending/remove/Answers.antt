use Rattle.std.proofs.Common.{◌≡◌, ◌∙◌, sym, ap, Some}
use Rattle.std.specs.Prelude.{position, ◌==◌}
use Rattle.jobs.proofs.PlaceLemmas.{remove_at, remove_none, rises_without}
use Rattle.jobs.proofs.ascending.Ascending.remove.Goals as goal

pub invariant_of-self : goal.invariant_of-self
invariant_of-self c =
    let there : position (λ n. n == c.args.number) c.args.self.now.numbers.items ≡ Some c.in-Some.place =
    ap (position (λ n. n == c.args.number)) (sym c.as_slice.ensures.value) ∙ sym c.in-Some.ensures in
    record {
      rising = rw (c.remove-number.ensures.items, remove_at c.args.number c.args.self.now.numbers.items c.in-Some.place there)
          (rises_without 0 c.args.number c.args.self.now.numbers.items c.args.self.now.rising);
    }

pub returns-in-Some-clause-items : goal.returns-in-Some-clause-items
returns-in-Some-clause-items c =
    c.remove-number.ensures.items
    ∙ remove_at c.args.number c.args.self.now.numbers.items c.in-Some.place (rw (← c.as_slice.ensures.value) (sym c.in-Some.ensures))

pub returns-in_default-clause-items : goal.returns-in_default-clause-items
returns-in_default-clause-items c =
    remove_none c.args.number c.args.self.now.numbers.items (rw (← c.as_slice.ensures.value) (sym c.in_default.ensures))
