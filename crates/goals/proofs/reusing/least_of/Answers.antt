use Rattle.std.proofs.Common.{◌≡◌, ◌∙◌, Bool, true, sym, ap, Some}
use Rattle.std.specs.Prelude.{option_copied, filter}
use Rattle.records.specs.Recorded.{Recorded}
use Rattle.goals.specs.Reusing.{is_found_at}
use Rattle.goals.proofs.ReuseLemmas.{record_next, nothing_left}
use Rattle.goals.proofs.reusing.least_of.Goals as goal

pub loop-one-preserved-then-is_found_at : goal.loop-one-preserved-then-is_found_at
loop-one-preserved-then-is_found_at c =
    let p : Recorded → Bool = is_found_at c.args.labels.now c.args.path.now in
    let x : Recorded = c.in-Some.one.now in
    let found : p x ≡ true = sym c.is_found_at.ensures ∙ c.if-is_found_at.true in
    record_next p (option_copied c.loop-one.least) (Some c.lesser.result.now) x c.next.new.self c.loop-one.one-iterator c.in-Some.ensures.steps found
    (ap (λ (r : Recorded). Some r) c.lesser.ensures) ∙ c.loop-one.invariant

pub returns : goal.returns
returns c =
    let found = filter (is_found_at c.args.labels.now c.args.path.now) in
    nothing_left (option_copied c.loop-one.least) (found c.loop-one.one-iterator) (ap found c.in-None.ensures.steps.0)
    ∙ c.loop-one.invariant
