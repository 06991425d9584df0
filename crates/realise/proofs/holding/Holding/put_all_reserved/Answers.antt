use Rattle.std.proofs.Common.{◌≡◌, ◌∷◌, List, ℕ, ap, sym, ◌∙◌}
use Rattle.std.specs.Vec.Iter.{into_iter_items}
use Rattle.realise.specs.Held.{with_archives}
use Rattle.realise.proofs.HoldingLemmas.{next_fits}
use Rattle.realise.proofs.holding.Holding.put_all_reserved.Goals as goal

pub put_reserved-requires-clause-fits : goal.put_reserved-requires-clause-fits
put_reserved-requires-clause-fits c =
    let here : List ℕ × ℕ = (c.in-Some.path, c.in-Some.archive) in
    let rest : List (List ℕ × ℕ) = into_iter_items c.next.new.self in
    let held : List (List ℕ × ℕ) = c.loop-path.self.archives in
    let all : with_archives (here ∷ rest) held ≡ with_archives c.args.added.items c.args.self.now.archives =
    sym (ap (λ xs. with_archives xs held) c.in-Some.ensures.steps.0) ∙ c.loop-path.invariant.all in
    next_fits here rest held (with_archives c.args.added.items c.args.self.now.archives) all c.requires.fits
