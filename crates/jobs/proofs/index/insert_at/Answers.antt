use Rattle.std.proofs.Common.{ap}
use Rattle.jobs.proofs.IndexLemmas.{first_inserted}
use Rattle.jobs.proofs.index.insert_at.Goals as goal

pub returns : goal.returns
returns g c =
    first_inserted g.met.K.Eq.laws c.args.key c.args.number c.in_ok-list.list c.args.index.now.entries c.get_mut.follows.lender-at-none.entries
    c.insert-2.new.self.entries
    (ap (λ m. m.entries) c.get_mut.follows.holds-at-none) c.in_default.ensures.value c.in_ok-list.ensures c.in_ok-_none.ensures.updates.0
