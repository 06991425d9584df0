-- What contracts see of a desk, and what its type keeps.
use Rattle.realise.specs.declared.desk.Desk.TheInside.{Inside}
use Rattle.realise.specs.Held.{paths_held, bytes_held, IsSetOf}
use Rattle.realise.specs.Holdings.{Holdings, paths_of, IsClosed}

abbrev pub holdings_of : Inside → Holdings
holdings_of d = record { known = d.known; records = d.records; pins = d.pins; archives = d.holding.archives; charge = bytes_held d.holding.archives }

-- a desk has what the labels of its records name, and is charged for the distinct paths that it holds
pub record IsConsistent (d : Inside) : Type 0 where
  pub closed : IsClosed (holdings_of d)
  pub held : IsSetOf (paths_held d.holding.archives) (paths_of (holdings_of d))
