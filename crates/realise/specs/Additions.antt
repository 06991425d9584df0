-- Records that several desks get together.
use Rattle.std.specs.Prelude.{◌≡◌, ◌+◌, ◌<◌, ◌^◌, ◌++◌, map}
use Rattle.realise.specs.declared.additions.Addition.{Addition}
use Rattle.realise.specs.Held.{paths_held, with_archives, charged_beside}
use Rattle.realise.specs.Holdings.{Holdings, paths_of, IsClosed}

-- a desk with records more, each charged with the bytes of its archive unless its path is held
abbrev pub with_addition : Addition → Holdings → Holdings
with_addition a d = record d {
  records = d.records ++ a.records.items;
  archives = with_archives a.archives.items d.archives;
  charge = d.charge + charged_beside a.archives.items (paths_of d);
}

-- a desk may get them: the archives are those of the records, their bytes can be counted, and what the labels name is there then
pub record MayAdd (a : Addition) (d : Holdings) : Type 0 where
  pub paired : paths_held a.archives.items ≡ map (λ r. r.path) a.records.items
  pub fits : d.charge + charged_beside a.archives.items (paths_of d) < 2 ^ 64
  pub closed : IsClosed (with_addition a d)
