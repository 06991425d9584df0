use Rattle.std.proofs.Common.{ap, subst, List, refl}
use Rattle.std.specs.Prelude.{nat_le}
use mathlib.Core.List.{IsPrefix}
use Rattle.history.specs.declared.row.Row.{Row}
use Rattle.history.proofs.PrefixLemmas.{compared}
use Rattle.history.proofs.history_prefix.HistoryPrefix.begins.Goals as goal

pub returns : goal.returns
returns c =
    let x = c.args.self.now in
    let y = c.args.other.now in
    let both = c.learn.new.self.log in
    let this : IsPrefix x.seen.log both = subst (λ (l : List Row). IsPrefix l both) (ap (λ s. s.log) c.again-both.ensures) c.learn.ensures.2 in
    compared x.seen.log y.seen.log both x.rows y.rows (nat_le x.rows y.rows) x.counted y.counted refl this c.learn.ensures.3
