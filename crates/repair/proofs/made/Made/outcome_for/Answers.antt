use Rattle.std.proofs.Common.{◌≡◌, ◌∙◌, ap, sym, option_copied}
use Rattle.std.specs.Prelude.{bytes_eq}
use Rattle.std.specs.Map.{lookup}
use Rattle.model.specs.Classes.{Class}
use Rattle.repair.proofs.RelabellingLemmas.{if_some}
use Rattle.repair.specs.Counting.{repairs_in}
use Rattle.repair.proofs.made.Made.outcome_for.Goals as goal

pub returns-clause-some : goal.returns-clause-some
returns-clause-some c =
    let made = c.deref.result.now.entries in
    let same : repairs_in c.args.self.now.repairs ≡ made =
    ap repairs_in (sym c.in_ok-repairs.ensures.value) ∙ ap (λ m. m.entries) (sym c.deref.ensures) in
    let class : c.path.result.now ≡ c.args.chosen.now.class.path = c.path.ensures ∙ ap (λ (k : Class). k.path) c.class.ensures in
    let found : option_copied c.get.result ≡ lookup (bytes_eq c.args.chosen.now.class.path) made =
    c.get.ensures.value ∙ ap (λ k. lookup (bytes_eq k) made) class in
    if_some c.outcome_in.result _ _ (λ some. record { one = some.0; there = ap (lookup (bytes_eq c.args.chosen.now.class.path)) same ∙ sym found ∙ some.1; is = some.2 }) c.outcome_in.ensures.some
