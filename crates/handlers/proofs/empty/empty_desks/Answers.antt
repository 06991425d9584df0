use Rattle.std.proofs.Common.{rules, refl, ◌≡◌, [], ◌∷◌, ◌++◌}
use Rattle.std.proofs.lemmas.List.Elements.{All-push}
use Rattle.handlers.specs.Sound.{IsEmpty}
use Rattle.handlers.proofs.empty.empty_desks.Goals as goal

pub loop-desk-preserved : goal.loop-desk-preserved
loop-desk-preserved c =
    let pushed : c.push.new.self.items ≡ c.loop-desk.desks.items ++ c.new.result ∷ [] = search rules in
    record {
      empty = rw pushed (All-push IsEmpty c.loop-desk.desks.items c.new.result c.loop-desk.invariant.empty (rw c.new.ensures (record { known = refl; records = refl; pins = refl; archives = refl; charge = refl })));
      count = search rules;
    }
