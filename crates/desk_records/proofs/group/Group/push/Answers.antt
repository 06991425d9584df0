use Rattle.std.proofs.Common.{rules, ◌<◌, ◌∷◌, [], ℕ, ap, sym, subst, ◌∙◌}
use Rattle.std.proofs.lemmas.List.Elements.{All-head}
use Rattle.records.specs.Recorded.{Recorded}
use Rattle.desk_records.specs.Grouped.{numbered_in}
use Rattle.desk_records.specs.Numbers.{IsAbove}
use Rattle.desk_records.proofs.group.Group.push.Goals as goal

-- the second is above the first
pub map_of_two-requires : goal.map_of_two-requires
map_of_two-requires c =
    let e : ℕ × Recorded = (c.in-One.first, c.in-One.one) in
    let above : IsAbove c.args.number (e ∷ []) = subst (IsAbove c.args.number) (sym c.self.view_is ∙ ap numbered_in c.in-One.is) c.requires in
    let lower : e.0 < c.args.number = All-head (λ (f : ℕ × Recorded). f.0 < c.args.number) e [] above in
    search rules
