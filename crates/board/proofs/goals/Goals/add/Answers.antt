use Rattle.std.proofs.Common.{rules, ◌≡◌, length, ap, refl, ◌∙◌, ◌++◌, ◌∷◌, []}
use Rattle.board.specs.Stages.{new_goal}
use Rattle.board.specs.Boards.{IsWithin, AreKept}
use Rattle.board.proofs.KeptLemmas.{kept_add}
use Rattle.board.proofs.goals.Goals.add.Goals as goal

pub invariant_of-self-2 : goal.invariant_of-self-2
invariant_of-self-2 c =
    let old = c.self.inside.table.goals in
    let g = new_goal c.args.asked in
    let first = c.in_ok-put_giver.ensures.put in
    let second = c.in_ok-put_giver-2.ensures.put in
    let here : c.len-place.result ≡ length old = c.len-place.ensures in
    let topics = c.put_giver-2.new.topics.items in
    let same = ap (λ v. v.lasts) c.self.view_is in
    let within : IsWithin (length c.self.inside.lasts.items) g = record { user = c.requires.user; job = search rules; class = search rules } in
    let kept : AreKept (old ++ g ∷ []) topics c.self.inside.lasts.items =
    kept_add old c.self.inside.topics.items topics c.self.inside.lasts.items g c.self.invariant within (λ topic. refl)
    (second.as_many ∙ first.as_many)
    (λ other. second.watchers other ∙ first.watchers other)
    (λ other at is. second.kept other at (first.kept other at is))
    (rw here at (second.kept c.args.asked.class c.len-place.result first.put))
    (rw here at second.put) in
    rw (ap (λ t. t.goals) c.in_ok-place.ensures.added) kept
