use Rattle.std.proofs.Common.{◌≡◌, refl, sym, ◌∙◌, rules, Some, None, Err}
use Rattle.model.specs.declared.refusal.Refusal.TheVariants.{NotHeld}
use Rattle.model.specs.Events.{Fetch}
use Rattle.model.specs.Worlds.{held_at}
use Rattle.model.specs.Steps.{outcome}
use Rattle.handlers.specs.Sound.{desk_of}
use Rattle.handlers.proofs.DeskLemmas.{held_in_table}
use Rattle.handlers.proofs.StepLemmas.{fetch_at_once}
use Rattle.handlers.proofs.HandlingLemmas.{left, fetch_handled}
use Rattle.handlers.proofs.sources.fetch.Goals as goal

pub returns-in-Some : goal.returns-in-Some
returns-in-Some c limit sound beside =
    let there : held_at c.args.path.now (desk_of beside c.args.table.now.sources c.args.desk.now) ≡ Some c.in-Some.tree.now =
    sym (c.in-Some.ensures ∙ held_in_table beside c.args.table.now.sources limit c.args.desk.now c.args.path.now sound) in
    fetch_handled beside limit c.args.table.now.sources c.args.desk.now c.args.path.now c.in-Some.tree.now c.reply_with.result sound there
    c.reply_with.ensures.content c.reply_with.ensures.memory

pub returns-in-None : goal.returns-in-None
unfolding outcome
returns-in-None c limit sound beside =
    let none : held_at c.args.path.now (desk_of beside c.args.table.now.sources c.args.desk.now) ≡ None =
    sym (c.in-None.ensures ∙ held_in_table beside c.args.table.now.sources limit c.args.desk.now c.args.path.now sound) in
    left beside limit c.args.table.now.sources c.args.desk.now (Fetch c.args.path.now) (Err NotHeld) sound
    (λ users observation same own. rw (same, none) refl)
    (fetch_at_once (desk_of beside c.args.table.now.sources c.args.desk.now) c.args.path.now (Err NotHeld) (λ absent. refl)) (λ reply. refl) (search rules)
    refl (search rules)
