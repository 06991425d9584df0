use Rattle.std.proofs.Common.{rules, ◌≡◌, ◌∙◌, ℕ, ◌++◌, ◌∷◌, [], List, Some, None, ap, sym, refl, subst, get_or, append-nil}
use Rattle.std.specs.Prelude.{map}
use Rattle.std.specs.Option.{option_copied}
use Rattle.std.proofs.lemmas.List.Elements.{All-push}
use Rattle.model.specs.Goals.{goal_at}
use Rattle.model.specs.Worlds.{Goal}
use Rattle.jobs.specs.Owned.{goals_at}
use Rattle.realise.specs.Holdings.{Holdings}
use Rattle.handlers.specs.Viewing.{desk_at}
use Rattle.handlers.proofs.StateLemmas.{has_desk}
use Rattle.endings.specs.Built.{IsClosedBuilt, all_built, built_at, built_of, built_output, numbered}
use Rattle.endings.proofs.BuiltLemmas.{built_more, inputs_more}
use Rattle.endings.proofs.LoopLemmas.{one_more, all_done}
use Rattle.endings.proofs.MadeLemmas.{at_place}
use Rattle.endings.proofs.settling.built_on.Goals.{in-Some+in_ok-built+in_ok-push, in_default}
use Rattle.endings.proofs.settling.built_on.Goals as goal

pub loop-number-preserved : goal.loop-number-preserved
unfolding all_built
loop-number-preserved c =
    let s = c.args.state.now in
    let place = c.args.place in
    let desk : Holdings = desk_at s.desks.items place in
    let here : c.index-desk.result.now ≡ desk =
    at_place s.desks.items place c.index-desk.result.now (has_desk s place c.requires.of_run) c.index-desk.ensures in
    let goals : List Goal = goals_at place s.jobs in
    let output = option_copied c.args.tree in
    let n : ℕ = get_or c.args.numbers.now c.loop-number.number-index 0 in
    let old = c.loop-number.all.items in
    let new = c.match-get.all.items in
    elim c.match-get.branch [
      | in-Some+in_ok-built+in_ok-push w ↦
          let g : Goal = w.in-Some.goal.now in
          let some : goal_at n goals ≡ Some g = search rules in
          let built = w.in_ok-built.built in
          let items : new ≡ old ++ (n, built) ∷ [] = ap (λ v. v.items) w.all-is ∙ w.in_ok-push.ensures.items in
          record {
            built = one_more (λ (m : ℕ). built_at desk.known output m (goal_at m goals)) (all_built desk.known output goals) c.args.numbers.now
                c.loop-number.number-index 0 (map numbered old) (map numbered new) _ (λ m ms. refl) c.loop-number-test.true
                (built_more desk.known output n (goal_at n goals) g built old new some items
                (subst (λ (d : Holdings). built_of built ≡ built_output d.known output g) here w.in_ok-built.ensures.built)) c.loop-number.invariant.built;
            closed = rw items (All-push (λ x. IsClosedBuilt desk x.1) old (n, built) c.loop-number.invariant.closed
                (subst (λ (d : Holdings). IsClosedBuilt d built) here w.in_ok-built.ensures.closed));
            inputs = inputs_more output goals n g built old new items some w.in_ok-built.ensures.input c.loop-number.invariant.inputs;
          }
      | in_default w ↦
          let none : goal_at n goals ≡ None = search rules in
          let same : new ≡ old = ap (λ v. v.items) w.all-is in
          record {
            built = one_more (λ (m : ℕ). built_at desk.known output m (goal_at m goals)) (all_built desk.known output goals) c.args.numbers.now
                c.loop-number.number-index 0 (map numbered old) (map numbered new) _ (λ m ms. refl) c.loop-number-test.true
                (ap (map numbered) same ∙ sym (append-nil (map numbered old)) ∙ ap (λ o. map numbered old ++ built_at desk.known output n o) (sym none))
                c.loop-number.invariant.built;
            closed = rw same c.loop-number.invariant.closed;
            inputs = rw same c.loop-number.invariant.inputs;
          }
    ]

pub returns-clause-built : goal.returns-clause-built
unfolding all_built
returns-clause-built c =
    let s = c.args.state.now in
    let desk : Holdings = desk_at s.desks.items c.args.place in
    all_done (all_built desk.known (option_copied c.args.tree) (goals_at c.args.place s.jobs)) c.args.numbers.now
    c.loop-number.number-index (map numbered c.loop-number.all.items) _ refl c.loop-number-test.false c.loop-number.invariant.built
