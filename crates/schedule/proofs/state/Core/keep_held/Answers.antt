use Rattle.std.proofs.Common.{ℕ, Bool, List, refl, sym, ◌∙◌, subst}
use Rattle.std.specs.Prelude.{All, bytes_eq}
use Rattle.indexmap.specs.IndexSet.{contains}
use Rattle.model.specs.Worlds.{Source}
use Rattle.trust.specs.Trusting.{trusts}
use Rattle.handlers.specs.Sound.{IsSound, AreGoalsSound}
use Rattle.handlers.specs.Parts.{desk_among, beside_at}
use Rattle.handlers.proofs.WorldLemmas.{same_world}
use Rattle.schedule.specs.Standing.{world_of, setup_of, stored_in}
use Rattle.schedule.proofs.SweepingLemmas.{swept_is, core_sound, core_goals, core_world}
use Rattle.schedule.proofs.state.Core.keep_held.Goals as goal

pub invariant_of-self : goal.invariant_of-self
invariant_of-self c =
    let old = c.args.self.now in
    let held : List ℕ → Bool = contains bytes_eq c.args.held.now in
    record {
      run = record {
        paired = old.state.run.paired;
        listed = old.state.run.listed;
        within = old.state.run.within;
        sound = subst (λ (t : List Source). All (IsSound t old.state.limits.charge) old.state.desks.items) (sym c.sweep.ensures)
            (core_sound old held c.requires.held c.requires.charged);
        with_goals = old.state.run.with_goals;
        goals_sound = subst (λ (t : List Source). All (AreGoalsSound t) old.state.jobs.goals) (sym c.sweep.ensures) (core_goals old held c.requires.held);
        supported = old.state.run.supported;
      };
      owned = old.state.owned;
    }

pub returns-clause-stored : goal.returns-clause-stored
unfolding stored_in
returns-clause-stored c = c.sweep.ensures ∙ swept_is c.args.self.now (contains bytes_eq c.args.held.now) c.requires.held

pub returns-clause-world : goal.returns-clause-world
unfolding world_of
returns-clause-world c =
    let old = c.args.self.now in
    let beside = beside_at old.state.users (trusts old.state.trust) old.state.jobs.goals in
    (λ i. desk_among beside (c.sweep.ensures i) old.state.users old.state.desks.items)
    ∙ same_world (core_world old (contains bytes_eq c.args.held.now) c.requires.held)

pub returns-clause-setup : goal.returns-clause-setup
unfolding setup_of
returns-clause-setup c = refl
