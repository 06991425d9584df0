-- How a goal may go on, in the world that a core stands for.
use Rattle.std.proofs.Common.{◌≡◌, ℕ, Bool, true, inr, List, sym, ◌∙◌, ap, subst, None, Some, Result, Err}
use Rattle.std.specs.Prelude.{if◌then◌else◌}
use Rattle.model.specs.declared.refusal.Refusal.{Refusal}
use Rattle.model.specs.declared.refusal.Refusal.TheVariants.{UnknownUser}
use Rattle.model.specs.Worlds.{is_user}
use Rattle.model.specs.Outlooks as model
use Rattle.trust.specs.Naming.{place_of}
use Rattle.trust.proofs.FirstPlaceLemmas.{place_found, place_is_among, no_place}
use Rattle.jobs.specs.declared.outlook.Outlook.{Outlook}
use Rattle.jobs.specs.Outlooks.{TellsOutlook}
use Rattle.handlers.specs.States.{observation_at}
use Rattle.schedule.specs.declared.state.Core.{Core}
use Rattle.schedule.specs.Standing.{setup_of, world_of}
use Rattle.schedule.specs.Preparing.{seen_by}
use Rattle.schedule.proofs.PreparingLemmas.{seen_there}

module _ (core : Core) (user : List ℕ) where
  abbrev answer_if : ℕ → Bool → Result model.Outlook Refusal
  answer_if number b = if b then model.outlook (seen_by core user) number else Err UnknownUser

  -- of a user of the run: it is as he sees it from his place
  pub at_his_place : (place number : ℕ) (told : Result Outlook Refusal) → place_of core.state.users user ≡ Some place
      → TellsOutlook core.state.users (model.outlook (observation_at core.state place) number) told
      → TellsOutlook (setup_of core).users (model.outlook_for (setup_of core) (world_of core) user number) told
  unfolding setup_of
  at_his_place place number told found is =
      let among : is_user (setup_of core) user ≡ true = place_is_among core.state.users user place (place_found core.state.users user place found) in
      subst (λ answer. TellsOutlook core.state.users answer told)
      (ap (λ s. model.outlook s number) (seen_there core user place found) ∙ sym (ap (answer_if number) among)) is

  -- of anyone else
  pub of_stranger : (number : ℕ) → place_of core.state.users user ≡ None
      → TellsOutlook (setup_of core).users (model.outlook_for (setup_of core) (world_of core) user number) (Err UnknownUser)
  unfolding setup_of
  of_stranger number none =
      let refused : model.outlook_for (setup_of core) (world_of core) user number ≡ Err UnknownUser =
      ap (answer_if number) (no_place core.state.users user none) in
      record {
        value = inr refused;
        at_once = λ why e. (let same : UnknownUser ≡ why = (let two = sym refused ∙ e in cc) in ap Err same);
      }
