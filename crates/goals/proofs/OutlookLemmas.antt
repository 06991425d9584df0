-- What the user at a place of a state sees, and how his goals may go on.
use Rattle.std.proofs.Common.{◌≡◌, ℕ, Bool, inl, inr, List, sym, ◌∙◌, ap, Option, Some, None, Result, Ok, Err}
use Rattle.std.specs.Prelude.{IfOk, option_map}
use Rattle.model.specs.declared.refusal.Refusal.{Refusal}
use Rattle.model.specs.declared.refusal.Refusal.TheVariants.{Memory, UnknownGoal}
use Rattle.model.specs.Classes.{Admission, known_at}
use Rattle.model.specs.Worlds.{Desk, Goal, Status, known_of}
use Rattle.model.specs.Choices.{visible_records}
use Rattle.model.specs.Goals.{goal_at, as_seen}
use Rattle.model.specs.Results.{then_do, ok_or}
use Rattle.model.specs.Resolutions.{input_classes}
use Rattle.model.specs.Outcomes.{Observation}
use Rattle.model.specs.Outlooks as model
use Rattle.trust.specs.Trusting.{IsReach, holds, trusts}
use Rattle.trust.specs.Naming.{place_of, name_at, names}
use Rattle.trust.proofs.PlaceLemmas.{place_found}
use Rattle.trust.proofs.UsersLemmas.{distinct_users}
use Rattle.realise.specs.Holdings.{Holdings}
use Rattle.choose.specs.Visible.{Visible, seen}
use Rattle.jobs.specs.declared.outlook.Next.{Next}
use Rattle.jobs.specs.declared.outlook.Outlook.{Outlook}
use Rattle.jobs.specs.Owned.{goals_at}
use Rattle.jobs.specs.Outlooks.{next_of, TellsOutlook}
use Rattle.handlers.specs.declared.state.State.{State}
use Rattle.handlers.specs.States.{parts_of, HasPlace, observation_at}
use Rattle.handlers.specs.Parts.{world_in, beside_at}
use Rattle.handlers.specs.Sound.{desk_of}
use Rattle.handlers.specs.Viewing.{desk_at, IsView}
use Rattle.handlers.proofs.ClosureLemmas.{his_desk, visible}
use Rattle.handlers.proofs.DeskLemmas.{known_of-desk_of}
use Rattle.goals.specs.Outlooks.{IsNextOfInputs}
use Rattle.goals.proofs.PlanLemmas.{reach_at_place}

module _ (s : State) (place : ℕ) (inside : HasPlace s place) where
  abbrev its : Observation
  its = observation_at s place

  abbrev desk : Holdings
  desk = desk_at s.desks.items place

  here : place_of s.users (name_at s.users place) ≡ Some place
  here = place_found s.users place (distinct_users s.users s.run.listed) inside

  his : world_in (parts_of s) (name_at s.users place) ≡ desk_of (beside_at s.users (trusts s.trust) s.jobs.goals place) s.table.sources desk
  his = his_desk s.users s.limits.charge (trusts s.trust) s.jobs.goals s.table.sources s.desks.items (name_at s.users place) place s.run.listed here
      s.run.paired s.run.within

  -- what is on his desk, whom he reaches, and what he sees
  own_goals : its.desk.goals ≡ goals_at place s.jobs
  own_goals = ap (λ (d : Desk). d.goals) his

  own_known : known_of its.desk ≡ desk.known
  own_known = ap known_of his ∙ known_of-desk_of (beside_at s.users (trusts s.trust) s.jobs.goals place) s.table.sources desk

  own_reach : (set : ℕ → Bool) → IsReach (trusts s.trust) place set → its.reach ≡ names s.users set
  own_reach set reach = reach_at_place s.users s.limits.charge (trusts s.trust) s.jobs.goals s.table.sources s.desks.items s.run.listed s.run.paired
      s.run.within (name_at s.users place) place here set reach

  own_view : (view : List Holdings) → IsView (trusts s.trust) place s.desks.items view → visible_records its.view ≡ (seen s.table.sources view).records
  own_view view is = ap (λ (v : Visible). v.records) (visible s.users s.limits.charge (trusts s.trust) s.jobs.goals s.table.sources s.desks.items
      (name_at s.users place) place s.run.listed here s.run.paired s.run.within view is)

  -- what comes next by the classes of the inputs
  pub by_inputs : (view : List Holdings) (seen_is : Visible) (classes : List (List ℕ)) (next : Next) (found : Option (List ℕ))
      → IsView (trusts s.trust) place s.desks.items view → seen_is ≡ seen s.table.sources view
      → found ≡ model.first_lacking seen_is.records classes → next_of next ≡ model.lacks_or_ready found → IsNextOfInputs its classes next
  by_inputs view seen_is classes next found is view_is lacking comes =
      comes ∙ ap model.lacks_or_ready (lacking
      ∙ ap (λ rs. model.first_lacking rs classes) (ap (λ (v : Visible). v.records) view_is ∙ sym (own_view view is)))

  of_waiting : (a : Admission) (classes : List (List ℕ)) (next : Next) → classes ≡ input_classes desk.known a.derivation
      → IsNextOfInputs its classes next → next_of next ≡ model.next_of_waiting its (Some a)
  of_waiting a classes next are comes =
      comes ∙ ap (λ cs. model.lacks_or_ready (model.first_lacking (visible_records its.view) cs))
      (are ∙ ap (λ k. input_classes k a.derivation) (sym own_known))

  pub all_of_waiting : (a : Admission) (classes : List (List ℕ)) (result : Result Next Refusal) → classes ≡ input_classes desk.known a.derivation
      → IfOk result (IsNextOfInputs its classes) → IfOk result (λ next. next_of next ≡ model.next_of_waiting its (Some a))
  all_of_waiting a classes (Ok next) are comes = of_waiting a classes next are comes
  all_of_waiting a classes (Err why) are comes = tt

  -- how the goal of a number may go on
  answer_of : Option Goal → Result model.Outlook Refusal
  answer_of found = then_do (ok_or UnknownGoal found) (λ g. Ok (model.outlook_of its g))

  module _ (n : ℕ) where
    there : (found : Option Goal) → goal_at n (goals_at place s.jobs) ≡ found → model.outlook its n ≡ answer_of found
    unfolding answer_of
    there found is = ap answer_of (ap (goal_at n) own_goals ∙ is)

    -- there is none
    pub no_goal : goal_at n (goals_at place s.jobs) ≡ None → TellsOutlook s.users (model.outlook its n) (Err UnknownGoal)
    unfolding answer_of
    no_goal none = record {
      value = inr (there None none);
      at_once = λ why e. (let same : UnknownGoal ≡ why = (let two = sym (there None none) ∙ e in cc) in ap Err same);
    }

    module _ (g : Goal) (own : goal_at n (goals_at place s.jobs) ≡ Some g) where
      -- memory was refused
      pub untold : (why : Refusal) → why ≡ Memory → TellsOutlook s.users (model.outlook its n) (Err why)
      unfolding answer_of
      untold why memory = record { value = inl memory; at_once = λ other e. (let no = sym (there (Some g) own) ∙ e in cc) }

      -- it is told
      pub told : (known : Option Admission) (status : Status) (o : Outlook) → IsReach (trusts s.trust) place (holds o.reached)
          → known ≡ known_at desk.known g.derivation → status ≡ as_seen (names s.users (holds o.reached)) g.status
          → o.class ≡ option_map (λ a. a.class.path) known → next_of o.next ≡ model.next_of its known status
          → TellsOutlook s.users (model.outlook its n) (Ok o)
      unfolding answer_of
      told known status o reach knows seen_so class next =
          let reach_is = own_reach (holds o.reached) reach in
          let known_is : known_at (known_of its.desk) g.derivation ≡ known = ap (λ k. known_at k g.derivation) own_known ∙ sym knows in
          let status_is : as_seen its.reach g.status ≡ status = ap (λ r. as_seen r g.status) reach_is ∙ sym seen_so in
          record {
            value = there (Some g) own ∙ (λ i. Ok (record {
              class = ((ap (λ k. option_map (λ (a : Admission). a.class.path) k) known_is) ∙ sym class) i;
              next = ((λ j. model.next_of its (known_is j) (status_is j)) ∙ sym next) i;
              reach = reach_is i;
            }));
            at_once = λ why e. (let no = sym (there (Some g) own) ∙ e in cc);
          }
