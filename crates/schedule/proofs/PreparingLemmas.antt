-- What is prepared on the desk of a place is prepared for its user, in the world that the core stands for.
use Rattle.std.proofs.Common.{◌≡◌, ℕ, Bool, true, false, true≢false, List, length, refl, sym, ap, subst, Some, Result, Ok, Err}
use Rattle.std.specs.Prelude.{IfOk, Option}
use Rattle.model.specs.declared.refusal.Refusal.{Refusal}
use Rattle.model.specs.Archives.{Tree}
use Rattle.model.specs.Classes.{known_at}
use Rattle.model.specs.Events.{Event, Request, AddSource, AddDerivation, Offer, Fetch, Trust, Distrust, Pin, Unpin, Closure, Take, Build, Status, Plan, Start, Finish, Fail, Forget}
use Rattle.model.specs.Worlds.{Source, Desk, Goal, Label, are_users}
use Rattle.trust.specs.Naming.{place_of, name_at, IsWithin}
use Rattle.trust.proofs.PlaceLemmas.{name_found}
use Rattle.realise.specs.Holdings.{Holdings}
use Rattle.classes.specs.Admitting.{Input as AdmissionInput, Made, HasMade, HasAdmission}
use Rattle.classes.specs.declared.admissions.Admissions.{Admissions}
use Rattle.outputs.specs.Kept.{HasOutput, HasNeeded}
use Rattle.outputs.specs.declared.input.Input.{Input}
use Rattle.outputs.specs.declared.settlement.Settlement.{Settlement}
use Rattle.handlers.specs.Offering.{HasOffered}
use Rattle.endings.specs.Built.{HasBuilt}
use Rattle.endings.specs.Preparing.{HasLedOutput, HasNeededFor}
use Rattle.handlers.specs.Parts.{desk_among, beside_at, goals_of}
use Rattle.handlers.specs.Sound.{Beside, desk_of}
use Rattle.handlers.specs.Viewing.{desk_at}
use Rattle.handlers.proofs.DeskLemmas.{known_of-desk_of}
use Rattle.handlers.proofs.ClosureLemmas.{his_desk}
use Rattle.outputs.specs.declared.settlements.Settlements.{Settlements}
use Rattle.model.specs.Choices as choices
use Rattle.model.specs.Outcomes.{Observation, observation_of}
use Rattle.repair.specs.AtHand.{MadeRepairs}
use Rattle.repair.specs.Counting.{made_in}
use Rattle.repair.specs.Prepared.{HasRepairedIf}
use Rattle.repair.specs.declared.cache.Cache.{Cache}
use Rattle.handlers.specs.States.{observation_at}
use Rattle.handlers.specs.Serving.{HasRepairedFor}
use Rattle.goals.specs.Planning.{HasRepairedForGoal}
use Rattle.schedule.specs.declared.state.Core.{Core}
use Rattle.schedule.specs.Standing.{world_of, setup_of}
use Rattle.schedule.specs.Preparing.{seen_by, HasAdmissionFor, HasInput, HasOutcome, HasPath, HasRepairedAll, IsPreparedAnywhere, hangs_on_state}
use Rattle.schedule.specs.declared.work.Ready.{Ready}

-- ---- on one desk, as the model sees it

offered_on : (beside : Beside) (table : List Source) (d : Holdings) (user path : List ℕ) (tree : Tree) (made : Settlements)
    → HasOffered d path tree made.settled.items → HasOutcome (desk_of beside table d) user (Offer path tree) made
offered_on beside table d user path tree made offered a known =
    let has = offered a (subst (λ k. known_at k path ≡ Some a) (known_of-desk_of beside table d) known) in
    subst (λ (ls : List Label). HasOutput made.settled.items a.class.path ls a.derivation tree) (has.1 beside table) has.2

ended_on : (beside : Beside) (table : List Source) (d : Holdings) (user : List ℕ) (n : ℕ) (output : List ℕ) (made : Settlements)
    → HasLedOutput d (record { leader = user; number = n }) beside.goals output made.settled.items
    → HasOutcome (desk_of beside table d) user (Finish n output) made
ended_on beside table d user n output made led g tree at leads is =
    subst (λ k. HasBuilt k g tree made.settled.items) (sym (known_of-desk_of beside table d)) (led g tree at leads is)

-- ---- in the world

module _ (users : List (List ℕ)) (limit : ℕ) (trust : ℕ → ℕ → Bool) (goals : List (List Goal)) (table : List Source) (desks : List Holdings) (user : List ℕ) (place : ℕ)
    (listed : are_users users ≡ true) (found : place_of users user ≡ Some place) (paired : length desks ≡ length users) (within : IsWithin (length users) trust) where
  abbrev his : Desk
  his = desk_among (beside_at users trust goals) table users desks user

  his_is : his ≡ desk_of (beside_at users trust goals place) table (desk_at desks place)
  his_is = his_desk users limit trust goals table desks user place listed found paired within

  pub admitted_by : (result : Result (Option AdmissionInput) Refusal) (text : List ℕ)
      → IfOk result (λ input. (all : List Made) → HasMade all input → HasAdmission (desk_at desks place).known text all)
      → IfOk result (λ input. (made : Admissions) → HasMade made.admitted.items input → HasAdmissionFor his (AddDerivation text) made)
  admitted_by (Ok input) text needed = λ made has.
      subst (λ d. HasAdmissionFor d (AddDerivation text) made) (sym his_is)
      (subst (λ k. HasAdmission k text made.admitted.items) (sym (known_of-desk_of (beside_at users trust goals place) table (desk_at desks place)))
      (needed made.admitted.items has))
  admitted_by (Err why) text needed = tt

  pub offered_by : (result : Result (Option Input) Refusal) (path : List ℕ) (tree : Tree)
      → IfOk result (λ input. (t : Tree) (settled : List Settlement) → HasNeeded settled input t → HasOffered (desk_at desks place) path t settled)
      → IfOk result (λ input. (made : Settlements) → HasInput (Offer path tree) input made → HasOutcome his user (Offer path tree) made)
  offered_by (Ok input) path tree needed = λ made has.
      subst (λ d. HasOutcome d user (Offer path tree) made) (sym his_is)
      (offered_on (beside_at users trust goals place) table (desk_at desks place) user path tree made (needed tree made.settled.items (has tree refl)))
  offered_by (Err why) path tree needed = tt

  pub ended_by : (result : Result (Option Input) Refusal) (n : ℕ) (output : List ℕ)
      → IfOk result (λ input. (bytes : List ℕ) (settled : List Settlement) → HasNeededFor bytes settled input
      → HasLedOutput (desk_at desks place) (record { leader = name_at users place; number = n }) (goals_of goals place) bytes settled)
      → IfOk result (λ input. (made : Settlements) → HasInput (Finish n output) input made → HasOutcome his user (Finish n output) made)
  ended_by (Ok input) n output needed = λ made has.
      let named = (name_found users user place found).1 in
      let led = subst (λ (leader : List ℕ). HasLedOutput (desk_at desks place) (record { leader = leader; number = n }) (goals_of goals place) output
      made.settled.items) named (needed output made.settled.items has) in
      subst (λ d. HasOutcome d user (Finish n output) made) (sym his_is)
      (ended_on (beside_at users trust goals place) table (desk_at desks place) user n output made led)
  ended_by (Err why) n output needed = tt

-- ---- what he sees

-- the user at a place sees what he sees in the world that the core stands for
pub seen_there : (core : Core) (user : List ℕ) (place : ℕ) → place_of core.state.users user ≡ Some place → observation_at core.state place ≡ seen_by core user
unfolding world_of setup_of
seen_there core user place found = ap (observation_of (setup_of core) (world_of core)) (name_found core.state.users user place found).1

pub taken_by : (one other : Observation) (result : Result (Option choices.Plan) Refusal) (class : List ℕ) → one ≡ other
    → IfOk result (λ plan. (made : MadeRepairs) → HasRepairedIf plan made → HasRepairedFor one class made)
    → IfOk result (λ plan. (cache : Cache) → HasRepairedIf plan (made_in cache.made) → HasRepairedAll other (Take class) cache)
taken_by one other (Ok plan) class same needed = λ cache has.
    subst (λ s. HasRepairedFor s class (made_in cache.made)) same (needed (made_in cache.made) has)
taken_by one other (Err why) class same needed = tt

pub planned_by : (one other : Observation) (result : Result (Option choices.Plan) Refusal) (n : ℕ) → one ≡ other
    → IfOk result (λ plan. (made : MadeRepairs) → HasRepairedIf plan made → HasRepairedForGoal one n made)
    → IfOk result (λ plan. (cache : Cache) → HasRepairedIf plan (made_in cache.made) → HasRepairedAll other (Plan n) cache)
planned_by one other (Ok plan) n same needed = λ cache has.
    subst (λ s. HasRepairedForGoal s n (made_in cache.made)) same (needed (made_in cache.made) has)
planned_by one other (Err why) n same needed = tt

-- ---- where it hangs on nothing

-- a request that needs nothing of what there is has all that it would need of that
abbrev NeedsNothing : Request → Type 0
NeedsNothing r = ((d : Desk) (made : Admissions) → HasAdmissionFor d r made)
    × ((d : Desk) (user : List ℕ) (made : Settlements) → HasOutcome d user r made) × ((s : Observation) (cache : Cache) → HasRepairedAll s r cache)

needs_nothing : (r : Request) → hangs_on_state r ≡ false → NeedsNothing r
needs_nothing (AddSource name tree) h = (λ d made. tt, λ d user made. tt, λ s cache. tt)
needs_nothing (AddDerivation text) h = absurd (true≢false h)
needs_nothing (Offer path tree) h = absurd (true≢false h)
needs_nothing (Fetch path) h = (λ d made. tt, λ d user made. tt, λ s cache. tt)
needs_nothing (Trust user) h = (λ d made. tt, λ d user made. tt, λ s cache. tt)
needs_nothing (Distrust user) h = (λ d made. tt, λ d user made. tt, λ s cache. tt)
needs_nothing (Pin class path) h = (λ d made. tt, λ d user made. tt, λ s cache. tt)
needs_nothing (Unpin class) h = (λ d made. tt, λ d user made. tt, λ s cache. tt)
needs_nothing (Closure class) h = (λ d made. tt, λ d user made. tt, λ s cache. tt)
needs_nothing (Take class) h = absurd (true≢false h)
needs_nothing (Build path) h = (λ d made. tt, λ d user made. tt, λ s cache. tt)
needs_nothing (Status number) h = (λ d made. tt, λ d user made. tt, λ s cache. tt)
needs_nothing (Plan number) h = absurd (true≢false h)
needs_nothing (Start number) h = (λ d made. tt, λ d user made. tt, λ s cache. tt)
needs_nothing (Finish number output) h = absurd (true≢false h)
needs_nothing (Fail number status) h = (λ d made. tt, λ d user made. tt, λ s cache. tt)
needs_nothing (Forget class path) h = (λ d made. tt, λ d user made. tt, λ s cache. tt)

-- what such an event needs is the path of a source, if it adds one
pub prepared_anywhere : (e : Event) (ready : Ready) → hangs_on_state e.request ≡ false → HasPath e.request ready.work.sources → IsPreparedAnywhere e ready
prepared_anywhere e ready h path = let nothing = needs_nothing e.request h in record {
  path = path;
  admission = λ d. nothing.0 d ready.work.admissions;
  outcome = λ d. nothing.1 d e.actor ready.work.settlements;
  repaired = λ s. nothing.2 s ready.work.cache;
}
