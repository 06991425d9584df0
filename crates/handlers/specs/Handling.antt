-- What a handler of an event promises.
use Rattle.std.specs.Prelude.{◌≡◌, ◌≢◌, ℕ, Bool, true, false, ◌||◌, List, length, All, Contains, IfOk, IfErr, OnOk, OnErr, Some, Result, Ok, Err}
use Rattle.model.specs.declared.refusal.Refusal.{Refusal}
use Rattle.model.specs.declared.refusal.Refusal.TheVariants.{Memory, Clash}
use Rattle.model.specs.Archives.{Tree}
use Rattle.model.specs.Derivations.{Derivation}
use Rattle.model.specs.Classes.{known_at, derivation_path}
use Rattle.model.specs.Worlds.{Source, Setup, Desk, World, Goal, are_users}
use Rattle.model.specs.Replies as replies
use Rattle.model.specs.Events.{Request, Trust, Distrust, Unpin, Status, Fail, Forget, Event}
use Rattle.model.specs.Replies.{is_memory_refusal, is_clash_refusal, is_refused, needs_no_memory}
use Rattle.model.specs.Outcomes as outcomes
use Rattle.model.specs.Outcomes.{Observation, observation_of, Outcome, becomes, add_entry}
use Rattle.model.specs.DerivationRequests.{admit_new}
use Rattle.model.specs.Steps.{outcome, outcome_of}
use Rattle.model.specs.HashedTexts.{texts_of, texts_of_event}
use Rattle.events.specs.declared.reply.Reply.{Reply}
use Rattle.trust.specs.Naming.{place_of, trusted_at, IsWithin}
use Rattle.records.specs.declared.desk_entry.DeskEntry.{DeskEntry}
use Rattle.store.specs.Stored.{put_all, Extends}
use Rattle.records.specs.DeskEntries.{entry_with}
use Rattle.realise.specs.Holdings.{Holdings}
use Rattle.handlers.specs.Stored.{stored_by, IsTakenFor}
use Rattle.handlers.specs.Sound.{Beside, desk_of, IsSound, AreGoalsSound, IsHashed, Clashes}
use Rattle.events.specs.Terms.{reply_of, shares_nothing}
use Rattle.handlers.specs.Parts.{goals_of, beside_at, Parts, parts, world_in, stored_after, IsStep}
use Rattle.handlers.specs.Viewing.{desk_at}
use Rattle.handlers.specs.Supported.{AreSupportedOn, AreSupported, GainsOnly}

-- whether a refusal says nothing of the model: memory was refused, or another tree is at a path
abbrev pub is_fault : Refusal → Bool
is_fault why = is_memory_refusal why || is_clash_refusal why

-- whether a request that is answered so takes no memory
abbrev pub takes_no_memory : Request → replies.Reply → Bool
takes_no_memory (Trust user) reply = true
takes_no_memory (Distrust user) reply = true
takes_no_memory (Unpin class) reply = true
takes_no_memory (Status number) reply = shares_nothing reply
takes_no_memory (Fail number status) reply = true
takes_no_memory (Forget class path) reply = true
takes_no_memory request reply = false

-- where a request takes no memory, the result is never that memory was refused
abbrev pub NeverLacksMemory : Request → Outcome → Result Reply Refusal → Type 0
NeverLacksMemory request outcome result = takes_no_memory request (outcomes.reply_of outcome) ≡ true → result ≢ Err Memory

-- where an outcome is a refusal that needs no memory, it is the result
abbrev pub RefusedAtOnce : Outcome → Result Reply Refusal → Type 0
RefusedAtOnce outcome result = (why : Refusal) → needs_no_memory why ≡ true → outcome ≡ Err why → result ≡ Err why

-- ---- events of one desk

-- a result is that of an outcome which leaves this desk, or a fault
abbrev pub Fits : Outcome → Desk → Result Reply Refusal → Type 0
Fits outcome desk (Ok reply) = outcome ≡ becomes desk (reply_of reply)
Fits outcome desk (Err why) = is_fault why ≡ false → outcome ≡ Err why

-- a request at a desk gives this result and leaves that desk, whoever its user is and whatever else he sees
abbrev pub Serves : Setup → Desk → Request → Desk → Result Reply Refusal → Type 0
Serves setup old request new result = (observation : Observation) → observation.desk ≡ old → Fits (outcome setup observation request) new result

-- a request at a desk is refused at once where that needs no memory
abbrev pub ServesAtOnce : Desk → Request → Result Reply Refusal → Type 0
ServesAtOnce desk request result = (setup : Setup) (observation : Observation) → observation.desk ≡ desk → RefusedAtOnce (outcome setup observation request) result

-- a request of the user of a desk puts what it stores into a table, whoever he is and whatever else there is
abbrev pub Stores : List Source → Desk → Request → List Source → Type 0
Stores old d request new = (setup : Setup) (w : World) (u : List ℕ) → w u ≡ d → new ≡ put_all (stored_by setup w u request) old

-- a table and a desk are as they were
pub record IsKept (old new : List Source) (before after : Holdings) : Type 0 where
  pub sources : new ≡ old
  pub desk : after ≡ before

-- what a handler promises of a user in one world, who has the one desk before, and the other with this beside it afterwards
pub record IsHandledIn (setup : Setup) (w : World) (u : List ℕ) (beside : Beside) (old : List Source) (before : Holdings) (request : Request)
    (result : Result Reply Refusal) (new : List Source) (after : Holdings) : Type 0 where
  -- the reply is the model's, and so is the desk after it
  pub serves : Fits (outcome setup (observation_of setup w u) request) (desk_of beside new after) result
  pub answered : IfOk result (λ r. is_refused (reply_of r) ≡ false)
  -- a refusal that needs no memory is told whether there is memory or not
  pub at_once : RefusedAtOnce (outcome setup (observation_of setup w u) request) result
  -- what takes no memory is never told as 90
  pub no_memory : NeverLacksMemory request (outcome setup (observation_of setup w u) request) result
  -- a refusal leaves all as it was
  pub kept : OnErr result (IsKept old new before after)
  -- the desk is within its limits, and what it holds is stored
  pub sound : IsSound new setup.charge after
  -- the table only grows, by what was hashed
  pub grows : Extends old new
  pub hashed : (texts : List (List ℕ)) → All (IsHashed texts) old → All (Contains texts) (texts_of setup w u request) → All (IsHashed texts) new
  -- 91 comes only where another tree is at the path of what is added
  pub taken : result ≡ Err Clash → IsTakenFor old setup w u request
  pub clashes : result ≡ Err Clash → (texts : List (List ℕ)) → All (IsHashed texts) old → All (Contains texts) (texts_of setup w u request) → Clashes texts
  pub stored : OnOk result (new ≡ put_all (stored_by setup w u request) old)

-- the same where his goals stay: what his desk has labelled it keeps, so that what they are built from stays on it
pub record IsHandledKeeping (setup : Setup) (w : World) (u : List ℕ) (beside : Beside) (old : List Source) (before : Holdings) (request : Request)
    (result : Result Reply Refusal) (new : List Source) (after : Holdings) : Type 0 where
  pub handled : IsHandledIn setup w u beside old before request result new after
  pub gains : GainsOnly before after

-- what a handler promises that reads and changes the desk of the user alone, and the table, where he has these beside it: who he
-- is, and what else he sees, makes no difference
abbrev pub IsHandledBeside : Beside → ℕ → List Source → Holdings → Request → Result Reply Refusal → List Source → Holdings → Type 0
IsHandledBeside beside limit old before request result new after = (users : List (List ℕ)) (w : World) (u : List ℕ) → w u ≡ desk_of beside old before
    → IsHandledKeeping (record { users = users; charge = limit }) w u beside old before request result new after

-- the same whomever the user trusts and whatever his goals are, and these are the same afterwards
abbrev pub IsHandledAtDesk : ℕ → List Source → Holdings → Request → Result Reply Refusal → List Source → Holdings → Type 0
IsHandledAtDesk limit old before request result new after = (beside : Beside) → IsHandledBeside beside limit old before request result new after

-- the same under each limit that the desk was within
abbrev pub IsHandledByDesk : List Source → Holdings → Request → Result Reply Refusal → Holdings → Type 0
IsHandledByDesk table before request result after = (limit : ℕ) → IsSound table limit before → IsHandledAtDesk limit table before request result table after

-- an entry that is added with its tree: the reply is the model's, and so is the desk after it
abbrev pub AddsEntry : ℕ → List Source → Holdings → DeskEntry → Tree → Result Reply Refusal → List Source → Holdings → Type 0
AddsEntry limit old before entry tree result new after = (users : List (List ℕ)) (beside : Beside)
    → Fits (add_entry (record { users = users; charge = limit }) (desk_of beside old before) (entry_with tree entry)) (desk_of beside new after) result

-- a derivation that is added: the reply is the model's, and so is the desk after it
abbrev pub AddsDerivation : ℕ → List Source → Holdings → Derivation → Result Reply Refusal → Holdings → Type 0
AddsDerivation limit table before derivation result after = (users : List (List ℕ)) (beside : Beside)
    → Fits (admit_new (record { users = users; charge = limit }) (desk_of beside table before) derivation (known_at before.known (derivation_path derivation)))
    (desk_of beside table after) result

-- what becomes of a desk to which a derivation is added, whatever the limit under which it was sound
pub record HasAddedDerivation (before : Holdings) (derivation : Derivation) (result : Result Reply Refusal) (after : Holdings) : Type 0 where
  pub adds : (table : List Source) (limit : ℕ) → IsSound table limit before → AddsDerivation limit table before derivation result after
  pub sound : (table : List Source) (limit : ℕ) → IsSound table limit before → IsSound table limit after
  pub answered : IfOk result (λ r. is_refused (reply_of r) ≡ false)
  pub gains : GainsOnly before after
  pub kept : OnErr result (after ≡ before)
  pub no_clash : IfErr result (λ why. is_clash_refusal why ≡ false)

-- ---- events of goals

-- what a handler promises of a user in one world that may change his goals too: a refusal leaves them, each is sound, and has
-- what it is built from on the desk
pub record IsHandledWithGoals (setup : Setup) (w : World) (u : List ℕ) (trusted : List ℕ → Bool) (goals : List Goal) (old : List Source) (before : Holdings)
    (request : Request) (result : Result Reply Refusal) (changed : List Goal) (new : List Source) (after : Holdings) : Type 0 where
  pub handled : IsHandledIn setup w u (record { trusted = trusted; goals = changed }) old before request result new after
  pub kept : OnErr result (changed ≡ goals)
  pub sound : AreGoalsSound new changed
  pub supported : AreSupportedOn before goals → AreSupportedOn after changed

-- what a handler promises that reads the desk of the user alone, and changes his goals: who he is, whom he trusts, and what else he
-- sees, makes no difference
abbrev pub IsHandledByGoals : Holdings → List Goal → Request → Result Reply Refusal → List Goal → Type 0
IsHandledByGoals before goals request result changed = (setup : Setup) (w : World) (u : List ℕ) (trusted : List ℕ → Bool) (table : List Source)
    → IsSound table setup.charge before → AreGoalsSound table goals → w u ≡ desk_of (record { trusted = trusted; goals = goals }) table before
    → IsHandledWithGoals setup w u trusted goals table before request result changed table before

-- ---- all events

-- what is stored and the world are as they were
pub record AreKept (old new : Parts) : Type 0 where
  pub world : world_in new ≡ world_in old
  pub table : new.table ≡ old.table

-- what every handler promises
pub record IsHandled (old : Parts) (event : Event) (result : Result Reply Refusal) (new : Parts) : Type 0 where
  -- the reply is the model's, and so is the world after it
  pub told : IfOk result (λ r. (is_refused (reply_of r) ≡ false) × IsStep old.setup (world_in old) event (reply_of r) (world_in new))
  pub refused : IfErr result (λ why. is_fault why ≡ false → outcome_of old.setup (world_in old) event ≡ Err why)
  -- a refusal that needs no memory is told whether there is memory or not
  pub at_once : RefusedAtOnce (outcome_of old.setup (world_in old) event) result
  -- what takes no memory is never told as 90
  pub no_memory : NeverLacksMemory event.request (outcome_of old.setup (world_in old) event) result
  -- a refusal leaves all as it was
  pub kept : OnErr result (AreKept old new)
  -- what was given stays; users trust users of the run alone; each desk is within its limits, and what it holds is stored
  pub setup : new.setup ≡ old.setup
  pub trust : IsWithin (length old.setup.users) new.trust
  pub paired : length new.desks ≡ length old.desks
  pub sound : All (IsSound new.table old.setup.charge) new.desks
  -- so it is with goals, and what each is built from is stored
  pub with_goals : length new.goals ≡ length old.goals
  pub goals_sound : All (AreGoalsSound new.table) new.goals
  -- what a goal that is being built is built from stays on its user's desk
  pub supported : AreSupported old.desks old.goals → AreSupported new.desks new.goals
  -- the table only grows, by what was hashed
  pub grows : Extends old.table new.table
  pub hashed : (texts : List (List ℕ)) → All (IsHashed texts) old.table → All (Contains texts) (texts_of_event old.setup (world_in old) event)
      → All (IsHashed texts) new.table
  -- 91 comes only where another tree is at the path of what is added
  pub taken : result ≡ Err Clash → IsTakenFor old.table old.setup (world_in old) event.actor event.request
  pub clashes : result ≡ Err Clash → (texts : List (List ℕ)) → All (IsHashed texts) old.table
      → All (Contains texts) (texts_of_event old.setup (world_in old) event) → Clashes texts
  pub stored : OnOk result (new.table ≡ stored_after old.setup (world_in old) event old.table)

-- the same of what reads the users alone, and changes whom the one at a place trusts: whatever is stored, and on the desks
abbrev pub IsHandledByTrust : List (List ℕ) → ℕ → (ℕ → ℕ → Bool) → Request → Result Reply Refusal → (ℕ → ℕ → Bool) → Type 0
IsHandledByTrust users place old request result new = (limit : ℕ) (goals : List (List Goal)) (table : List Source) (desks : List Holdings) (actor : List ℕ)
    → place_of users actor ≡ Some place → length desks ≡ length users → All (IsSound table limit) desks → All (AreGoalsSound table) goals
    → IsWithin (length users) old
    → IsHandled (parts users limit old goals table desks) (record { actor = actor; request = request }) result (parts users limit new goals table desks)

-- the same of what reads the users and whom they trust, and changes the goals of all
abbrev pub IsHandledByAllGoals : List (List ℕ) → ℕ → (ℕ → ℕ → Bool) → List (List Goal) → Request → Result Reply Refusal → List (List Goal) → Type 0
IsHandledByAllGoals users place trust old request result new = (limit : ℕ) (table : List Source) (desks : List Holdings) (actor : List ℕ)
    → place_of users actor ≡ Some place → length desks ≡ length users → All (IsSound table limit) desks → All (AreGoalsSound table) old
    → IsWithin (length users) trust
    → IsHandled (parts users limit trust old table desks) (record { actor = actor; request = request }) result (parts users limit trust new table desks)

-- what a handler promises that may change the goals and the desks of all, and the table
abbrev pub IsHandledByAll : Parts → ℕ → Request → Result Reply Refusal → Parts → Type 0
IsHandledByAll old place request result new = (actor : List ℕ) → place_of old.setup.users actor ≡ Some place
    → IsHandled old (record { actor = actor; request = request }) result new

-- what a handler promises that reads what the user at a place sees, and changes the table and his desk
abbrev pub IsHandledByObservation : (ℕ → ℕ → Bool) → ℕ → List Source → List Holdings → ℕ → Request → Result Reply Refusal → List Source → Holdings → Type 0
IsHandledByObservation trust limit old desks place request result new after = (users : List (List ℕ)) (goals : List (List Goal)) (actor : List ℕ)
    → are_users users ≡ true → place_of users actor ≡ Some place → length desks ≡ length users → All (IsSound old limit) desks
    → IsWithin (length users) trust
    → let before = parts users limit trust goals old desks in
    IsHandledKeeping before.setup (world_in before) actor (beside_at users trust goals place) old (desk_at desks place) request result new after

-- the same of one that may change the goals of the user at a place, and reads those of all
abbrev pub IsHandledAtPlace : List (List ℕ) → ℕ → (ℕ → ℕ → Bool) → List (List Goal) → List Source → List Holdings → ℕ → Request → Result Reply Refusal
    → List Goal → List Source → Holdings → Type 0
IsHandledAtPlace users limit trust goals old desks place request result changed new after = (actor : List ℕ) → place_of users actor ≡ Some place
    → let before = parts users limit trust goals old desks in
    IsHandledWithGoals before.setup (world_in before) actor (trusted_at users trust place) (goals_of goals place) old (desk_at desks place) request
    result changed new after

-- the same of one that reads the goals of all, and changes nothing, whatever is stored, and on the desks
abbrev pub IsReadAtPlace : List (List ℕ) → (ℕ → ℕ → Bool) → List (List Goal) → ℕ → Request → Result Reply Refusal → Type 0
IsReadAtPlace users trust goals place request result = (limit : ℕ) (table : List Source) (desks : List Holdings) → length desks ≡ length users
    → All (IsSound table limit) desks → All (AreGoalsSound table) goals → IsWithin (length users) trust
    → IsHandledAtPlace users limit trust goals table desks place request result (goals_of goals place) table (desk_at desks place)
