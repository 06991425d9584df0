-- What is said of one desk holds of the world.
use Rattle.std.proofs.Common.{◌≡◌, ℕ, ◌<◌, get_or, Bool, true, false, List, [], ◌∷◌, length, length-set, refl, sym, ◌∙◌, ap, subst, rules, Some, None, Result, Ok, Err}
use Rattle.std.specs.Prelude.{All, Contains, OnOk, OnErr, IfOk, IfErr, bytes_eq, slice_get, slice_set, position, nat_le}
use Rattle.std.proofs.lemmas.Result.{on_err_weaker, on_ok_weaker}
use Rattle.std.proofs.lemmas.Option.{slice_get_within, slice_get-get_or, get_or_from_slice_get}
use Rattle.std.proofs.lemmas.List.{set-get_or}
use Rattle.std.proofs.lemmas.List.Elements.{All-get_or, All-set, All-weaker}
use Rattle.model.specs.declared.refusal.Refusal.{Refusal}
use Rattle.model.specs.declared.refusal.Refusal.TheVariants.{UnknownUser, Memory, Clash}
use Rattle.model.specs.Archives.{Tree, IsTree}
use Rattle.model.specs.Paths.{source_path}
use Rattle.model.specs.Derivations.{Derivation}
use Rattle.model.specs.DerivationTexts.{derivation_of_text}
use Rattle.model.specs.Limits.{most_derivation_bytes}
use Rattle.model.specs.Worlds.{Source, Setup, Desk, World, Goal, is_user, are_users, held_at}
use Rattle.model.specs.Events.{Request, AddSource, AddDerivation, Fetch, Event}
use Rattle.model.specs.Replies as replies
use Rattle.model.specs.Outcomes.{Observation, observation_of, becomes, add_entry}
use Rattle.model.specs.HashedTexts.{texts_of}
use Rattle.model.specs.SourceRequests.{fetch}
use Rattle.model.specs.Replies.{is_clash_refusal, is_refused}
use Rattle.model.specs.Steps.{outcome, outcome_of}
use Rattle.events.specs.declared.reply.Reply as Rust
use Rattle.records.specs.declared.desk_entry.DeskEntry.{DeskEntry}
use Rattle.records.specs.declared.desk_entry.DeskEntry.TheVariants as entry
use Rattle.trust.specs.Naming.{place_of, trusted_at, IsWithin}
use Rattle.store.specs.Stored.{IsAdded, IsTaken, Extends}
use Rattle.records.specs.DeskEntries.{entry_path, entry_with}
use Rattle.realise.specs.Holdings.{Holdings}
use Rattle.handlers.specs.Stored.{stored_by, tried_by}
use Rattle.handlers.specs.Sound.{Beside, desk_of, IsSound, AreGoalsSound, IsHashed}
use Rattle.events.specs.Terms.{reply_of}
use Rattle.handlers.specs.Parts.{goals_of, beside_at, Parts, parts, world_in, desk_among}
use Rattle.handlers.specs.Viewing.{bare}
use Rattle.handlers.specs.Handling.{Fits, Serves, ServesAtOnce, Stores, IsKept, AreKept, IsHandledKeeping, IsHandledBeside, IsHandledAtDesk}
use Rattle.handlers.specs.Handling.{IsHandledByDesk, IsHandledWithGoals, IsHandledByObservation, IsHandledAtPlace, IsHandledByGoals, IsReadAtPlace}
use Rattle.handlers.specs.Handling.{AddsEntry, HasAddedDerivation, IsHandled, is_fault}
use Rattle.handlers.proofs.DeskLemmas.{sound_kept}
use Rattle.handlers.proofs.DerivationLemmas.{derivation_read}
use Rattle.store.proofs.TableLemmas.{put_once-Extends, put_once-All, found_holds}
use Rattle.trust.proofs.FirstPlaceLemmas.{IsPlace, place_found, place_below, place_is_among, no_place}
use Rattle.handlers.proofs.WorldLemmas.{desk_found}
use Rattle.handlers.proofs.GoalLemmas.{goals_kept, all_goals_kept, goals_sound_at, beside_elsewhere, beside_here, goals_put_back}
use Rattle.handlers.specs.Supported.{AreSupportedOn, GainsOnly}
use Rattle.handlers.proofs.SupportLemmas.{gains_nothing, still_supported, supported_set}
use Rattle.handlers.proofs.StepLemmas.{either_way, on_ok_any, on_err_any, kept_sound, kept_later, kept_desk, source_hashed, source_at_once}
use Rattle.handlers.proofs.StepLemmas.{derivation_at_once, fetch_at_once, step_unknown, step_at_once, step_no_memory, TakesMemory, may_lack}
use Rattle.handlers.proofs.StepLemmas.{told_result, refused_result, world_kept}

-- ---- all events

-- what holds of parts before an event, whose actor has this place
pub record Asks (old : Parts) (actor : List ℕ) (i : ℕ) : Type 0 where
  pub listed : are_users old.setup.users ≡ true
  pub within : IsWithin (length old.setup.users) old.trust
  pub paired : length old.desks ≡ length old.setup.users
  pub sound : All (IsSound old.table old.setup.charge) old.desks
  pub with_goals : length old.goals ≡ length old.setup.users
  pub goals_sound : All (AreGoalsSound old.table) old.goals
  pub found : place_of old.setup.users actor ≡ Some i

pub asking : {users : List (List ℕ)} {limit : ℕ} {trust : ℕ → ℕ → Bool} {goals : List (List Goal)} {table : List Source} {desks : List Holdings}
    {actor : List ℕ} {i : ℕ}
    → are_users users ≡ true → IsWithin (length users) trust → length desks ≡ length users → All (IsSound table limit) desks
    → length goals ≡ length users → All (AreGoalsSound table) goals → place_of users actor ≡ Some i
    → Asks (parts users limit trust goals table desks) actor i
asking listed within paired sound with_goals goals_sound found = record {
  listed = listed;
  within = within;
  paired = paired;
  sound = sound;
  with_goals = with_goals;
  goals_sound = goals_sound;
  found = found;
}

-- parts with other goals at a place, another table, and another desk there
abbrev pub parts_with : Parts → ℕ → List Goal → List Source → Holdings → Parts
parts_with old i changed new now = parts old.setup.users old.setup.charge old.trust (slice_set old.goals i changed) new (slice_set old.desks i now)

-- the place of a user has a desk
pub place_there : (users : List (List ℕ)) (desks : List Holdings) (u : List ℕ) (i : ℕ) (d : Holdings) → length desks ≡ length users
    → position (λ n. bytes_eq n u) users ≡ Some i → slice_get desks i ≡ Some (get_or desks i d)
place_there users desks u i d paired found = slice_get-get_or desks i d (subst (λ n. i < n) (sym paired) (place_below users u i found))

-- the desk at a place is within its limits
pub sound_at : (table : List Source) (limit : ℕ) (desks : List Holdings) (i : ℕ) (d : Holdings) → All (IsSound table limit) desks
    → slice_get desks i ≡ Some d → IsSound table limit d
sound_at table limit desks i d sound here =
    subst (IsSound table limit) (get_or_from_slice_get desks i d d here) (All-get_or (IsSound table limit) desks i d (slice_get_within desks i d here) sound)

module _ (old : Parts) (e : Event) (i : ℕ) (asks : Asks old e.actor i) where
  abbrev w : World
  w = world_in old

  place : IsPlace old.setup.users e.actor i
  place = place_found old.setup.users e.actor i asks.found

  module _ (new : List Source) (before now : Holdings) (changed : List Goal) (result : Result Rust.Reply Refusal)
      (here : slice_get old.desks i ≡ Some before) (later : Extends old.table new) where
    -- a refusal leaves the world
    world_left : OnErr result (IsKept old.table new before now) → OnErr result (changed ≡ goals_of old.goals i)
        → OnErr result (AreKept old (parts_with old i changed new now))
    world_left kept same = both_kept result kept same
      where
        both_kept : (r : Result Rust.Reply Refusal) → OnErr r (IsKept old.table new before now) → OnErr r (changed ≡ goals_of old.goals i)
            → OnErr r (AreKept old (parts_with old i changed new now))
        both_kept (Ok reply) kept same = search rules
        both_kept (Err why) kept same =
            let beside : ℕ → Beside = beside_at old.setup.users old.trust old.goals in
            record {
              world =
                  ap (λ (goals : List (List Goal)). desk_among (beside_at old.setup.users old.trust goals) new old.setup.users (slice_set old.desks i now))
                  (goals_put_back old.goals i changed same)
                  ∙ world_kept beside old.setup.users old.table new old.setup.charge old.desks e.actor i before now later asks.sound place here
                  (kept_desk (beside i) old.table new before now kept);
              table = kept.sources;
            }

  -- what is promised of a user in one world is promised of all parts
  pub in_world : (new : List Source) (before now : Holdings) (changed : List Goal) (result : Result Rust.Reply Refusal)
      → slice_get old.desks i ≡ Some before
      → IsHandledWithGoals old.setup w e.actor (trusted_at old.setup.users old.trust i) (goals_of old.goals i) old.table before e.request result changed new now
      → IsHandled old e result (parts_with old i changed new now)
  in_world new before now changed result here is =
      let handled = is.handled in
      let trusted : List ℕ → Bool = trusted_at old.setup.users old.trust i in
      let given : ℕ → Beside = beside_at old.setup.users old.trust old.goals in
      let beside : ℕ → Beside = beside_at old.setup.users old.trust (slice_set old.goals i changed) in
      let below : i < length old.goals = subst (λ n. i < n) (sym asks.with_goals) (place_below old.setup.users e.actor i asks.found) in
      let serves : Fits (outcome old.setup (observation_of old.setup w e.actor) e.request) (desk_of (beside i) new now) result =
      subst (λ (b : Beside). Fits (outcome old.setup (observation_of old.setup w e.actor) e.request) (desk_of b new now) result)
      (beside_here old.setup.users old.trust old.goals i changed below) handled.serves in
      let own : is_user old.setup e.actor ≡ true = place_is_among old.setup.users e.actor i place in
      record {
        told = told_result given beside old.setup old.table new old.setup.charge old.desks e i before now result
            (beside_elsewhere old.setup.users old.trust old.goals i changed) handled.grows asks.sound place here serves handled.answered;
        refused = refused_result old.setup w e i (desk_of (beside i) new now) result place serves;
        at_once = step_at_once old.setup w e i result place handled.at_once;
        no_memory = step_no_memory old.setup w e i result place handled.no_memory;
        kept = world_left new before now changed result here handled.grows handled.kept is.kept;
        setup = refl;
        trust = asks.within;
        paired = length-set {A = Holdings} old.desks i now;
        sound = All-set (IsSound new old.setup.charge) old.desks i now handled.sound
            (All-weaker (IsSound old.table old.setup.charge) (IsSound new old.setup.charge)
            (λ d s. sound_kept old.table new old.setup.charge d handled.grows s) old.desks asks.sound);
        with_goals = length-set {A = List Goal} old.goals i changed;
        goals_sound = All-set (AreGoalsSound new) old.goals i changed is.sound (all_goals_kept old.table new handled.grows old.goals asks.goals_sound);
        supported = λ was.
            let own : AreSupportedOn before (goals_of old.goals i) =
            subst (λ (d : Holdings). AreSupportedOn d (goals_of old.goals i)) (get_or_from_slice_get old.desks i before bare here) (was i) in
            supported_set old.desks old.goals i now changed (slice_get_within old.desks i before here) below was (is.supported own);
        grows = handled.grows;
        hashed = λ texts hashed inside. handled.hashed texts hashed (rw own at inside);
        taken = handled.taken;
        clashes = λ clash texts hashed inside. handled.clashes clash texts hashed (rw own at inside);
        stored = handled.stored;
      }

  -- where his goals stay
  pub in_world_kept : (new : List Source) (before now : Holdings) (result : Result Rust.Reply Refusal) → slice_get old.desks i ≡ Some before
      → IsHandledKeeping old.setup w e.actor (beside_at old.setup.users old.trust old.goals i) old.table before e.request result new now
      → IsHandled old e result (parts old.setup.users old.setup.charge old.trust old.goals new (slice_set old.desks i now))
  in_world_kept new before now result here is =
      let goals : List Goal = goals_of old.goals i in
      let same : OnErr result (goals ≡ goals) = on_err_any result (goals ≡ goals) refl in
      subst (λ (all : List (List Goal)). IsHandled old e result (parts old.setup.users old.setup.charge old.trust all new (slice_set old.desks i now)))
      (goals_put_back old.goals i goals refl)
      (in_world new before now goals result here (record {
        handled = is.handled;
        kept = same;
        sound = goals_kept old.table new is.handled.grows goals (goals_sound_at old.table old.goals i asks.goals_sound);
        supported = still_supported before now goals is.gains;
      }))

  -- his desk, whatever is read past the end of the desks
  abbrev pub own_desk : Holdings → Holdings
  own_desk d = get_or old.desks i d

  desk_there : (d : Holdings) → slice_get old.desks i ≡ Some (get_or old.desks i d)
  desk_there d = place_there old.setup.users old.desks e.actor i d asks.paired asks.found

  -- a handler of one desk handles its event
  pub at_desk : (d : Holdings) (new : List Source) (now : Holdings) (result : Result Rust.Reply Refusal)
      → IsHandledAtDesk old.setup.charge old.table (get_or old.desks i d) e.request result new now
      → IsHandled old e result (parts old.setup.users old.setup.charge old.trust old.goals new (slice_set old.desks i now))
  at_desk d new now result by_desk =
      let beside : ℕ → Beside = beside_at old.setup.users old.trust old.goals in
      in_world_kept new (get_or old.desks i d) now result (desk_there d)
      (by_desk (beside i) old.setup.users w e.actor
      (desk_found beside old.table old.setup.users old.desks e.actor i (get_or old.desks i d) place (desk_there d)))

  -- so does one that leaves the table
  pub by_desk : (d : Holdings) (now : Holdings) (result : Result Rust.Reply Refusal)
      → IsHandledByDesk old.table (get_or old.desks i d) e.request result now
      → IsHandled old e result (parts old.setup.users old.setup.charge old.trust old.goals old.table (slice_set old.desks i now))
  by_desk d now result handles =
      at_desk d old.table now result
      (handles old.setup.charge (sound_at old.table old.setup.charge old.desks i (get_or old.desks i d) asks.sound (desk_there d)))

  -- and one that reads what he sees
  pub by_observation : (new : List Source) (now : Holdings) (result : Result Rust.Reply Refusal)
      → IsHandledByObservation old.trust old.setup.charge old.table old.desks i e.request result new now
      → IsHandled old e result (parts old.setup.users old.setup.charge old.trust old.goals new (slice_set old.desks i now))
  by_observation new now result handles =
      in_world_kept new (get_or old.desks i bare) now result (desk_there bare)
      (handles old.setup.users old.goals e.actor asks.listed asks.found asks.paired asks.sound asks.within)

  -- and one that changes his goals
  pub at_place : (changed : List Goal) (new : List Source) (now : Holdings) (result : Result Rust.Reply Refusal)
      → IsHandledAtPlace old.setup.users old.setup.charge old.trust old.goals old.table old.desks i e.request result changed new now
      → IsHandled old e result (parts_with old i changed new now)
  at_place changed new now result handles = in_world new (get_or old.desks i bare) now changed result (desk_there bare) (handles e.actor asks.found)

  -- and one that reads his desk alone, and changes his goals
  pub by_goals : (d : Holdings) (changed : List Goal) (result : Result Rust.Reply Refusal)
      → IsHandledByGoals (get_or old.desks i d) (goals_of old.goals i) e.request result changed
      → IsHandled old e result (parts_with old i changed old.table (get_or old.desks i d))
  by_goals d changed result handles =
      let beside : ℕ → Beside = beside_at old.setup.users old.trust old.goals in
      let before : Holdings = get_or old.desks i d in
      in_world old.table before before changed result (desk_there d)
      (handles old.setup w e.actor (trusted_at old.setup.users old.trust i) old.table
      (sound_at old.table old.setup.charge old.desks i before asks.sound (desk_there d)) (goals_sound_at old.table old.goals i asks.goals_sound)
      (desk_found beside old.table old.setup.users old.desks e.actor i before place (desk_there d)))

  -- and one that reads the goals of all, and changes nothing
  pub by_reading : (result : Result Rust.Reply Refusal) → IsReadAtPlace old.setup.users old.trust old.goals i e.request result → IsHandled old e result old
  by_reading result handles =
      let own : List Goal = goals_of old.goals i in
      let same = at_place own old.table (get_or old.desks i bare) result
      (handles old.setup.charge old.table old.desks asks.paired asks.sound asks.goals_sound asks.within) in
      subst (λ (goals : List (List Goal)). IsHandled old e result (parts old.setup.users old.setup.charge old.trust goals old.table old.desks))
      (goals_put_back old.goals i own refl)
      (subst (λ (ds : List Holdings). IsHandled old e result (parts old.setup.users old.setup.charge old.trust (slice_set old.goals i own) old.table ds))
      (set-get_or old.desks i bare) same)

-- what is refused as the model has it, and leaves everything
pub all_left : (old : Parts) (e : Event) (why : Refusal) → All (IsSound old.table old.setup.charge) old.desks → All (AreGoalsSound old.table) old.goals
    → IsWithin (length old.setup.users) old.trust
    → outcome_of old.setup (world_in old) e ≡ Err why → is_fault why ≡ false → IsHandled old e (Err why) old
all_left old e why sound goals_sound within is no_fault = record {
  told = search rules;
  refused = λ own. is;
  at_once = λ other quick o. (let same = sym is ∙ o in cc);
  no_memory = λ free lacks. (let same : why ≡ Memory = cc in let no = rw same at no_fault in cc);
  kept = record { world = refl; table = refl };
  setup = refl;
  trust = within;
  paired = refl;
  sound = sound;
  with_goals = refl;
  goals_sound = goals_sound;
  supported = λ was. was;
  grows = λ path there. refl;
  hashed = λ texts hashed inside. hashed;
  taken = λ clash. (let same : why ≡ Clash = cc in let no = rw same at no_fault in cc);
  clashes = λ clash. (let same : why ≡ Clash = cc in let no = rw same at no_fault in cc);
  stored = search rules;
}

-- a stranger is refused
pub stranger : (old : Parts) (e : Event) → All (IsSound old.table old.setup.charge) old.desks → All (AreGoalsSound old.table) old.goals
    → IsWithin (length old.setup.users) old.trust → position (λ n. bytes_eq n e.actor) old.setup.users ≡ None → IsHandled old e (Err UnknownUser) old
stranger old e sound goals_sound within none =
    all_left old e UnknownUser sound goals_sound within (step_unknown old.setup (world_in old) e (no_place old.setup.users e.actor none)) refl

-- ---- events of one desk

pub is_left : (table : List Source) (desk : Holdings) (result : Result Rust.Reply Refusal) → OnErr result (IsKept table table desk desk)
is_left table desk (Ok r) = search rules
is_left table desk (Err why) = record { sources = refl; desk = refl }

-- what is left as it was, by a request that is refused at a desk
pub left : (beside : Beside) (limit : ℕ) (table : List Source) (desk : Holdings) (request : Request) (result : Result Rust.Reply Refusal)
    → IsSound table limit desk
    → ((users : List (List ℕ)) → Serves (record { users = users; charge = limit }) (desk_of beside table desk) request (desk_of beside table desk) result)
    → ServesAtOnce (desk_of beside table desk) request result → TakesMemory request → IfOk result (λ r. is_refused (reply_of r) ≡ false)
    → IfErr result (λ why. is_clash_refusal why ≡ false)
    → OnOk result (Stores table (desk_of beside table desk) request table)
    → IsHandledBeside beside limit table desk request result table desk
left beside limit table desk request result sound serves at_once takes answered no_clash stored users w u here = record {
  handled = record {
    serves = serves users (observation_of (record { users = users; charge = limit }) w u) here;
    answered = answered;
    at_once = at_once (record { users = users; charge = limit }) (observation_of (record { users = users; charge = limit }) w u) here;
    no_memory = may_lack request (outcome (record { users = users; charge = limit }) (observation_of (record { users = users; charge = limit }) w u) request) result takes;
    kept = is_left table desk result;
    sound = sound;
    grows = λ path there. refl;
    hashed = λ texts hashed inside. hashed;
    taken = λ clash. (let no = rw clash at no_clash in cc);
    clashes = λ clash. (let no = rw clash at no_clash in cc);
    stored = on_ok_weaker result (λ stores. stores (record { users = users; charge = limit }) w u here) stored;
  };
  gains = gains_nothing desk;
}

-- an entry is added with its tree
pub entry_handled : (beside : Beside) (limit : ℕ) (old new : List Source) (before now : Holdings) (request : Request) (entry : DeskEntry) (tree : Tree)
    (result : Result Rust.Reply Refusal)
    → let s : Source = record { path = entry_path entry; tree = tree } in
    IsSound old limit before
    → ((setup : Setup) (observation : Observation) → observation.desk ≡ desk_of beside old before → outcome setup observation request ≡ add_entry setup (desk_of beside old before) (entry_with tree entry))
    → ServesAtOnce (desk_of beside old before) request result → TakesMemory request
    → ((setup : Setup) (w : World) (u : List ℕ) → w u ≡ desk_of beside old before → stored_by setup w u request ≡ s ∷ [])
    → ((setup : Setup) (w : World) (u : List ℕ) → tried_by setup w u request ≡ stored_by setup w u request)
    → ((texts : List (List ℕ)) (setup : Setup) (w : World) (u : List ℕ) → w u ≡ desk_of beside old before → All (Contains texts) (texts_of setup w u request) → IsHashed texts s)
    → AddsEntry limit old before entry tree result new now → IfOk result (λ r. is_refused (reply_of r) ≡ false)
    → OnOk result (IsAdded (entry_path entry) tree old new) → OnOk result (IsSound new limit now) → OnErr result (IsKept old new before now)
    → GainsOnly before now → (result ≡ Err Clash → IsTaken old (entry_path entry) tree)
    → IsHandledBeside beside limit old before request result new now
entry_handled beside limit old new before now request entry tree result sound asks at_once takes stores tries hashes adds answered stored sound_now kept gains taken =
    λ users w u here.
    let s : Source = record { path = entry_path entry; tree = tree } in
    let setup : Setup = record { users = users; charge = limit } in
    record {
      handled = record {
        serves = rw (asks setup (observation_of setup w u) here) (adds users beside);
        answered = answered;
        at_once = at_once setup (observation_of setup w u) here;
        no_memory = may_lack request (outcome setup (observation_of setup w u) request) result takes;
        kept = kept;
        sound = either_way result (IsSound new limit now) sound_now (on_err_weaker result (kept_sound old new before now limit sound) kept);
        grows = either_way result _ (on_ok_weaker result (λ more. rw more (put_once-Extends s old)) stored)
            (on_err_weaker result (kept_later old new before now) kept);
        hashed = λ texts hashed inside.
            either_way result _ (on_ok_weaker result (λ more. rw more (put_once-All (IsHashed texts) s old hashed (hashes texts setup w u here inside))) stored)
            (on_err_weaker result (λ k. rw k.sources hashed) kept);
        taken = λ clash. record { before = []; source = s; behind = []; parts = tries setup w u ∙ stores setup w u here; taken = taken clash };
        clashes = λ clash texts hashed inside.
            let had = taken clash in record {
              one = record { path = s.path; tree = had.had };
              other = s;
              one_hashed = found_holds (IsHashed texts) old s.path had.had hashed had.there;
              other_hashed = hashes texts setup w u here inside;
              one_path = refl;
              two_trees = had.other;
            };
        stored = on_ok_weaker result (λ more. rw (stores setup w u here) more) stored;
      };
      gains = gains;
    }

-- a source is added
pub source_handled : (beside : Beside) (limit : ℕ) (old new : List Source) (before now : Holdings) (name : List ℕ) (tree : Tree) (path : List ℕ)
    (result : Result Rust.Reply Refusal)
    → let entry : DeskEntry = entry.Source path in
    IsSound old limit before → path ≡ source_path tree name → IsTree tree → AddsEntry limit old before entry tree result new now
    → IfOk result (λ r. is_refused (reply_of r) ≡ false)
    → OnOk result (IsAdded path tree old new) → OnOk result (IsSound new limit now) → OnErr result (IsKept old new before now)
    → GainsOnly before now → (result ≡ Err Clash → IsTaken old path tree)
    → IsHandledBeside beside limit old before (AddSource name tree) result new now
unfolding outcome
source_handled beside limit old new before now name tree path result sound is whole =
    entry_handled beside limit old new before now (AddSource name tree) (entry.Source path) tree result sound
    (λ setup observation same. rw (same, is) refl) (source_at_once (desk_of beside old before) name tree result) (λ reply. refl) (λ setup w u here. rw is refl) (λ setup w u. refl)
    (λ texts setup w u here inside. rw is (source_hashed texts name tree whole inside))

fetch_fits : (setup : Setup) (d : Desk) (path : List ℕ) (tree : Tree) (result : Result Rust.Reply Refusal) → held_at path d ≡ Some tree
    → IfOk result (λ r. reply_of r ≡ replies.Tree tree) → IfErr result (λ e. e ≡ Memory) → Fits (fetch d path) d result
fetch_fits setup d path tree (Ok r) there content memory = rw there (ap (becomes d) (sym content))
fetch_fits setup d path tree (Err e) there content memory = λ own. let wrong = rw memory at own in cc

fetch_answered : (tree : Tree) (result : Result Rust.Reply Refusal) → IfOk result (λ r. reply_of r ≡ replies.Tree tree)
    → IfOk result (λ r. is_refused (reply_of r) ≡ false)
fetch_answered tree (Ok r) content = rw content refl
fetch_answered tree (Err e) content = search rules

no_clash_of_memory : (result : Result Rust.Reply Refusal) → IfErr result (λ e. e ≡ Memory) → IfErr result (λ why. is_clash_refusal why ≡ false)
no_clash_of_memory (Ok r) memory = search rules
no_clash_of_memory (Err e) memory = rw memory refl

-- a tree that is held is told
pub fetch_handled : (beside : Beside) (limit : ℕ) (table : List Source) (desk : Holdings) (path : List ℕ) (tree : Tree)
    (result : Result Rust.Reply Refusal)
    → IsSound table limit desk
    → held_at path (desk_of beside table desk) ≡ Some tree → IfOk result (λ r. reply_of r ≡ replies.Tree tree) → IfErr result (λ e. e ≡ Memory)
    → IsHandledBeside beside limit table desk (Fetch path) result table desk
unfolding outcome
fetch_handled beside limit table desk path tree result sound there content memory =
    left beside limit table desk (Fetch path) result sound
    (λ users observation same. rw same (fetch_fits (record { users = users; charge = limit }) (desk_of beside table desk) path tree result there content memory))
    (fetch_at_once (desk_of beside table desk) path result (λ none. let no = sym there ∙ none in cc)) (λ reply. refl) (fetch_answered tree result content)
    (no_clash_of_memory result memory) (on_ok_any result (Stores table (desk_of beside table desk) (Fetch path) table) (λ setup w u here. refl))

-- a text is read as a derivation, which is added
pub derivation_handled : (beside : Beside) (limit : ℕ) (table : List Source) (before now : Holdings) (text : List ℕ) (derivation : Derivation)
    (result : Result Rust.Reply Refusal)
    → nat_le (length text) most_derivation_bytes ≡ true → derivation_of_text text ≡ Some derivation
    → HasAddedDerivation before derivation result now → IsSound table limit before
    → IsHandledBeside beside limit table before (AddDerivation text) result table now
unfolding outcome
derivation_handled beside limit table before now text derivation result within read added sound users w u here = record {
  handled = record {
    serves = rw (here, derivation_read users beside table limit before text derivation within read) (added.adds table limit sound users beside);
    answered = added.answered;
    at_once = derivation_at_once (desk_of beside table before) text result (λ large. let no : true ≡ false = sym within ∙ large in cc)
        (record { users = users; charge = limit }) (observation_of (record { users = users; charge = limit }) w u) here;
    no_memory = λ free. cc;
    kept = on_err_weaker result (λ same. record { sources = refl; desk = same }) added.kept;
    sound = added.sound table limit sound;
    grows = λ path there. refl;
    hashed = λ texts hashed inside. hashed;
    taken = λ clash. (let no = rw clash at added.no_clash in cc);
    clashes = λ clash. (let no = rw clash at added.no_clash in cc);
    stored = on_ok_any result _ refl;
  };
  gains = added.gains;
}
