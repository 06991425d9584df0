-- A user who trusts another, and who no longer does.
use Rattle.std.proofs.Common.{◌≡◌, ◌≢◌, ℕ, ◌<◌, Bool, true, false, List, [], length, get_or, refl, sym, ◌∙◌, ap, subst, rules, Some, None, Result, Ok, Err}
use Rattle.std.specs.Prelude.{All, bytes_eq, slice_get, slice_set, ◌==◌, ◌||◌, ◌&&◌, not}
use Rattle.std.proofs.lemmas.List.{set-get_or}
use Rattle.model.specs.declared.refusal.Refusal.{Refusal}
use Rattle.model.specs.declared.refusal.Refusal.TheVariants.{UnknownUser}
use Rattle.model.specs.Worlds.{Source, Setup, World, Goal, is_user, are_users, are_distinct}
use Rattle.model.specs.Events as events
use Rattle.model.specs.Replies as replies
use Rattle.model.specs.Outcomes.{Outcome, becomes}
use Rattle.model.specs.Steps.{outcome, outcome_of}
use Rattle.trust.specs.Trusting.{with_pair, without_pair}
use Rattle.trust.specs.Naming.{place_of, name_at, trusted_at, IsWithin}
use Rattle.trust.proofs.PlaceLemmas.{name_found, same_place}
use Rattle.trust.proofs.UsersLemmas.{distinct_users}
use Rattle.trust.proofs.NameLemmas.{trusted_added, trusted_removed, trusted_elsewhere, within_added, within_removed}
use Rattle.events.specs.declared.reply.Reply as reply
use Rattle.events.specs.declared.reply.Reply.TheVariants as Rust
use Rattle.realise.specs.Holdings.{Holdings}
use Rattle.handlers.specs.Stored.{stored_by}
use Rattle.handlers.specs.Sound.{Beside, desk_of, IsSound, AreGoalsSound}
use Rattle.handlers.specs.Viewing.{bare}
use Rattle.handlers.specs.Parts.{goals_of, beside_at, parts, desk_among, IsStep}
use Rattle.handlers.specs.Handling.{IsHandled}
use Rattle.trust.proofs.FirstPlaceLemmas.{IsPlace, place_found, place_is_among, no_place}
use Rattle.handlers.proofs.WorldLemmas.{desk_found}
use Rattle.handlers.proofs.StepLemmas.{step_done}
use Rattle.handlers.proofs.HandlingLemmas.{place_there, all_left}

-- these goals, beside whom a user trusts
abbrev trusting : List Goal → (List ℕ → Bool) → Beside
trusting goals trusted = record { trusted = trusted; goals = goals }

-- a desk that is put back in its place leaves the desks
pub put_back : (users : List (List ℕ)) (limit : ℕ) (given now : ℕ → ℕ → Bool) (goals : List (List Goal)) (table : List Source) (desks : List Holdings) (e : events.Event)
    (i : ℕ) (d : Holdings) (result : Result reply.Reply Refusal)
    → IsHandled (parts users limit given goals table desks) e result (parts users limit now goals table desks)
    → IsHandled (parts users limit given goals table desks) e result (parts users limit now goals table (slice_set desks i (get_or desks i d)))
put_back users limit given now goals table desks e i d result handled =
    subst (λ (ds : List Holdings). IsHandled (parts users limit given goals table desks) e result (parts users limit now goals table ds))
    (sym (set-get_or desks i d)) handled

module _ (users : List (List ℕ)) (limit : ℕ) (given : ℕ → ℕ → Bool) (goals : List (List Goal)) (table : List Source) (desks : List Holdings)
    (actor : List ℕ) (i : ℕ) where
  abbrev setup : Setup
  setup = record { users = users; charge = limit }

  abbrev world : World
  world = desk_among (beside_at users given goals) table users desks

  abbrev before : Holdings
  before = get_or desks i bare

  -- whom the user at a place trusts is changed
  pub trust_changed : (now : ℕ → ℕ → Bool) (request : events.Request) → place_of users actor ≡ Some i → length desks ≡ length users
      → All (IsSound table limit) desks → All (AreGoalsSound table) goals
      → IsWithin (length users) now → ((k : ℕ) → k ≢ i → trusted_at users now k ≡ trusted_at users given k) → stored_by setup world actor request ≡ []
      → outcome_of setup world (record { actor = actor; request = request }) ≡ becomes (desk_of (beside_at users now goals i) table before) replies.Ok
      → IsHandled (parts users limit given goals table desks) (record { actor = actor; request = request }) (Ok Rust.Ok) (parts users limit now goals table desks)
  trust_changed now request found paired sound goals_sound within others nothing is =
      let place : IsPlace users actor i = place_found users actor i found in
      let here : slice_get desks i ≡ Some before = place_there users desks actor i bare paired found in
      let Step : List Holdings → Type 0 = λ ds.
      IsStep setup world (record { actor = actor; request = request }) replies.Ok (desk_among (beside_at users now goals) table users ds) in
      let elsewhere : (k : ℕ) → k ≢ i → beside_at users now goals k ≡ beside_at users given goals k =
      λ k apart. ap (trusting (goals_of goals k)) (others k apart) in
      let step = step_done (beside_at users given goals) (beside_at users now goals) setup table table limit desks
      (record { actor = actor; request = request }) i before before replies.Ok elsewhere (λ path there. refl) sound place here is in
      record {
        told = (refl, subst Step (set-get_or desks i bare) step);
        refused = search rules;
        at_once = λ why quick o. (let no = sym is ∙ o in cc);
        no_memory = λ free lacks. cc;
        kept = search rules;
        setup = refl;
        trust = within;
        paired = refl;
        sound = sound;
        with_goals = refl;
        goals_sound = goals_sound;
        supported = λ was. was;
        grows = λ path there. refl;
        hashed = λ texts hashed inside. hashed;
        taken = λ clash. cc;
        clashes = λ clash. cc;
        stored = rw nothing refl;
      }

  -- he trusts one who is not of the run
  pub trust_unknown : (other : List ℕ) → place_of users actor ≡ Some i → place_of users other ≡ None → All (IsSound table limit) desks
      → All (AreGoalsSound table) goals
      → IsWithin (length users) given
      → IsHandled (parts users limit given goals table desks) (record { actor = actor; request = events.Trust other }) (Err UnknownUser)
      (parts users limit given goals table desks)
  unfolding outcome
  trust_unknown other found none sound goals_sound within =
      let known : is_user setup actor ≡ true = place_is_among users actor i (place_found users actor i found) in
      let unknown : is_user setup other ≡ false = no_place users other none in
      all_left (parts users limit given goals table desks) (record { actor = actor; request = events.Trust other }) UnknownUser sound goals_sound within
      (rw (known, unknown) refl) refl

  pub distrust_unknown : (other : List ℕ) → place_of users actor ≡ Some i → place_of users other ≡ None → All (IsSound table limit) desks
      → All (AreGoalsSound table) goals
      → IsWithin (length users) given
      → IsHandled (parts users limit given goals table desks) (record { actor = actor; request = events.Distrust other }) (Err UnknownUser)
      (parts users limit given goals table desks)
  unfolding outcome
  distrust_unknown other found none sound goals_sound within =
      let known : is_user setup actor ≡ true = place_is_among users actor i (place_found users actor i found) in
      let unknown : is_user setup other ≡ false = no_place users other none in
      all_left (parts users limit given goals table desks) (record { actor = actor; request = events.Distrust other }) UnknownUser sound goals_sound within
      (rw (known, unknown) refl) refl

  his_desk : place_of users actor ≡ Some i → length desks ≡ length users → world actor ≡ desk_of (beside_at users given goals i) table before
  his_desk found paired = desk_found (beside_at users given goals) table users desks actor i before (place_found users actor i found)
      (place_there users desks actor i bare paired found)

  module _ (other : List ℕ) (j : ℕ) (listed : are_users users ≡ true) (found : place_of users actor ≡ Some i) (its : place_of users other ≡ Some j)
      (paired : length desks ≡ length users) (sound : All (IsSound table limit) desks) (goals_sound : All (AreGoalsSound table) goals)
      (within : IsWithin (length users) given) where
    known : is_user setup actor ≡ true
    known = place_is_among users actor i (place_found users actor i found)

    also : is_user setup other ≡ true
    also = place_is_among users other j (place_found users other j its)

    distinct : are_distinct users ≡ true
    distinct = distinct_users users listed

    named : (j < length users) × (name_at users j ≡ other)
    named = name_found users other j its

    same_user : bytes_eq other actor ≡ (j == i)
    same_user =
        let own = name_found users actor i found in
        ap (bytes_eq other) (sym own.1) ∙ same_place users other j i distinct own.0 its

    -- he trusts another
    pub trust_handled : (j == i) ≡ false
        → IsHandled (parts users limit given goals table desks) (record { actor = actor; request = events.Trust other }) (Ok Rust.Ok)
        (parts users limit (with_pair i j given) goals table desks)
    unfolding outcome
    trust_handled differs =
        let D : (List ℕ → Bool) → Outcome = λ t. becomes (desk_of (trusting (goals_of goals i) t) table before) replies.Ok in
        let more : trusted_at users (with_pair i j given) i ≡ (λ name. bytes_eq name other || trusted_at users given i name) =
        trusted_added users given i j distinct named.0 ∙ ap (λ who name. bytes_eq name who || trusted_at users given i name) named.1 in
        trust_changed (with_pair i j given) (events.Trust other) found paired sound goals_sound (within_added (length users) given i j named.0 within)
        (λ k apart. (trusted_elsewhere users given i j k apart).0) refl
        (rw (known, also, same_user, differs, his_desk found paired) (sym (ap D more)))

    -- he trusts himself
    pub trust_own : (j == i) ≡ true
        → IsHandled (parts users limit given goals table desks) (record { actor = actor; request = events.Trust other }) (Ok Rust.Ok)
        (parts users limit given goals table desks)
    unfolding outcome
    trust_own same =
        trust_changed given (events.Trust other) found paired sound goals_sound within (λ k apart. refl) refl
        (rw (known, also, same_user, same, his_desk found paired) refl)

    -- he no longer trusts another
    pub distrust_handled : IsHandled (parts users limit given goals table desks) (record { actor = actor; request = events.Distrust other }) (Ok Rust.Ok)
        (parts users limit (without_pair i j given) goals table desks)
    unfolding outcome
    distrust_handled =
        let D : (List ℕ → Bool) → Outcome = λ t. becomes (desk_of (trusting (goals_of goals i) t) table before) replies.Ok in
        let less : trusted_at users (without_pair i j given) i ≡ (λ name. not (bytes_eq name other) && trusted_at users given i name) =
        trusted_removed users given i j distinct named.0 ∙ ap (λ who name. not (bytes_eq name who) && trusted_at users given i name) named.1 in
        trust_changed (without_pair i j given) (events.Distrust other) found paired sound goals_sound (within_removed (length users) given i j within)
        (λ k apart. (trusted_elsewhere users given i j k apart).1) refl
        (rw (known, also, his_desk found paired) (sym (ap D less)))
