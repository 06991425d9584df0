-- Forgetting what was built, as an event.
use Rattle.std.proofs.Common.{◌≡◌, ℕ, Bool, true, false, inl, inr, List, [], ◌∷◌, length, map, refl, sym, ◌∙◌, ap, rules, Some, None, Ok, Err}
use Rattle.std.specs.Prelude.{◌&&◌, ◌||◌, not, All, bytes_eq}
use Rattle.std.specs.List.{list_any}
use Rattle.std.proofs.lemmas.Bool.{cond_both, or_parts}
use Rattle.std.proofs.lemmas.List.Elements.{All-nil, All-cons, All-head, All-tail}
use Rattle.model.specs.declared.refusal.Refusal.{Refusal}
use Rattle.model.specs.declared.refusal.Refusal.TheVariants.{Memory, NotHeld, InUse}
use Rattle.model.specs.Worlds.{Source, Setup, Desk, World, Entry, OfSource, OfRecord, Status, Waiting, Building, Goal, are_users}
use Rattle.model.specs.Goals.{in_status, is_building}
use Rattle.model.specs.FinishedBuilds.{is_record_at}
use Rattle.model.specs.ForgetRequests.{is_entry_at, is_built_from, builds_with, let_go, is_in_use, forget}
use Rattle.model.specs.ForgetRequests as model
use Rattle.model.specs.Events as events
use Rattle.model.specs.Replies as replies
use Rattle.model.specs.Replies.{is_clash_refusal}
use Rattle.model.specs.Outcomes.{Observation, observation_of, becomes, check}
use Rattle.model.specs.Steps.{outcome}
use Rattle.model.proofs.BoolLemmas.{either}
use Rattle.trust.specs.Trusting.{IsReach}
use Rattle.trust.specs.Naming.{place_of, names, trusted_at, IsWithin}
use Rattle.events.specs.declared.reply.Reply as Rust
use Rattle.events.specs.Terms.{reply_of}
use Rattle.realise.specs.Held.{paths_held}
use Rattle.desk_records.specs.RecordLists.{is_recorded_at}
use Rattle.realise.specs.Holdings.{Holdings, is_needed, without_records}
use Rattle.realise.proofs.ForgettingLemmas.{labelled_still}
use Rattle.handlers.specs.Sound.{Beside, desk_of, IsSound, IsResolvedIn, AreGoalsSound}
use Rattle.handlers.specs.Parts.{goals_of}
use Rattle.handlers.specs.Supported.{IsEntryOn, IsSupported, AreSupportedOn}
use Rattle.handlers.specs.Viewing.{desk_at}
use Rattle.handlers.specs.Handling.{IsHandledWithGoals}
use Rattle.handlers.proofs.GoalLemmas.{goals_sound_at}
use Rattle.trust.proofs.UsersLemmas.{distinct_users}
use Rattle.handlers.proofs.ForgettingLemmas.{sound_without, there_as, needed_as, desk_without}
use Rattle.handlers.proofs.ViewLemmas.{reach_of}
use Rattle.handlers.proofs.ClosureLemmas.{world, his_desk, his_sound}
use Rattle.goals.proofs.AskingLemmas.{goals_handled}

-- ---- goals that are let go

module _ (class path : List ℕ) where
  -- what a goal that waits or stays is built from is stored if it is needed
  sound_let_go : (table : List Source) (goals : List Goal) → AreGoalsSound table goals → AreGoalsSound table (map (let_go class path) goals)
  sound_let_go table [] sound = All-nil (IsResolvedIn table)
  sound_let_go table (g ∷ goals) sound =
      let own : IsResolvedIn table g = All-head (IsResolvedIn table) g goals sound in
      All-cons (IsResolvedIn table) (let_go class path g) (map (let_go class path) goals)
      (cond_both (is_building g.status && is_built_from class path g.resolved) (in_status Waiting g) g (IsResolvedIn table)
      (λ waits r keeps. ((own r keeps).0, λ needs. absurd (let no : false ≡ true = needs in cc))) (λ stays. own))
      (sound_let_go table goals (All-tail (IsResolvedIn table) g goals sound))

  -- an entry that is not taken away is on the desk still
  entry_still : (d : Holdings) (e : Entry) → is_entry_at class path e ≡ false → IsEntryOn d e → IsEntryOn (without_records class path d) e
  entry_still d (OfSource s) other on = labelled_still class path d s.path None refl on
  entry_still d (OfRecord r) other on = labelled_still class path d r.path (Some r.class) other on

  entries_still : (d : Holdings) (entries : List Entry) → list_any (is_entry_at class path) entries ≡ false → All (IsEntryOn d) entries
      → All (IsEntryOn (without_records class path d)) entries
  entries_still d [] none on = All-nil (IsEntryOn (without_records class path d))
  entries_still d (e ∷ entries) none on =
      let parts = or_parts (is_entry_at class path e) (list_any (is_entry_at class path) entries) none in
      All-cons (IsEntryOn (without_records class path d)) e entries (entry_still d e parts.0 (All-head (IsEntryOn d) e entries on))
      (entries_still d entries parts.1 (All-tail (IsEntryOn d) e entries on))

  -- a goal that is built still has what it is built from
  goal_supported : (d : Holdings) (g : Goal) → IsSupported d g → IsSupported (without_records class path d) (let_go class path g)
  goal_supported d g supported = elim (either (is_building g.status && is_built_from class path g.resolved)) [
    | inl t ↦ rw t (λ job building r keeps. absurd (let no : Waiting ≡ Building job = building in cc))
    | inr f ↦ rw f (λ job building r keeps.
        let apart : is_built_from class path g.resolved ≡ false =
        sym (ap (λ (s : Status). is_building s && is_built_from class path g.resolved) building) ∙ f in
        let none : list_any (is_entry_at class path) r.closure ≡ false = ap (is_built_from class path) (sym keeps) ∙ apart in
        entries_still d r.closure none (supported job building r keeps))
  ]

  supported_let_go : (d : Holdings) (goals : List Goal) → AreSupportedOn d goals → AreSupportedOn (without_records class path d) (map (let_go class path) goals)
  supported_let_go d [] supported = All-nil (IsSupported (without_records class path d))
  supported_let_go d (g ∷ goals) supported =
      All-cons (IsSupported (without_records class path d)) (let_go class path g) (map (let_go class path) goals)
      (goal_supported d g (All-head (IsSupported d) g goals supported)) (supported_let_go d goals (All-tail (IsSupported d) g goals supported))

-- ---- the event

module _ (users : List (List ℕ)) (limit : ℕ) (trust : ℕ → ℕ → Bool) (goals : List (List Goal)) (table : List Source) (desks : List Holdings) (place : ℕ)
    (class path : List ℕ) (listed : are_users users ≡ true) (paired : length desks ≡ length users) (sound : All (IsSound table limit) desks)
    (goals_sound : All (AreGoalsSound table) goals) (within : IsWithin (length users) trust) (actor : List ℕ) (found : place_of users actor ≡ Some place) where
  abbrev setup : Setup
  setup = record { users = users; charge = limit }

  abbrev d : Holdings
  d = desk_at desks place

  abbrev own : List Goal
  own = goals_of goals place

  abbrev w : World
  w = world users limit trust goals table desks actor place listed found paired within

  abbrev observation : Observation
  observation = observation_of setup w actor

  abbrev request : events.Request
  request = events.Forget class path

  abbrev beside : List Goal → Beside
  beside changed = record { trusted = trusted_at users trust place; goals = changed }

  his : w actor ≡ desk_of (beside own) table d
  his = his_desk users limit trust goals table desks actor place listed found paired within

  -- whether a record of it is there
  there_is : list_any (is_record_at class path) observation.desk.records ≡ list_any (is_recorded_at class path) d.records
  there_is = ap (λ (x : Desk). list_any (is_record_at class path) x.records) his ∙ there_as table class path d.records

  -- whether it is in use
  module _ (set : ℕ → Bool) (reach : IsReach trust place set) where
    reached : names users set ≡ observation.reach
    reached = reach_of users limit trust goals table desks (distinct_users users listed) paired actor place set within found reach

    used_is : is_in_use observation class path ≡ (is_needed class path d || list_any (builds_with (names users set) class path) own)
    used_is =
        (λ i. list_any (model.refers_to_class class path) (model.remaining class path (his i).records) || list_any (builds_with observation.reach
        class path) (his i).goals)
        ∙ (λ i. needed_as table class path d i || list_any (builds_with (sym reached i) class path) own)

  forget_is : (held used : Bool) → list_any (is_recorded_at class path) d.records ≡ held → is_in_use observation class path ≡ used
      → forget observation class path ≡ check NotHeld held (check InUse (not used) (becomes (model.without_records class path observation.desk) replies.Ok))
  forget_is held used there is =
      λ i. check NotHeld ((there_is ∙ there) i) (check InUse (not (is i)) (becomes (model.without_records class path observation.desk) replies.Ok))

  own_sound : AreGoalsSound table own
  own_sound = goals_sound_at table goals place goals_sound

  d_sound : IsSound table limit d
  d_sound = his_sound users limit trust goals table desks actor place listed found paired within sound

  -- what is refused leaves all
  refused_so : (why : Refusal) → (why ≡ Memory → ⊥) → is_clash_refusal why ≡ false → forget observation class path ≡ Err why
      → IsHandledWithGoals setup w actor (trusted_at users trust place) own table d request (Err why) own table d
  unfolding outcome
  refused_so why other no_clash is =
      goals_handled setup w actor (trusted_at users trust place) own own table d request (Err why) d_sound own_sound (λ was. was) refl (λ fault. is)
      (search rules)
      (λ second quick o. (let same : why ≡ second = cc in ap Err same)) (λ free lacks. other (let memory : why ≡ Memory = cc in memory)) no_clash refl

  -- there is none
  pub forget_absent : list_any (is_recorded_at class path) d.records ≡ false
      → IsHandledWithGoals setup w actor (trusted_at users trust place) own table d request (Err NotHeld) own table d
  forget_absent none = refused_so NotHeld (λ memory. cc) refl (forget_is false (is_in_use observation class path) none refl)

  module _ (set : ℕ → Bool) (reach : IsReach trust place set) (there : list_any (is_recorded_at class path) d.records ≡ true) where
    -- it is in use
    pub forget_used : (is_needed class path d || list_any (builds_with (names users set) class path) own) ≡ true
        → IsHandledWithGoals setup w actor (trusted_at users trust place) own table d request (Err InUse) own table d
    forget_used used = refused_so InUse (λ memory. cc) refl (forget_is true true there (used_is set reach ∙ used))

    -- it is taken away
    pub forget_done : (is_needed class path d || list_any (builds_with (names users set) class path) own) ≡ false
        → list_any (bytes_eq path) (paths_held d.archives) ≡ true → (reply : Rust.Reply) → reply_of reply ≡ replies.Ok
        → IsHandledWithGoals setup w actor (trusted_at users trust place) own table d request (Ok reply) (map (let_go class path) own) table
        (without_records class path d)
    unfolding outcome
    forget_done free held reply told =
        let parts = or_parts (is_needed class path d) (list_any (builds_with (names users set) class path) own) free in
        let is : forget observation class path ≡ becomes (model.without_records class path observation.desk) replies.Ok = forget_is true false there
        (used_is set reach ∙ free) in
        let after : model.without_records class path observation.desk ≡ desk_of (beside (map (let_go class path) own)) table (without_records class path d) =
        ap (model.without_records class path) his ∙ desk_without table class path (beside own) d in
        record {
          handled = record {
            serves = is ∙ (λ i. becomes (after i) (sym told i));
            answered = rw told refl;
            at_once = λ why quick o. (let no = sym is ∙ o in cc);
            no_memory = λ takes lacks. cc;
            kept = search rules;
            sound = sound_without table class path limit d d_sound there held parts.0;
            grows = λ p stands. refl;
            hashed = λ texts hashed inside. hashed;
            taken = λ clash. cc;
            clashes = λ clash. cc;
            stored = refl;
          };
          kept = search rules;
          sound = sound_let_go class path table own own_sound;
          supported = supported_let_go class path d own;
        }
