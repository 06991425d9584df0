-- The closure of what a user sees.
use Rattle.std.proofs.Common.{◌≡◌, ℕ, suc, ◌+◌, ◌<◌, ◌≤◌, Bool, true, false, List, [], ◌∷◌, ◌++◌, length, refl, sym, ◌∙◌, ap, subst, arith, ◌⊎◌, inl, inr, rules, Some, Result, Ok, Err}
use Rattle.std.specs.Prelude.{All, IfOk, IfErr, OnOk, MatchResult, map, slice_get, nat_lt, is_none}
use Rattle.std.specs.List.{list_any}
use Rattle.std.specs.Global.{Vec}
use Rattle.std.proofs.lemmas.List.{append-nil, length-append}
use Rattle.std.proofs.lemmas.List.Elements.{All-weaker, All-map, All-get_or}
use Rattle.std.proofs.lemmas.Bool.Decides.{nat_tests}
use Rattle.model.specs.declared.refusal.Refusal.{Refusal}
use Rattle.model.specs.declared.refusal.Refusal.TheVariants.{Memory}
use Rattle.model.specs.Limits.{most_entries}
use Rattle.model.specs.Results.{then_do, each}
use Rattle.model.specs.Orders.{placed, set_of}
use Rattle.model.specs.Worlds.{Source, Record, Setup, Desk, Pin, World, Goal, Entry, OfSource, OfRecord, are_users}
use Rattle.model.specs.Events as events
use Rattle.model.specs.Replies as replies
use Rattle.model.specs.Outcomes.{Observation, observation_of, view_of, becomes}
use Rattle.model.specs.ClosureRequests.{closure_for, closure}
use Rattle.model.specs.Choices.{Plan, choose, small_plan, plan_by, closure_plan}
use Rattle.model.specs.Repairs.{serve_all}
use Rattle.model.specs.Replies.{is_refused, is_clash_refusal}
use Rattle.model.specs.Steps.{outcome}
use Rattle.model.specs.Closures.{entry_before, entries_with, served_entries, served_plan, ClosuresAreWhole}
use Rattle.model.specs.Closures as closures
use Rattle.model.proofs.BoolLemmas.{either}
use Rattle.laws.proofs.ServedLemmas.{then_ok, ok_is, each_parts}
use Rattle.laws.proofs.ClosureRequestLemmas.{closure_cases, closure_refusals}
use Rattle.store.specs.Stored.{put_all}
use Rattle.realise.specs.Holdings.{Holdings, IsClosed}
use Rattle.laws.proofs.SetLemmas.{Ascends, set_ascends}
use Rattle.choose.specs.Visible.{Visible, visible_on, seen, IsDeskStored, AreStored, IsComplete}
use Rattle.choose.proofs.DeskLemmas.{desks_seen}
use Rattle.records.proofs.EntryOrderLemmas.{entry_before-Weak}
use Rattle.choose.proofs.LabelledLemmas.{sees_in, view_sees_sources}
use Rattle.records.specs.Sound.{IsSoundPlan}
use Rattle.trust.specs.Naming.{place_of, IsWithin}
use Rattle.trust.proofs.PlaceLemmas.{name_found}
use Rattle.events.specs.declared.reply.Reply as Rust
use Rattle.handlers.specs.Stored.{stored_by}
use Rattle.handlers.specs.Sound.{desk_of, IsSound, IsClosure}
use Rattle.events.specs.Terms.{reply_of}
use Rattle.handlers.specs.Parts.{beside_at, desk_among}
use Rattle.handlers.specs.Serving.{AreServed, AreNotServed, AtPlace, IsServedAt, IsPlanned, IsNotPlanned, IsPlannedAt, MayServe}
use Rattle.handlers.specs.Handling.{Fits, RefusedAtOnce, IsHandledKeeping, IsHandledByObservation}
use Rattle.handlers.specs.Viewing.{bare, desk_at, IsView}
use Rattle.trust.proofs.FirstPlaceLemmas.{place_found}
use Rattle.handlers.proofs.WorldLemmas.{desk_found}
use Rattle.handlers.proofs.StepLemmas.{TakesMemory, may_lack}
use Rattle.handlers.proofs.HandlingLemmas.{place_there, sound_at, is_left}
use Rattle.handlers.proofs.SupportLemmas.{gains_nothing}

-- ---- the user at a place

module _ (users : List (List ℕ)) (limit : ℕ) (trust : ℕ → ℕ → Bool) (goals : List (List Goal)) (table : List Source) (desks : List Holdings)
    (actor : List ℕ) (place : ℕ) (listed : are_users users ≡ true) (found : place_of users actor ≡ Some place) (paired : length desks ≡ length users)
    (within : IsWithin (length users) trust) where
  abbrev setup : Setup
  setup = record { users = users; charge = limit }

  abbrev pub world : World
  world = desk_among (beside_at users trust goals) table users desks

  here : slice_get desks place ≡ Some (desk_at desks place)
  here = place_there users desks actor place bare paired found

  pub his_desk : world actor ≡ desk_of (beside_at users trust goals place) table (desk_at desks place)
  his_desk = desk_found (beside_at users trust goals) table users desks actor place (desk_at desks place) (place_found users actor place found) here

  -- what is visible to him
  pub visible : (view : List Holdings) → IsView trust place desks view → visible_on (view_of setup world actor) ≡ seen table view
  visible view is =
      let own = name_found users actor place found in
      ap (λ who. visible_on (view_of setup world who)) (sym own.1) ∙ ap visible_on (is.seen users limit goals table listed paired within)
      ∙ desks_seen table (λ p. desk_of (beside_at users trust goals p) table (desk_at desks p)) (desk_at desks) (λ p. refl) (λ p. refl) is.places
      ∙ ap (seen table) (sym is.held)

  -- his desk is within its limits
  pub his_sound : All (IsSound table limit) desks → IsSound table limit (desk_at desks place)
  his_sound sound = sound_at table limit desks place (desk_at desks place) sound here

  -- where nothing changes
  pub left_there : (request : events.Request) (result : Result Rust.Reply Refusal) → All (IsSound table limit) desks
      → Fits (outcome setup (observation_of setup world actor) request) (world actor) result
      → IfOk result (λ r. is_refused (reply_of r) ≡ false) → RefusedAtOnce (outcome setup (observation_of setup world actor) request) result
      → TakesMemory request → IfErr result (λ why. is_clash_refusal why ≡ false) → OnOk result (table ≡ put_all (stored_by setup world actor request) table)
      → IsHandledKeeping setup world actor (beside_at users trust goals place) table (desk_at desks place) request result table (desk_at desks place)
  left_there request result sound fits answered at_once takes no_clash stored = record {
    handled = record {
      serves = subst (λ (d : Desk). Fits (outcome setup (observation_of setup world actor) request) d result) his_desk fits;
      answered = answered;
      at_once = at_once;
      no_memory = may_lack request (outcome setup (observation_of setup world actor) request) result takes;
      kept = is_left table (desk_at desks place) result;
      sound = his_sound sound;
      grows = λ path there. refl;
      hashed = λ texts hashed inside. hashed;
      taken = λ clash. (let no = rw clash at no_clash in cc);
      clashes = λ clash. (let no = rw clash at no_clash in cc);
      stored = stored;
    };
    gains = gains_nothing (desk_at desks place);
  }

-- ---- what is served

-- what is given is the answer, or memory was refused
abbrev pub IsAnswer : Result (Vec Entry) Refusal → Result (List Entry) Refusal → Type 0
IsAnswer result answer = MatchResult result (λ entries. answer ≡ Ok entries.items) (λ e. (e ≡ Memory) ⊎ (answer ≡ Err e))

-- a plan is the answer, or memory was refused
abbrev pub IsPlanFor : Result Plan Refusal → Result Plan Refusal → Type 0
IsPlanFor result answer = MatchResult result (λ p. answer ≡ Ok p) (λ e. (e ≡ Memory) ⊎ (answer ≡ Err e))

-- what is planned for a view is planned for the user
pub planned_at : (trust : ℕ → ℕ → Bool) (table : List Source) (desks view : List Holdings) (place : ℕ) (class : List ℕ) (result : Result Plan Refusal)
    → IsView trust place desks view
    → ((s : List Desk) → visible_on s ≡ seen table view → IsPlanFor result (closure_plan s (desk_at desks place).pins (class ∷ []) []))
    → IsPlannedAt trust table desks place class result
planned_at trust table desks view place class (Ok p) are planned = λ users limit goals actor listed found paired within.
    let w : World = world users limit trust goals table desks actor place listed found paired within in
    let sees = visible users limit trust goals table desks actor place listed found paired within view are in
    let pins : (w actor).pins ≡ (desk_at desks place).pins = ap (λ (d : Desk). d.pins) (his_desk users limit trust goals table desks actor place
    listed found paired within) in
    let his = view_of (record { users = users; charge = limit }) w actor in
    subst (λ ps. closure_plan his ps (class ∷ []) [] ≡ Ok p) (sym pins) (planned his sees)
planned_at trust table desks view place class (Err why) are planned = λ users limit goals actor listed found paired within.
    let w : World = world users limit trust goals table desks actor place listed found paired within in
    let sees = visible users limit trust goals table desks actor place listed found paired within view are in
    let pins : (w actor).pins ≡ (desk_at desks place).pins = ap (λ (d : Desk). d.pins) (his_desk users limit trust goals table desks actor place
    listed found paired within) in
    let his = view_of (record { users = users; charge = limit }) w actor in
    subst (λ ps. (why ≡ Memory) ⊎ (closure_plan his ps (class ∷ []) [] ≡ Err why)) (sym pins) (planned his sees)

-- what is served of the plan of a class is what the user is served for it
served_of_plan : (trust : ℕ → ℕ → Bool) (table : List Source) (desks : List Holdings) (place : ℕ) (class : List ℕ) (p : Plan) (entries : List Entry)
    → AtPlace trust table desks place (λ setup w u. IsPlanned setup w u class p) → served_plan p ≡ Ok entries → IsSoundPlan p
    → AtPlace trust table desks place (λ setup w u. AreServed setup w u class entries)
served_of_plan trust table desks place class p entries planned served sound = λ users limit goals actor listed found paired within.
    let here = planned users limit goals actor listed found paired within in
    record {
      are = ap (λ o. then_do o served_plan) here ∙ served;
      sound = λ q is. subst IsSoundPlan (ok_is p q _ here is) sound;
    }

refused_of_plan : (trust : ℕ → ℕ → Bool) (table : List Source) (desks : List Holdings) (place : ℕ) (class : List ℕ) (p : Plan) (why : Refusal)
    → AtPlace trust table desks place (λ setup w u. IsPlanned setup w u class p) → (why ≡ Memory) ⊎ (served_plan p ≡ Err why)
    → AtPlace trust table desks place (λ setup w u. AreNotServed setup w u class why)
refused_of_plan trust table desks place class p why planned (inl memory) = λ users limit goals actor listed found paired within. inl memory
refused_of_plan trust table desks place class p why planned (inr is) = λ users limit goals actor listed found paired within.
    inr (ap (λ o. then_do o served_plan) (planned users limit goals actor listed found paired within) ∙ is)

-- where there is no plan, nothing is served
pub unplanned_at : (trust : ℕ → ℕ → Bool) (table : List Source) (desks : List Holdings) (place : ℕ) (class : List ℕ) (why : Refusal)
    → AtPlace trust table desks place (λ setup w u. IsNotPlanned setup w u class why)
    → AtPlace trust table desks place (λ setup w u. AreNotServed setup w u class why)
unplanned_at trust table desks place class why none = λ users limit goals actor listed found paired within. elim (none users limit goals actor listed
    found paired within) [
      | inl memory ↦ inl memory
      | inr is ↦ inr (ap (λ o. then_do o served_plan) is)
    ]

pub served_at : (trust : ℕ → ℕ → Bool) (table : List Source) (desks : List Holdings) (place : ℕ) (class : List ℕ) (p : Plan)
    (result : Result (Vec Entry) Refusal)
    → AtPlace trust table desks place (λ setup w u. IsPlanned setup w u class p) → IsAnswer result (served_plan p) → IfOk result (λ _. IsSoundPlan p)
    → IsServedAt trust table desks place class result
served_at trust table desks place class p (Ok entries) planned served sound = served_of_plan trust table desks place class p entries.items planned served sound
served_at trust table desks place class p (Err why) planned served sound = refused_of_plan trust table desks place class p why planned served

-- why nothing is served is no clash
pub unserved_no_clash : (setup : Setup) (w : World) (u class : List ℕ) (why : Refusal) → AreNotServed setup w u class why → is_clash_refusal why ≡ false
unserved_no_clash setup w u class why (inl memory) = rw memory refl
unserved_no_clash setup w u class why (inr is) = closure_refusals (λ why. is_clash_refusal why ≡ false) refl refl (λ fault. refl) (view_of setup w u)
    (w u).pins (class ∷ []) [] why is

-- no refusal of a closure is one that needs no memory
closure_at_once : (s : Observation) (class : List ℕ) (result : Result Rust.Reply Refusal) → RefusedAtOnce (closure s class) result
closure_at_once s class result = closure_cases (λ o. RefusedAtOnce o result) s class (λ entries why quick o. cc) (λ why quick o. cc) (λ why quick o.
    cc) (λ fault why quick o. cc)

-- ---- a closure that is told

pub closure_handled : (trust : ℕ → ℕ → Bool) (limit : ℕ) (table : List Source) (desks : List Holdings) (place : ℕ) (class : List ℕ) (entries : List
    Entry) (reply : Rust.Reply)
    → AtPlace trust table desks place (λ setup w u. closure_for (observation_of setup w u) class ≡ Ok entries) → reply_of reply ≡ replies.Closure entries
    → IsHandledByObservation trust limit table desks place (events.Closure class) (Ok reply) table (desk_at desks place)
unfolding outcome
closure_handled trust limit table desks place class entries reply served told users goals actor listed found paired sound within =
    let s : Setup = record { users = users; charge = limit } in
    let w : World = world users limit trust goals table desks actor place listed found paired within in
    left_there users limit trust goals table desks actor place listed found paired within (events.Closure class) (Ok reply) sound
    (ap (λ o. then_do o (λ es. becomes (w actor) (replies.Closure es))) (served users limit goals actor listed found paired within)
    ∙ ap (becomes (w actor)) (sym told))
    (rw told refl) (closure_at_once (observation_of s w actor) class (Ok reply)) (λ reply. refl) (search rules) refl

pub closure_refused : (trust : ℕ → ℕ → Bool) (limit : ℕ) (table : List Source) (desks : List Holdings) (place : ℕ) (class : List ℕ) (why : Refusal)
    → AtPlace trust table desks place (λ setup w u. AreNotServed setup w u class why)
    → IsHandledByObservation trust limit table desks place (events.Closure class) (Err why) table (desk_at desks place)
unfolding outcome
closure_refused trust limit table desks place class why refused users goals actor listed found paired sound within =
    let s : Setup = record { users = users; charge = limit } in
    let w : World = world users limit trust goals table desks actor place listed found paired within in
    let none : AreNotServed s w actor class why = refused users limit goals actor listed found paired within in
    left_there users limit trust goals table desks actor place listed found paired within (events.Closure class) (Err why) sound
    (λ own. elim none [
      | inl memory ↦ (let no = rw memory at own in cc)
      | inr is ↦ ap (λ o. then_do o (λ es. becomes (w actor) (replies.Closure es))) is
    ])
    (search rules) (closure_at_once (observation_of s w actor) class (Err why)) (λ reply. refl) (unserved_no_clash s w actor class why none) (search rules)

-- and so is one that is served of a plan, or says why there is none
pub handled_of_plan : (trust : ℕ → ℕ → Bool) (limit : ℕ) (table : List Source) (desks : List Holdings) (place : ℕ) (class : List ℕ)
    (planned : Result Plan Refusal) (given : Result Rust.Reply Refusal) → IsPlannedAt trust table desks place class planned → MayServe planned given
    → IsHandledByObservation trust limit table desks place (events.Closure class) given table (desk_at desks place)
handled_of_plan trust limit table desks place class (Ok p) (Ok reply) planned served =
    closure_handled trust limit table desks place class served.entries reply
    (λ users limit goals actor listed found paired within. ap (λ o. then_do o served_plan) (planned users limit goals actor listed found paired within)
    ∙ served.are) served.told
handled_of_plan trust limit table desks place class (Ok p) (Err why) planned served =
    closure_refused trust limit table desks place class why (refused_of_plan trust table desks place class p why planned served)
handled_of_plan trust limit table desks place class (Err why) given none is =
    subst (λ (o : Result Rust.Reply Refusal). IsHandledByObservation trust limit table desks place (events.Closure class) o table (desk_at desks
    place)) (sym is)
    (closure_refused trust limit table desks place class why (unplanned_at trust table desks place class why none))

-- ---- the entries of a closure

-- a desk on which all is that a view has
desk_with : Visible → Desk
desk_with view = record { trusted = λ name. false; sources = view.sources; derivations = []; records = view.records; pins = []; goals = [] }

on_one_desk : (view : Visible) → visible_on (desk_with view ∷ []) ≡ view
unfolding desk_with
on_one_desk view = λ i. record { records = append-nil view.records i; sources = append-nil view.sources i }

few_placed : {X : Type 0} (before : X → X → Bool) (x : X) (ys : List X) → length (placed before x ys) ≤ length ys + 1
unfolding placed
few_placed before x [] = omega arith
few_placed before x (y ∷ ys) = elim (either (before x y)) [
  | inl t ↦ rw t (omega arith)
  | inr f ↦ elim (either (before y x)) [
    | inl t ↦ rw (f, t) (let rest = few_placed before x ys in omega (arith, rest))
    | inr g ↦ rw (f, g) (omega arith)
  ]
]

few_in_set : {X : Type 0} (before : X → X → Bool) (xs : List X) → length (set_of before xs) ≤ length xs
unfolding set_of
few_in_set before [] = omega arith
few_in_set before (x ∷ xs) = let rest = few_in_set before xs in let one = few_placed before x (set_of before xs) in omega (arith, rest, one)

length-map : {X Y : Type 0} (f : X → Y) (xs : List X) → length (map f xs) ≡ length xs
length-map f [] = refl
length-map f (x ∷ xs) = ap (λ n. suc n) (length-map f xs)

length-each : {X Y : Type 0} (f : X → Result Y Refusal) (xs : List X) (ys : List Y) → each f xs ≡ Ok ys → length ys ≡ length xs
unfolding each
length-each f [] ys e = ap (λ zs. length zs) (sym (ok_is [] ys _ refl e))
length-each f (x ∷ xs) ys e =
    let p = each_parts f x xs ys e in
    ap (λ zs. length zs) (sym p.4) ∙ ap (λ n. suc n) (length-each f xs p.1 p.3)

small_plan_few : (p q : Plan) → small_plan q ≡ Ok p → length p.records + length p.sources ≤ most_entries
small_plan_few p q e = elim (either (nat_lt most_entries (length q.records + length q.sources))) [
  | inl t ↦ absurd (let no = rw t at e in cc)
  | inr f ↦
      let is : q ≡ p = (let same = rw f at e in cc) in
      let few : length q.records + length q.sources ≤ most_entries = grind (arith, nat_tests, f) in
      subst (λ (z : Plan). length z.records + length z.sources ≤ most_entries) is few
]

plan_few : (view : List Desk) (pins : List Pin) (classes sources : List (List ℕ)) (p : Plan) → closure_plan view pins classes sources ≡ Ok p
    → length p.records + length p.sources ≤ most_entries
unfolding plan_by
plan_few view pins classes sources p e = elim (either (list_any (λ c. is_none (choose view pins c)) classes)) [
  | inl t ↦ absurd (let no = rw t at e in cc)
  | inr f ↦ small_plan_few p _ (rw f at e)
]

-- the entries of a plan are those of what serves its classes, and its sources
plan_parts : (p : Plan) (entries : List Entry) → served_plan p ≡ Ok entries
    → (rs : List Record) × (serve_all p.records ≡ Ok rs) × (entries_with p.sources rs ≡ entries)
unfolding served_plan
plan_parts p entries e =
    let w = then_ok (serve_all p.records) (served_entries p.sources) entries e in
    (w.0, w.1, ok_is (entries_with p.sources w.0) entries (served_entries p.sources w.0) refl w.2)

pub is_closure : ClosuresAreWhole → (table : List Source) (view : List Holdings) (pins : List Pin) (classes sources : List (List ℕ)) (entries : List Entry)
    → All IsClosed view
    → ((s : List Desk) → visible_on s ≡ seen table view → closures.closure_entries s pins classes sources ≡ Ok entries) → IsClosure entries
is_closure law table view pins classes sources entries closed served =
    let s : List Desk = desk_with (seen table view) ∷ [] in
    let is : visible_on s ≡ seen table view = on_one_desk (seen table view) in
    let planned = then_ok (closure_plan s pins classes sources) served_plan entries (served s is) in
    let parts = plan_parts planned.0 entries planned.2 in
    let members : List Entry = map OfRecord parts.0 ++ map OfSource planned.0.sources in
    let fewer = few_in_set entry_before members in
    let count : length members ≡ length planned.0.records + length planned.0.sources =
    length-append (map OfRecord parts.0) (map OfSource planned.0.sources)
    ∙ (λ i. length-map OfRecord parts.0 i + length-map OfSource planned.0.sources i)
    ∙ ap (λ n. n + length planned.0.sources) (length-each _ planned.0.records parts.0 parts.1) in
    let few = plan_few s pins classes sources planned.0 planned.1 in
    record {
      whole = law s pins classes sources entries (view_sees_sources s (seen table view) is (sees_in (seen table view) table view refl closed)) (served s is);
      in_order = subst (Ascends entry_before) parts.2 (set_ascends entry_before entry_before-Weak members);
      few = subst (λ (es : List Entry). length es ≤ most_entries) parts.2 (omega (arith, fewer, count, few));
    }

pub closure_of_plan : ClosuresAreWhole
    → (table : List Source) (view : List Holdings) (pins : List Pin) (classes sources : List (List ℕ)) (result : Result Plan Refusal)
    → All IsClosed view → ((s : List Desk) → visible_on s ≡ seen table view → IsPlanFor result (closure_plan s pins classes sources))
    → IfOk result (λ p. (entries : List Entry) → served_plan p ≡ Ok entries → IsClosure entries)
closure_of_plan law table view pins classes sources (Ok p) closed planned = λ entries served.
    is_closure law table view pins classes sources entries closed (λ s sees. ap (λ o. then_do o served_plan) (planned s sees) ∙ served)
closure_of_plan law table view pins classes sources (Err why) closed planned = search rules

pub closure_if_served : (p : Plan) (result : Result (Vec Entry) Refusal) → ((entries : List Entry) → served_plan p ≡ Ok entries → IsClosure entries)
    → IsAnswer result (served_plan p) → IfOk result (λ entries. IsClosure entries.items)
closure_if_served p (Ok entries) closures served = closures entries.items served
closure_if_served p (Err why) closures served = search rules

-- ---- what is stored

-- all that is on desks is stored, and so is what its labels name
pub all_complete : (table : List Source) (limit : ℕ) (desks : List Holdings) → All (IsSound table limit) desks → IsComplete table desks
all_complete table limit desks sound = record {
  stored = All-weaker (IsSound table limit) (IsDeskStored table) (λ d is. is.known) desks sound;
  closed = All-weaker (IsSound table limit) IsClosed (λ d is. is.closed) desks sound;
}

at_each : (P : Holdings → Type 0) (desks : List Holdings) (places : List ℕ) → All P desks → All (λ p. p < length desks) places
    → All P (map (desk_at desks) places)
at_each P desks places all inside =
    All-map P (desk_at desks) places
    (All-weaker (λ p. p < length desks) (λ p. P (desk_at desks p)) (λ p below. All-get_or P desks p bare below all) places inside)

-- and so it is on those of a view
pub view_complete : (trust : ℕ → ℕ → Bool) (place : ℕ) (table : List Source) (desks view : List Holdings) → IsComplete table desks
    → IsView trust place desks view
    → IsComplete table view
view_complete trust place table desks view complete is = record {
  stored = subst (AreStored table) (sym is.held) (at_each (IsDeskStored table) desks is.places complete.stored is.inside);
  closed = subst (All IsClosed) (sym is.held) (at_each IsClosed desks is.places complete.closed is.inside);
}
