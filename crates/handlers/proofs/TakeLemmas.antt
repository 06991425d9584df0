-- A closure that is taken.
use Rattle.std.proofs.Common.{◌≡◌, ℕ, suc, ◌<◌, get_or, ◌⊎◌, Bool, List, [], ◌∷◌, refl, sym, ◌∙◌, ap, subst, inl, inr, rules, Some, None, Result, Ok, Err}
use Rattle.std.proofs.lemmas.List.{get_or_default}
use Rattle.std.specs.Prelude.{All, Contains, map, flat_map, filter_map, bytes_eq, unwrap_or, length}
use Rattle.std.proofs.lemmas.List.Elements.{All-nil, All-cons, All-head, All-tail, All-contains}
use Rattle.model.specs.declared.refusal.Refusal.{Refusal}
use Rattle.model.specs.declared.refusal.Refusal.TheVariants.{Memory, Clash, NotRealised}
use Rattle.model.specs.Archives.{Tree, Link}
use Rattle.model.specs.Results.{then_do}
use Rattle.model.specs.Worlds.{Source, Record, Setup, Desk, World, Goal, Pin, Entry, tree_at, with_entries}
use Rattle.model.specs.Events as events
use Rattle.model.specs.Replies as replies
use Rattle.model.specs.Choices.{Plan, choose, source_before, source_among, needed_sources, closure_plan, visible_records, visible_sources}
use Rattle.model.specs.Orders.{set_of}
use Rattle.model.specs.Closures.{served_plan, texts_of_plan, closure_entries, closure_texts, path_for}
use Rattle.model.specs.ClosureRequests.{closure_for, take_entries, take}
use Rattle.model.specs.Outcomes.{Observation, observation_of, view_of, becomes, need, room}
use Rattle.model.specs.Steps.{outcome}
use Rattle.model.proofs.BoolLemmas.{either}
use Rattle.laws.proofs.MemberLemmas.{In, in_of, contains_of, in_map, from_map, from_flat_map, from_filter_map, from_set}
use Rattle.laws.proofs.ServedLemmas.{then_ok, find_in}
use Rattle.laws.proofs.ClosureLemmas.{plan_visible, plan_is, chosen_for}
use Rattle.laws.proofs.ClosureRequestLemmas.{take_cases}
use Rattle.store.specs.Stored.{put_all}
use Rattle.store.proofs.TableLemmas.{found_holds}
use Rattle.store.proofs.PuttingLemmas.{put_all-Extends}
use Rattle.trust.specs.Trusting.{trusts}
use Rattle.records.specs.Recorded.{Recorded}
use Rattle.realise.specs.Holdings.{Holdings}
use Rattle.records.specs.Trees.{source_at, record_at}
use Rattle.closure_laws.specs.RepairLaws.{IsServedEntry, ServedAreMade}
use Rattle.events.specs.declared.reply.Reply as Rust
use Rattle.events.specs.declared.reply.Reply.TheVariants.{Path}
use Rattle.handlers.specs.declared.state.State.{State}
use Rattle.handlers.specs.States.{parts_of, HasPlace}
use Rattle.handlers.specs.Runs.{IsRun}
use Rattle.handlers.specs.Stored.{source_of_entry, taken_sources, AreTaken}
use Rattle.handlers.specs.Sound.{Beside, desk_of, IsSound, IsHashed}
use Rattle.events.specs.Terms.{reply_of}
use Rattle.handlers.specs.Parts.{beside_at, desk_among}
use Rattle.handlers.specs.Given.{HasSoundPlanOf}
use Rattle.handlers.specs.Serving.{AreServed, AreNotServed, AtPlace}
use Rattle.handlers.specs.Handling.{RefusedAtOnce, IsHandledByObservation}
use Rattle.handlers.specs.Taking.{CopiesEntries}
use Rattle.handlers.specs.Viewing.{bare, desk_at}
use Rattle.handlers.proofs.DeskLemmas.{IsKnown, sources_known, records_known, some_of}
use Rattle.handlers.proofs.PuttingLemmas.{put_all-All, taken_clash}
use Rattle.handlers.proofs.RunLemmas.{still_run, with_desk, by_own_observation}
use Rattle.handlers.proofs.StepLemmas.{kept_sound, kept_later}
use Rattle.handlers.proofs.ClosureLemmas.{world, his_desk, his_sound, left_there, unserved_no_clash}

-- ---- two trees with one path

-- ---- what users see is stored

-- the table has the tree of a source at its path
abbrev pub HasTree : List Source → List ℕ → Tree → Type 0
HasTree table path tree = tree_at path table ≡ Some tree

known_tree : (table : List Source) (path : List ℕ) → IsKnown table path → HasTree table path (unwrap_or (tree_at path table) (Link []))
known_tree table path known = sym (some_of (tree_at path table) (Link []) known)

module _ (table : List Source) (limit : ℕ) where
  pub source_stored : (beside : ℕ → Beside) (names : List (List ℕ)) (desks : List Holdings) (v : List ℕ) (s : Source)
      → All (IsSound table limit) desks → In s (desk_among beside table names desks v).sources → HasTree table s.path s.tree
  source_stored beside [] desks v s sound h = absurd h
  source_stored beside (name ∷ names) [] v s sound h = absurd h
  source_stored beside (name ∷ names) (d ∷ desks) v s sound h = elim (either (bytes_eq name v)) [
    | inl t ↦
        let w = from_map (source_at table) s d.known.sources (rw t at h) in
        let known : IsKnown table w.0 = All-contains (IsKnown table) d.known.sources w.0
        (sources_known table limit d (All-head (IsSound table limit) d desks sound)) (contains_of d.known.sources w.0 w.1) in
        subst (λ (s : Source). HasTree table s.path s.tree) w.2 (known_tree table w.0 known)
    | inr f ↦ source_stored (λ k. beside (suc k)) names desks v s (All-tail (IsSound table limit) d desks sound) (rw f at h)
  ]

  pub record_stored : (beside : ℕ → Beside) (names : List (List ℕ)) (desks : List Holdings) (v : List ℕ) (r : Record)
      → All (IsSound table limit) desks → In r (desk_among beside table names desks v).records → HasTree table r.path r.tree
  record_stored beside [] desks v r sound h = absurd h
  record_stored beside (name ∷ names) [] v r sound h = absurd h
  record_stored beside (name ∷ names) (d ∷ desks) v r sound h = elim (either (bytes_eq name v)) [
    | inl t ↦
        let w = from_map (record_at table) r d.records (rw t at h) in
        let paths : List (List ℕ) = map (λ (q : Recorded). q.path) d.records in
        let known : IsKnown table w.0.path = All-contains (IsKnown table) paths w.0.path
        (records_known table limit d (All-head (IsSound table limit) d desks sound)) (contains_of paths w.0.path (in_map (λ (q : Recorded). q.path)
        w.0 d.records w.1)) in
        subst (λ (r : Record). HasTree table r.path r.tree) w.2 (known_tree table w.0.path known)
    | inr f ↦ record_stored (λ k. beside (suc k)) names desks v r (All-tail (IsSound table limit) d desks sound) (rw f at h)
  ]

-- a member of what is seen is on the desk of a user
pub seen_on : {X : Type 0} (f : Desk → List X) (x : X) (w : World) (users : List (List ℕ)) → In x (flat_map f (map w users))
    → (v : List ℕ) × In x (f (w v))
seen_on f x w users h =
    let a = from_flat_map f x (map w users) h in
    let b = from_map w a.0 users a.1 in
    (b.0, subst (λ d. In x (f d)) (sym b.2) a.2)

-- a source of a plan is visible
planned_source : (view : List Desk) (pins : List Pin) (classes sources : List (List ℕ)) (p : Plan) → closure_plan view pins classes sources ≡ Ok p
    → (s : Source) → In s p.sources → In s (visible_sources view)
planned_source view pins classes sources p e s h =
    let visible = visible_sources view in
    let is = plan_is (visible_records view) visible (choose view pins) classes sources p e in
    let paths = needed_sources sources (chosen_for (visible_records view) (choose view pins) classes) in
    let found : List Source = filter_map (source_among visible) paths in
    let in_set : In s (set_of source_before found) = subst (λ (q : Plan). In s q.sources) (sym is) h in
    let w = from_filter_map (source_among visible) s paths (from_set source_before s found in_set) in
    (find_in (λ (t : Source). bytes_eq t.path w.0) visible s w.2).0

-- ---- what is served was hashed

module _ (law : ServedAreMade) (users : List (List ℕ)) (limit : ℕ) (trust : ℕ → ℕ
    → Bool) (goals : List (List Goal)) (table : List Source) (desks : List Holdings)
    (u : List ℕ) (classes sources : List (List ℕ)) (entries : List Entry) (sound : All (IsSound table limit) desks) where
  abbrev w : World
  w = desk_among (beside_at users trust goals) table users desks

  abbrev run : Setup
  run = record { users = users; charge = limit }

  one_hashed : (texts : List (List ℕ)) (p : Plan) → All (IsHashed texts) table → closure_plan (view_of run w u) (w u).pins classes sources ≡ Ok p → (e : Entry)
      → IsServedEntry texts p e → IsHashed texts (source_of_entry e)
  one_hashed texts p hashed planned e (inl source) =
      let s : Source = source.0 in
      let on = seen_on (λ (d : Desk). d.sources) s w _
      (planned_source (view_of run w u) (w u).pins classes sources p planned s (in_of p.sources s source.1)) in
      let stored = source_stored table limit (beside_at users trust goals) users desks on.0 s sound on.1 in
      subst (λ e. IsHashed texts (source_of_entry e)) (sym source.2) (found_holds (IsHashed texts) table s.path s.tree hashed stored)
  one_hashed texts p hashed planned e (inr (inl kept)) =
      let r : Record = kept.0 in
      let on = seen_on (λ (d : Desk). d.records) r w _ (plan_visible (view_of run w u) (w u).pins classes sources p planned r (in_of p.records r kept.1)) in
      let stored = record_stored table limit (beside_at users trust goals) users desks on.0 r sound on.1 in
      let is : IsHashed texts (record { path = r.path; tree = r.tree }) = found_holds (IsHashed texts) table r.path r.tree hashed stored in
      subst (λ (s : Source). IsHashed texts s) (λ i. record { path = (sym kept.2) i; tree = (sym kept.3) i }) is
  one_hashed texts p hashed planned e (inr (inr made)) = record { named = made.0; path = made.2; tree = made.3; made = made.1 }

  all_hashed : (texts : List (List ℕ)) (p : Plan) → All (IsHashed texts) table → closure_plan (view_of run w u) (w u).pins classes sources ≡ Ok p
      → (es : List Entry)
      → ((e : Entry) → In e es → IsServedEntry texts p e) → All (IsHashed texts) (map source_of_entry es)
  all_hashed texts p hashed planned [] own = All-nil (IsHashed texts)
  all_hashed texts p hashed planned (e ∷ es) own =
      All-cons (IsHashed texts) (source_of_entry e) (map source_of_entry es) (one_hashed texts p hashed planned e (own e (inl refl)))
      (all_hashed texts p hashed planned es (λ x h. own x (inr h)))

  pub entries_hashed : closure_entries (view_of run w u) (w u).pins classes sources ≡ Ok entries → HasSoundPlanOf run w u classes sources
      → (texts : List (List ℕ))
      → All (IsHashed texts) table → All (Contains texts) (closure_texts (view_of run w u) (w u).pins classes sources)
      → All (IsHashed texts) (map source_of_entry entries)
  entries_hashed served plans texts hashed inside =
      let planned = then_ok (closure_plan (view_of run w u) (w u).pins classes sources) served_plan entries served in
      let p : Plan = planned.0 in
      let here = subst (λ o. All (Contains texts) (texts_of_plan o)) planned.1 inside in
      all_hashed texts p hashed planned.1 entries (λ e h. law p entries texts (plans p planned.1) planned.2 here e (contains_of entries e h))

-- ---- taking

-- what is copied to the desk of the user at a place, which was read there
pub copied_here : (s : State) (place : ℕ) → HasPlace s place → (before : Holdings) → before ≡ get_or s.desks.items place before
    → (entries copies : List Entry) (result : Result (Unit {0}) Refusal) (new : List Source) (after : Holdings) → copies ≡ entries
    → CopiesEntries s.limits.charge s.table.sources before copies result new after
    → CopiesEntries s.limits.charge s.table.sources (desk_at s.desks.items place) entries result new after
copied_here s place below before read entries copies result new after same copied =
    let inside : place < length s.desks.items = subst (λ n. place < n) (sym s.run.paired) below in
    let is : before ≡ desk_at s.desks.items place = read ∙ get_or_default s.desks.items place before bare inside in
    rw (← is, ← same) copied

-- no refusal of it is one that needs no memory
take_at_once : (setup : Setup) (s : Observation) (class : List ℕ) (result : Result Rust.Reply Refusal) → RefusedAtOnce (take setup s class) result
take_at_once setup s class result =
    take_cases (λ o. RefusedAtOnce o result) s class setup (λ entries path is there why quick o. cc) (λ why quick o. cc) (λ why quick o. cc) (λ fault
    why quick o. cc) (λ why quick o. cc)

taken_outcome : (setup : Setup) (s : Observation) (class : List ℕ) (entries : List Entry) (path : List ℕ) → closure_for s class ≡ Ok entries
    → path_for class entries ≡ Some path
    → take setup s class ≡ room setup (with_entries entries s.desk) (replies.Path path)
taken_outcome setup s class entries path is there =
    ap (λ o. then_do o (take_entries setup s.desk class)) is
    ∙ ap (λ o. need NotRealised o (λ p. room setup (with_entries entries s.desk) (replies.Path p))) there

module _ (law : ServedAreMade) (trust : ℕ → ℕ → Bool) (limit : ℕ) (old : List Source) (desks : List Holdings) (place : ℕ) (class : List ℕ) where
  -- it is not served
  pub take_unserved : (why : Refusal) → AtPlace trust old desks place (λ setup w u. AreNotServed setup w u class why)
      → IsHandledByObservation trust limit old desks place (events.Take class) (Err why) old (desk_at desks place)
  unfolding outcome
  take_unserved why refused users goals actor listed found paired sound within =
      let s : Setup = record { users = users; charge = limit } in
      let w : World = world users limit trust goals old desks actor place listed found paired within in
      let none : AreNotServed s w actor class why = refused users limit goals actor listed found paired within in
      left_there users limit trust goals old desks actor place listed found paired within (events.Take class) (Err why) sound
      (λ own. elim none [
        | inl memory ↦ (let no = rw memory at own in cc)
        | inr is ↦ ap (λ o. then_do o (take_entries s (w actor) class)) is
      ])
      (search rules) (take_at_once s (observation_of s w actor) class (Err why)) (λ reply. refl) (unserved_no_clash s w actor class why none)
      (search rules)

  module _ (entries : List Entry) (served : AtPlace trust old desks place (λ setup w u. AreServed setup w u class entries)) where
    -- memory was refused, or nothing serves the class
    pub take_unnamed : (why : Refusal) → (why ≡ Memory) ⊎ ((why ≡ NotRealised) × (path_for class entries ≡ None))
        → IsHandledByObservation trust limit old desks place (events.Take class) (Err why) old (desk_at desks place)
    unfolding outcome
    take_unnamed why refused users goals actor listed found paired sound within =
        let s : Setup = record { users = users; charge = limit } in
        let w : World = world users limit trust goals old desks actor place listed found paired within in
        left_there users limit trust goals old desks actor place listed found paired within (events.Take class) (Err why) sound
        (λ own. elim refused [
          | inl memory ↦ (let no = rw memory at own in cc)
          | inr none ↦
              ap (λ o. then_do o (take_entries s (w actor) class)) (served users limit goals actor listed found paired within).are
              ∙ ap (λ o. need NotRealised o (λ p. room s (with_entries entries (w actor)) (replies.Path p))) none.1 ∙ ap Err (sym none.0)
        ])
        (search rules) (take_at_once s (observation_of s w actor) class (Err why)) (λ reply. refl)
        (elim refused [ inl memory ↦ rw memory refl | inr none ↦ rw none.0 refl ]) (search rules)

    module _ (path : List ℕ) (named : path_for class entries ≡ Some path) (new : List Source) (after : Holdings) where
      -- it is taken
      pub take_done : (reply : Rust.Reply) → reply_of reply ≡ replies.Path path → CopiesEntries limit old (desk_at desks place) entries (Ok tt) new after
          → IsHandledByObservation trust limit old desks place (events.Take class) (Ok reply) new after
      unfolding outcome
      take_done reply told copies users goals actor listed found paired sound within =
          let s : Setup = record { users = users; charge = limit } in
          let w : World = world users limit trust goals old desks actor place listed found paired within in
          let his = his_desk users limit trust goals old desks actor place listed found paired within in
          let mine = served users limit goals actor listed found paired within in
          record {
            handled = record {
              serves =
                  taken_outcome s (observation_of s w actor) class entries path mine.are named
                  ∙ ap (λ d. room s (with_entries entries d) (replies.Path path)) his
                  ∙ copies.fits users (beside_at users trust goals place) (replies.Path path)
                  ∙ ap (becomes (desk_of (beside_at users trust goals place) new after)) (sym told);
              answered = rw told refl;
              at_once = take_at_once s (observation_of s w actor) class (Ok reply);
              no_memory = λ free. cc;
              kept = search rules;
              sound = copies.sound;
              grows = rw copies.stored (put_all-Extends (map source_of_entry entries) old);
              hashed = λ texts hashed inside. rw copies.stored
                  (put_all-All (IsHashed texts) (map source_of_entry entries) old hashed
                  (entries_hashed law users limit trust goals old desks actor (class ∷ []) [] entries sound mine.are mine.sound texts hashed inside));
              taken = λ clash. cc;
              clashes = λ clash. cc;
              stored = copies.stored ∙ ap (λ o. put_all (taken_sources o) old) (sym mine.are);
            };
            gains = copies.gains;
          }

      -- it is refused
      pub take_refused : (why : Refusal) → CopiesEntries limit old (desk_at desks place) entries (Err why) new after
          → IsHandledByObservation trust limit old desks place (events.Take class) (Err why) new after
      unfolding outcome
      take_refused why copies users goals actor listed found paired sound within =
          let s : Setup = record { users = users; charge = limit } in
          let w : World = world users limit trust goals old desks actor place listed found paired within in
          let his = his_desk users limit trust goals old desks actor place listed found paired within in
          let mine = served users limit goals actor listed found paired within in
          record {
            handled = record {
              serves = λ own.
                  taken_outcome s (observation_of s w actor) class entries path mine.are named
                  ∙ ap (λ d. room s (with_entries entries d) (replies.Path path)) his
                  ∙ copies.fits users (beside_at users trust goals place) (replies.Path path) own;
              answered = search rules;
              at_once = take_at_once s (observation_of s w actor) class (Err why);
              no_memory = λ free. cc;
              kept = copies.kept;
              sound = kept_sound old new (desk_at desks place) after limit (his_sound users limit trust goals old desks actor place listed found
                  paired within sound) copies.kept;
              grows = kept_later old new (desk_at desks place) after copies.kept;
              hashed = λ texts hashed inside. rw copies.kept.sources hashed;
              taken = λ clash.
                  let is : why ≡ Clash = cc in
                  subst (λ o. AreTaken old (taken_sources o)) (sym mine.are) (copies.taken (ap Err is));
              clashes = λ clash texts hashed inside.
                  let is : why ≡ Clash = cc in
                  taken_clash texts old (map source_of_entry entries) hashed
                  (entries_hashed law users limit trust goals old desks actor (class ∷ []) [] entries sound mine.are mine.sound texts hashed inside)
                  (copies.taken (ap Err is));
              stored = search rules;
            };
            gains = copies.gains;
          }

-- a state keeps its facts, whatever comes of the copy
pub run_taken : (law : ServedAreMade) (s : State) (place : ℕ) → HasPlace s place → (class : List ℕ) (entries : List Entry)
    → AtPlace (trusts s.trust) s.table.sources s.desks.items place (λ setup w u. AreServed setup w u class entries)
    → (path : List ℕ) → path_for class entries ≡ Some path → (result : Result (Unit {0}) Refusal) (new : List Source) (after : Holdings)
    → CopiesEntries s.limits.charge s.table.sources (desk_at s.desks.items place) entries result new after → IsRun (with_desk (parts_of s) place new after)
run_taken law s place below class entries served path named (Ok done) new after copies =
    still_run (parts_of s) (with_desk (parts_of s) place new after) place (events.Take class) (Ok (Path path)) s.run below
    (by_own_observation (parts_of s) place (events.Take class) (Ok (Path path)) new after s.run
    (take_done law (trusts s.trust) s.limits.charge s.table.sources s.desks.items place class entries served path named new after (Path path) refl copies))
run_taken law s place below class entries served path named (Err why) new after copies =
    still_run (parts_of s) (with_desk (parts_of s) place new after) place (events.Take class) (Err why) s.run below
    (by_own_observation (parts_of s) place (events.Take class) (Err why) new after s.run
    (take_refused law (trusts s.trust) s.limits.charge s.table.sources s.desks.items place class entries served path named new after why copies))
