-- What was built already, found goal by goal and user by user, is what the model's user finds in his view.
use Rattle.std.proofs.Common.{◌≡◌, ℕ, zero, suc, ◌+◌, ◌<◌, Bool, true, false, inl, inr, List, [], ◌∷◌, ◌++◌, length, drop, refl, sym, ◌∙◌, ap, subst, arith, Option, Some, None}
use Rattle.std.specs.Prelude.{Any, Contains, map, filter, flat_map, option_map, slice_get, slice_index_or, bytes_eq, is_some, if◌then◌else◌, ◌&&◌}
use Rattle.std.specs.List.{list_any, list_all, range_with_len}
use Rattle.std.proofs.Math.Seq.{drop-cons}
use Rattle.std.proofs.lemmas.List.{map-append}
use Rattle.std.proofs.lemmas.List.Elements.{filter-append}
use Rattle.std.proofs.lemmas.List.Folds.{flat_map-map, Any-from_list_any}
use Rattle.std.proofs.lemmas.Grind.{flat_map-append}
use Rattle.model.specs.Archives.{bytes_before}
use Rattle.model.specs.Classes.{Class, Admission, known_at}
use Rattle.model.specs.Worlds.{Source, Setup, Label, same_label, same_class, Record, Entry, OfSource, OfRecord, path_of_entry, Resolved, Status, Waiting, Planned, Building, Done, Failed, Goal, Desk, World, known_of, tree_at, are_users}
use Rattle.model.specs.Orders.{lesser, least_from, least}
use Rattle.model.specs.Closures.{class_of_entry, path_of_class}
use Rattle.model.specs.Goals.{goal_at, same_resolved}
use Rattle.model.specs.Endings.{label_of_entry, labels_from}
use Rattle.model.specs.FinishedBuilds.{is_record_at, built_at, built_in, built_on, is_labelled_by, finished_build, for_class}
use Rattle.model.specs.Outcomes.{view_of}
use Rattle.model.proofs.BoolLemmas.{either, same_bytes, both_parts}
use Rattle.laws.proofs.MemberLemmas.{In, in_of, any_of, in_right, in_map, from_map, from_filter, from_flat_map}
use Rattle.laws.proofs.ClosureLemmas.{least_in}
use Rattle.laws.proofs.LabelLemmas.{from_labels_in_order}
use Rattle.records.specs.Recorded.{Recorded}
use Rattle.desk_records.specs.RecordLists.{is_record_of}
use Rattle.realise.specs.Holdings.{Holdings, paths_of, records_of}
use Rattle.records.specs.Trees.{record_at}
use Rattle.choose.specs.Visible.{IsStored, IsDeskStored, AreStored}
use Rattle.choose.proofs.ChoosingLemmas.{least_from_append, all_in}
use Rattle.trust.specs.Trusting.{IsReach}
use Rattle.trust.specs.Naming.{place_of, IsWithin}
use Rattle.trust.proofs.PlaceLemmas.{name_found}
use Rattle.jobs.specs.Joining.{same_as}
use Rattle.jobs.specs.Numbers.{numbers, has_scratch, is_done_under}
use Rattle.jobs.specs.Statuses.{is_done, path_in}
use Rattle.handlers.specs.Sound.{Beside, desk_of, records_at}
use Rattle.handlers.specs.Parts.{beside_at}
use Rattle.handlers.specs.Viewing.{places_of, desk_at}
use Rattle.handlers.specs.Supported.{goals_of}
use Rattle.handlers.proofs.DeskLemmas.{known_of-desk_of}
use Rattle.trust.proofs.UsersLemmas.{distinct_users}
use Rattle.handlers.proofs.ViewLemmas.{view_is, places_in, places_out, places_below}
use Rattle.handlers.specs.Taking.{IsLabelledBy}
use Rattle.handlers.proofs.ClosureLemmas.{world, his_desk}
use Rattle.goals.specs.Reusing.{path_before, is_found_at, done_path, found_at, found_by, found_if, found_on, found_in, class_if, class_for, used_again, IsHeldWith, IsFinishedBuild, IsUsedAgain}

-- ---- one after another

-- one record more, which is found, or is not
pub record_next : (p : Recorded → Bool) (best after : Option Recorded) (x : Recorded) (xs ys : List Recorded) → ys ≡ x ∷ xs → p x ≡ true
    → after ≡ Some (lesser path_before best x) → least_from path_before after (filter p xs) ≡ least_from path_before best (filter p ys)
unfolding least_from
record_next p best after x xs ys e t is = rw (e, t, is) refl

-- nothing is found
pub nothing_found : (best : Option Recorded) (found : List Recorded) → found ≡ [] → best ≡ least_from path_before best found
unfolding least_from
nothing_found best found none = rw none refl

-- nothing is found for a derivation that is not known
pub unknown_found : (labels : List Label) (d : Holdings) (path : Option (List ℕ)) → found_at labels d None path ≡ []
unknown_found labels d None = refl
unknown_found labels d (Some path) = refl

-- one number more
pub number_next : (f : ℕ → List Recorded) (best after : Option Recorded) (ns : List ℕ) (i : ℕ) → i < length ns
    → after ≡ least_from path_before best (f (slice_index_or ns i 0))
    → least_from path_before after (flat_map f (drop (i + 1) ns)) ≡ least_from path_before best (flat_map f (drop i ns))
number_next f best after ns i below is =
    let n : ℕ = slice_index_or ns i 0 in
    let one : i + 1 ≡ suc i = omega arith in
    let split : drop i ns ≡ n ∷ drop (i + 1) ns = drop-cons ns i 0 below ∙ ap (λ k. n ∷ drop k ns) (sym one) in
    ap (λ b. least_from path_before b (flat_map f (drop (i + 1) ns))) is
    ∙ sym (least_from_append path_before best (f n) (flat_map f (drop (i + 1) ns)))
    ∙ ap (λ ms. least_from path_before best (flat_map f ms)) (sym split)

-- nothing is found for those of a set who are left out
pub found_near : (found : ℕ → List Recorded) (set near : ℕ → Bool) (place count : ℕ) → ((v : ℕ) → near v ≡ true → set v ≡ true)
    → ((v : ℕ) → near v ≡ false → set v ≡ true → found v ≡ [])
    → flat_map found (filter near (range_with_len place count)) ≡ flat_map found (filter set (range_with_len place count))
found_near found set near place zero within out = refl
found_near found set near place (suc count) within out =
    let rest = found_near found set near (place + 1) count within out in
    elim (either (near place)) [
      | inl t ↦ rw (t, within place t) (ap (λ xs. found place ++ xs) rest)
      | inr f ↦ elim (either (set place)) [
        | inl t ↦ rw (f, t) (rest ∙ ap (λ xs. xs ++ flat_map found (filter set (range_with_len (place + 1) count))) (sym (out place f t)))
        | inr g ↦ rw (f, g) rest
      ]
    ]

-- nothing is left
pub nothing_left : (best : Option Recorded) (xs : List Recorded) → xs ≡ [] → best ≡ least_from path_before best xs
unfolding least_from
nothing_left best xs none = ap (least_from path_before best) (sym none)

-- one place more, which is in the set, or is not
module _ (f : ℕ → List Recorded) (set : ℕ → Bool) (n : ℕ) where
  plain : (ps : List ℕ) → flat_map f (map (λ p. p) ps) ≡ flat_map f ps
  plain ps = flat_map-map f (λ p. p) ps

  pub place_in : (best after : Option Recorded) → set n ≡ true → after ≡ least_from path_before best (f n)
      → best ≡ least path_before (flat_map f (places_of set n)) → after ≡ least path_before (flat_map f (places_of set (n + 1)))
  place_in best after t is before =
      let more : flat_map f (places_of set (n + 1)) ≡ flat_map f (places_of set n) ++ f n =
      sym (plain (places_of set (n + 1))) ∙ ap (flat_map f) (places_in (λ p. p) set n t) ∙ flat_map-append f (map (λ p. p) (places_of set n)) (n ∷ [])
      ∙ (λ i. plain (places_of set n) i ++ append-nothing (f n) i) in
      is ∙ ap (λ b. least_from path_before b (f n)) before
      ∙ sym (least_from_append path_before None (flat_map f (places_of set n)) (f n)) ∙ ap (least path_before) (sym more)
    where
      append-nothing : (xs : List Recorded) → xs ++ [] ≡ xs
      append-nothing [] = refl
      append-nothing (x ∷ xs) = ap (λ l. x ∷ l) (append-nothing xs)

  pub place_out : (best after : Option Recorded) → set n ≡ false → after ≡ best
      → best ≡ least path_before (flat_map f (places_of set n)) → after ≡ least path_before (flat_map f (places_of set (n + 1)))
  place_out best after out is before =
      let same : flat_map f (places_of set (n + 1)) ≡ flat_map f (places_of set n) =
      sym (plain (places_of set (n + 1))) ∙ ap (flat_map f) (places_out (λ p. p) set n out) ∙ plain (places_of set n) in
      is ∙ before ∙ ap (least path_before) (sym same)

-- nobody yet
pub nobody : (f : ℕ → List Recorded) (set : ℕ → Bool) → None ≡ least path_before (flat_map f (places_of set 0))
unfolding least_from
nobody f set = refl

-- ---- what the model's user finds

-- goals that are not built under the path are not built from the same
not_under : (r : Resolved) (o : Option Resolved) → has_scratch r.scratch o ≡ false → same_as r o ≡ false
not_under r None f = refl
not_under r (Some q) f = rw f refl

-- those that are not done are done by no path
not_done : (s : Status) → is_done s ≡ false → path_in s ≡ None
not_done Waiting f = refl
not_done Planned f = refl
not_done (Building job) f = refl
not_done (Done path) f = cc
not_done (Failed why) f = refl

module _ (r : Resolved) (table : List Source) where
  abbrev L : List Label
  L = labels_from r

  abbrev at : Recorded → Record
  at = record_at table

  -- the records of a class at a path that are labelled so
  records_found : (class path : List ℕ) (rs : List Recorded)
      → filter (is_labelled_by r) (filter (is_record_at class path) (map at rs)) ≡ map at (filter (is_found_at L path) (filter (is_record_of class) rs))
  records_found class path [] = refl
  records_found class path (q ∷ rs) = elim (either (bytes_eq q.class.path class)) [
    | inl a ↦ elim (either (bytes_eq q.path path)) [
      | inl b ↦ elim (either (list_all (λ l. list_any (same_label l) L) q.labels)) [
        | inl c ↦ rw (a, b, c) (ap (λ rest. at q ∷ rest) (records_found class path rs))
        | inr c ↦ rw (a, b, c) (records_found class path rs)
      ]
      | inr b ↦ rw (a, b) (records_found class path rs)
    ]
    | inr a ↦ rw a (records_found class path rs)
  ]

  done_found : (d : Holdings) (path : List ℕ) (o : Option Resolved) (k : Option Admission)
      → filter (is_labelled_by r) (built_at r (records_at table d.records) path o k) ≡ map at (found_at L d k (if same_as r o then Some path else None))
  done_found d path None k = refl
  done_found d path (Some q) None = elim (either (same_resolved q r)) [ inl t ↦ rw t refl | inr f ↦ rw f refl ]
  done_found d path (Some q) (Some a) = elim (either (same_resolved q r)) [
    | inl t ↦ rw t (records_found a.class.path path d.records)
    | inr f ↦ rw f refl
  ]

  none_found : (d : Holdings) (k : Option Admission) (b : Bool) → [] ≡ map at (found_at L d k (if b then None else None))
  none_found d k true = refl
  none_found d k false = refl

  status_found : (d : Holdings) (beside : Beside) (g : Goal) (s : Status)
      → filter (is_labelled_by r) (built_in r (desk_of beside table d) g s)
      ≡ map at (found_at L d (known_at d.known g.derivation) (if same_as r g.resolved then path_in s else None))
  status_found d beside g Waiting = none_found d (known_at d.known g.derivation) (same_as r g.resolved)
  status_found d beside g Planned = none_found d (known_at d.known g.derivation) (same_as r g.resolved)
  status_found d beside g (Building job) = none_found d (known_at d.known g.derivation) (same_as r g.resolved)
  status_found d beside g (Done path) =
      ap (λ k. filter (is_labelled_by r) (built_at r (records_at table d.records) path g.resolved (known_at k g.derivation))) (known_of-desk_of beside table d)
      ∙ done_found d path g.resolved (known_at d.known g.derivation)
  status_found d beside g (Failed why) = none_found d (known_at d.known g.derivation) (same_as r g.resolved)

  goals_found : (d : Holdings) (beside : Beside) (gs : List Goal)
      → filter (is_labelled_by r) (flat_map (λ g. built_in r (desk_of beside table d) g g.status) gs) ≡ map at (flat_map (found_by r L d) gs)
  goals_found d beside [] = refl
  goals_found d beside (g ∷ gs) =
      filter-append (is_labelled_by r) (built_in r (desk_of beside table d) g g.status) (flat_map (λ x. built_in r (desk_of beside table d) x x.status) gs)
      ∙ (λ i. status_found d beside g g.status i ++ goals_found d beside gs i)
      ∙ sym (map-append at (found_by r L d g) (flat_map (found_by r L d) gs))

  no_path : (d : Holdings) (k : Option Admission) (b : Bool) → found_at L d k (if b then None else None) ≡ []
  no_path d k true = refl
  no_path d k false = refl

  -- goals that are not done, or not under the path, add nothing
  not_found : (d : Holdings) (g : Goal) → (is_done g.status && has_scratch r.scratch g.resolved) ≡ false → found_by r L d g ≡ []
  not_found d g f =
      let k : Option Admission = known_at d.known g.derivation in
      elim (either (is_done g.status)) [
        | inl t ↦ rw (not_under r g.resolved (rw t at f)) refl
        | inr n ↦ ap (λ p. found_at L d k (if same_as r g.resolved then p else None)) (not_done g.status n) ∙ no_path d k (same_as r g.resolved)
      ]

  numbered : (d : Holdings) (f : ℕ → List Recorded) (k : ℕ) (gs : List Goal) → ((i : ℕ) (g : Goal) → slice_get gs i ≡ Some g → f (k + i) ≡ found_by r L d g)
      → flat_map f (numbers (is_done_under r.scratch) k gs) ≡ flat_map (found_by r L d) gs
  unfolding numbers
  numbered d f k [] same = refl
  numbered d f k (g ∷ gs) same =
      let none : k + zero ≡ k = omega arith in
      let next : (i : ℕ) → suc k + i ≡ k + suc i = λ i. (omega arith) in
      let here : f k ≡ found_by r L d g = rw none at (same zero g refl) in
      let rest = numbered d f (suc k) gs (λ i x there. ap f (next i) ∙ same (suc i) x there) in
      elim (either (is_done g.status && has_scratch r.scratch g.resolved)) [
        | inl t ↦ rw t (λ i. here i ++ rest i)
        | inr n ↦ rw n (rest ∙ ap (λ xs. xs ++ flat_map (found_by r L d) gs) (sym (not_found d g n)))
      ]

  all_numbered : (d : Holdings) (gs : List Goal) → found_on r L d gs ≡ flat_map (found_by r L d) gs
  all_numbered d gs =
      let one : (i : ℕ) → 1 + i ≡ suc i = λ i. (omega arith) in
      numbered d (λ n. found_if r L d (goal_at n gs)) 1 gs (λ i g there. rw (one i, there) refl)

  desk_found : (d : Holdings) (beside : Beside) → filter (is_labelled_by r) (built_on r (desk_of beside table d)) ≡ map at (found_on r L d beside.goals)
  desk_found d beside = goals_found d beside beside.goals ∙ ap (map at) (sym (all_numbered d beside.goals))

  places_found : (users : List (List ℕ)) (trust : ℕ → ℕ → Bool) (goals : List (List Goal)) (desks : List Holdings) (ps : List ℕ)
      → filter (is_labelled_by r) (flat_map (built_on r) (map (λ p. desk_of (beside_at users trust goals p) table (desk_at desks p)) ps))
      ≡ map at (found_in r L desks goals ps)
  places_found users trust goals desks [] = refl
  places_found users trust goals desks (p ∷ ps) =
      let seen : ℕ → Desk = λ k. desk_of (beside_at users trust goals k) table (desk_at desks k) in
      filter-append (is_labelled_by r) (built_on r (seen p)) (flat_map (built_on r) (map seen ps))
      ∙ (λ i. desk_found (desk_at desks p) (beside_at users trust goals p) i ++ places_found users trust goals desks ps i)
      ∙ sym (map-append at (found_on r L (desk_at desks p) (goals_of goals p)) (found_in r L desks goals ps))

  lesser_at : (best : Option Recorded) (x : Recorded)
      → lesser (λ p q. bytes_before p.path q.path) (option_map at best) (at x) ≡ at (lesser path_before best x)
  lesser_at None x = refl
  lesser_at (Some b) x = elim (either (bytes_before x.path b.path)) [ inl t ↦ rw t refl | inr f ↦ rw f refl ]

  least_at : (best : Option Recorded) (xs : List Recorded)
      → least_from (λ p q. bytes_before p.path q.path) (option_map at best) (map at xs) ≡ option_map at (least_from path_before best xs)
  unfolding least_from
  least_at best [] = refl
  least_at best (x ∷ xs) =
      ap (λ b. least_from (λ p q. bytes_before p.path q.path) (Some b) (map at xs)) (lesser_at best x) ∙ least_at (Some (lesser path_before best x)) xs

-- what is found goal by goal is what the user at a place finds
pub finished_so : (trust : ℕ → ℕ → Bool) (goals : List (List Goal)) (desks : List Holdings) (place : ℕ) (r : Resolved) (set : ℕ
    → Bool) (built : Option Recorded)
    → IsReach trust place set → built ≡ least path_before (found_in r (labels_from r) desks goals (places_of set (length desks)))
    → IsFinishedBuild trust goals desks place r built
finished_so trust goals desks place r set built reach is table users limit actor listed found paired within =
    let setup : Setup = record { users = users; charge = limit } in
    let w : World = world users limit trust goals table desks actor place listed found paired within in
    let own = name_found users actor place found in
    let seen : ℕ → Desk = λ k. desk_of (beside_at users trust goals k) table (desk_at desks k) in
    let view : view_of setup w actor ≡ map seen (places_of set (length users)) =
    ap (view_of setup w) (sym own.1)
    ∙ view_is users limit trust goals table desks (distinct_users users listed) paired place set within own.0 reach in
    let ps : List ℕ = places_of set (length desks) in
    ap (λ v. finished_build v r) view
    ∙ ap (λ n. finished_build (map seen (places_of set n)) r) (sym paired)
    ∙ ap (least (λ p q. bytes_before p.path q.path)) (places_found r table users trust goals desks ps)
    ∙ least_at r table None (found_in r (labels_from r) desks goals ps)
    ∙ ap (option_map (record_at table)) (sym is)

-- ---- where it is

-- what is at a place of a list is in it
at_in : (desks : List Holdings) (p : ℕ) → p < length desks → In (desk_at desks p) desks
at_in [] p below = absurd (omega arith)
at_in (d ∷ desks) zero below = inl refl
at_in (d ∷ desks) (suc p) below = inr (at_in desks p (omega arith))

from_found_at : (labels : List Label) (d : Holdings) (k : Option Admission) (o : Option (List ℕ)) (q : Recorded) → In q (found_at labels d k o)
    → In q d.records × (list_all (λ l. list_any (same_label l) labels) q.labels ≡ true)
from_found_at labels d k None q h = absurd h
from_found_at labels d None (Some path) q h = absurd h
from_found_at labels d (Some a) (Some path) q h =
    let one = from_filter (is_found_at labels path) q (records_of a.class.path d) h in
    ((from_filter (is_record_of a.class.path) q d.records one.0).0, (both_parts (bytes_eq q.path path) _ one.1).1)

from_found_if : (r : Resolved) (labels : List Label) (d : Holdings) (o : Option Goal) (q : Recorded) → In q (found_if r labels d o)
    → In q d.records × (list_all (λ l. list_any (same_label l) labels) q.labels ≡ true)
from_found_if r labels d None q h = absurd h
from_found_if r labels d (Some g) q h = from_found_at labels d (known_at d.known g.derivation) (done_path r g) q h

pub held_so : (r : Resolved) (labels : List Label) (desks : List Holdings) (goals : List (List Goal)) (set : ℕ → Bool) (q : Recorded)
    → Some q ≡ least path_before (found_in r labels desks goals (places_of set (length desks))) → IsHeldWith labels desks q
held_so r labels desks goals set q is =
    let there = least_in path_before q (found_in r labels desks goals (places_of set (length desks))) (sym is) in
    let one = from_flat_map (λ p. found_on r labels (desk_at desks p) (goals_of goals p)) q (places_of set (length desks)) there in
    let d : Holdings = desk_at desks one.0 in
    let gs : List Goal = goals_of goals one.0 in
    let two = from_flat_map (λ n. found_if r labels d (goal_at n gs)) q (numbers (is_done_under r.scratch) 1 gs) one.2 in
    let three = from_found_if r labels d (goal_at two.0 gs) q two.2 in
    record {
      desk = d;
      of_run = at_in desks one.0 (all_in (λ p. p < length desks) (places_of set (length desks)) one.0 (places_below set (length desks)) one.1);
      there = three.0;
      labelled = three.1;
    }

-- its tree is in the table
pub held_stored : (table : List Source) (labels : List Label) (desks : List Holdings) (q : Recorded) → AreStored table desks → IsHeldWith labels desks q
    → is_some (tree_at q.path table) ≡ true
held_stored table labels desks q stored held =
    all_in (IsStored table) (paths_of held.desk) q.path (all_in (IsDeskStored table) desks held.desk stored held.of_run)
    (in_right q.path held.desk.known.sources (map (λ (x : Recorded). x.path) held.desk.records)
    (in_map (λ (x : Recorded). x.path) q held.desk.records held.there))

-- its labels are those of the closure
same_option : (a b : Option Class) → same_class a b ≡ true → path_of_class b ≡ path_of_class a
same_option None None t = refl
same_option None (Some c) t = cc
same_option (Some a) None t = cc
same_option (Some a) (Some c) t = ap Some (sym (same_bytes a.path c.path t))

of_all : {X : Type 0} (p : X → Bool) (xs : List X) (x : X) → list_all p xs ≡ true → In x xs → p x ≡ true
of_all p [] x all h = absurd h
of_all p (y ∷ ys) x all h =
    let parts = both_parts (p y) (list_all p ys) all in
    elim h [ inl e ↦ subst (λ z. p z ≡ true) e parts.0 | inr rest ↦ of_all p ys x parts.1 rest ]

label_parts : (e : Entry) → ((label_of_entry e).path ≡ path_of_entry e) × ((label_of_entry e).class ≡ class_of_entry e)
label_parts (OfSource s) = (refl, refl)
label_parts (OfRecord r) = (refl, refl)

pub labelled_so : (r : Resolved) (labels given : List Label) → given ≡ labels_from r → list_all (λ l. list_any (same_label l) given) labels ≡ true
    → (l : Label) → Contains labels l
    → Any (λ e. (path_of_entry e ≡ l.path) × (path_of_class (class_of_entry e) ≡ path_of_class l.class)) r.closure
labelled_so r labels given are all l inside =
    let among : list_any (same_label l) (labels_from r) ≡ true =
    ap (λ ls. list_any (same_label l) ls) (sym are) ∙ of_all (λ k. list_any (same_label k) given) labels l all (in_of labels l inside) in
    let w = Any-from_list_any (same_label l) (labels_from r) among in
    let m : Label = w.1 in
    let same = both_parts (bytes_eq l.path m.path) (same_class l.class m.class) w.4 in
    let entry = from_map label_of_entry m r.closure (from_labels_in_order (map label_of_entry r.closure) m (in_of (labels_from r) m (w.0, w.2, w.3))) in
    let e : Entry = entry.0 in
    let parts = label_parts e in
    any_of (λ x. (path_of_entry x ≡ l.path) × (path_of_class (class_of_entry x) ≡ path_of_class l.class)) r.closure e entry.1 (
      sym parts.0 ∙ ap (λ (k : Label). k.path) entry.2 ∙ sym (same_bytes l.path m.path same.0),
      ap path_of_class (sym parts.1) ∙ ap (λ (k : Label). path_of_class k.class) entry.2 ∙ same_option l.class m.class same.1,
    )

-- ---- what is used again

class_known : (known : Option Admission) (class : Class) → class_if known ≡ Some class → (a : Admission) × (known ≡ Some a) × (a.class ≡ class)
class_known None class is = cc
class_known (Some a) class is = (a, refl, (let same : a.class ≡ class = cc in same))

class_unknown : (known : Option Admission) → class_if known ≡ None → known ≡ None
class_unknown None is = refl
class_unknown (Some a) is = cc

without_build : (known : Option Admission) → None ≡ used_again known None
without_build None = refl
without_build (Some a) = refl

module _ (trust : ℕ → ℕ → Bool) (goals : List (List Goal)) (table : List Source) (desks : List Holdings) (place n : ℕ) (r : Resolved) (d : Holdings)
    (at : d ≡ desk_at desks place) where
  -- what the user at the place knows
  his_known : (users : List (List ℕ)) (limit : ℕ) (actor : List ℕ) (listed : are_users users ≡ true) (found : place_of users actor ≡ Some place)
      (paired : length desks ≡ length users) (within : IsWithin (length users) trust)
      → known_of (world users limit trust goals table desks actor place listed found paired within actor) ≡ d.known
  his_known users limit actor listed found paired within =
      ap known_of (his_desk users limit trust goals table desks actor place listed found paired within)
      ∙ known_of-desk_of (beside_at users trust goals place) table (desk_at desks place) ∙ ap (λ (h : Holdings). h.known) (sym at)

  -- he does not know the derivation
  pub unknown_class : class_for d.known (goal_at n (goals_of goals place)) ≡ None → IsUsedAgain trust goals table desks place n r None
  unknown_class none = record {
    is = λ g there users limit actor listed found paired within.
        let w : World = world users limit trust goals table desks actor place listed found paired within in
        let unknown : known_at d.known g.derivation ≡ None = class_unknown (known_at d.known g.derivation) (ap (class_for d.known) (sym there) ∙ none) in
        let known : known_at (known_of (w actor)) g.derivation ≡ None =
        ap (λ k. known_at k g.derivation) (his_known users limit actor listed found paired within) ∙ unknown in
        ap (λ k. used_again k (finished_build (view_of (record { users = users; charge = limit }) w actor) r)) (sym known);
    stored = λ q is. cc;
    labelled = λ q is. cc;
  }

  -- nothing was built
  pub nothing_built : IsFinishedBuild trust goals desks place r None → IsUsedAgain trust goals table desks place n r None
  nothing_built finished = record {
    is = λ g there users limit actor listed found paired within.
        let w : World = world users limit trust goals table desks actor place listed found paired within in
        without_build (known_at (known_of (w actor)) g.derivation)
        ∙ ap (used_again (known_at (known_of (w actor)) g.derivation)) (sym (finished table users limit actor listed found paired within));
    stored = λ q is. cc;
    labelled = λ q is. cc;
  }

  -- it was, and is made a record of his class
  pub built_used : (class : Class) (q : Recorded) (made : Record) (labels : List Label) → class_for d.known (goal_at n (goals_of goals place)) ≡ Some class
      → IsFinishedBuild trust goals desks place r (Some q) → IsHeldWith labels desks q → labels ≡ labels_from r
      → made ≡ for_class class (record_at table q) → tree_at made.path table ≡ Some made.tree → IsUsedAgain trust goals table desks place n r (Some made)
  built_used class q made labels own finished held are is there = record {
    is = λ g goal users limit actor listed found paired within.
        let w : World = world users limit trust goals table desks actor place listed found paired within in
        let a = class_known (known_at d.known g.derivation) class (ap (class_for d.known) (sym goal) ∙ own) in
        let known : known_at (known_of (w actor)) g.derivation ≡ Some a.0 =
        ap (λ k. known_at k g.derivation) (his_known users limit actor listed found paired within) ∙ a.1 in
        ap Some (is ∙ ap (λ c. for_class c (record_at table q)) (sym a.2))
        ∙ (λ i. used_again (sym known i) (sym (finished table users limit actor listed found paired within) i));
    stored = λ x same. (let one : made ≡ x = cc in subst (λ (y : Record). tree_at y.path table ≡ Some y.tree) one there);
    labelled = λ x same.
        (let one : made ≡ x = cc in
        subst (λ (y : Record). IsLabelledBy r.closure y) (sym is ∙ one) (labelled_so r q.labels labels are held.labelled));
  }
