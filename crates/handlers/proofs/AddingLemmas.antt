-- What one entry more does to a desk.
use Rattle.std.proofs.Common.{◌≡◌, ℕ, ◌+◌, ◌≤◌, Bool, true, false, inl, inr, List, [], ◌∷◌, ◌++◌, length, refl, sym, ◌∙◌, ap, subst, arith, Some, None, Err, append-nil, append_assoc}
use Rattle.std.specs.Prelude.{is_some, option_map, All, map, unwrap_or, bytes_eq, nat_lt, nat_le, ◌&&◌, if◌then◌else◌}
use Rattle.std.specs.List.{list_any}
use Rattle.std.proofs.lemmas.List.{length-append}
use Rattle.std.proofs.lemmas.List.Elements.{All-cons, All-head, All-tail, All-push}
use Rattle.std.proofs.lemmas.Bool.Decides.{nat_tests}
use Rattle.std.proofs.lemmas.Bool.{or_left, or_right}
use Rattle.model.specs.Archives.{Tree, Link, nar}
use Rattle.model.specs.Classes.{is_one_of}
use Rattle.model.specs.Limits.{most_sources, most_derivations, most_records, most_pins}
use Rattle.model.specs.Worlds.{Source, Record, Desk, tree_at, tree_of_record, held, charge_of, is_within, path_of_entry, has_entry, with_entry, same_record}
use Rattle.model.specs.Replies.{Path}
use Rattle.model.specs.Outcomes.{becomes, add_entry}
use Rattle.model.specs.declared.refusal.Refusal.TheVariants.{Quota}
use Rattle.model.proofs.BoolLemmas.{either, same_bytes, or_cases, both_parts}
use Rattle.records.specs.Recorded.{Recorded, with_tree, same_recorded}
use Rattle.records.specs.declared.desk_entry.DeskEntry.{DeskEntry}
use Rattle.records.specs.declared.desk_entry.DeskEntry.TheVariants as entry
use Rattle.store.specs.Stored.{Extends}
use Rattle.records.specs.DeskEntries.{entry_path, entry_with}
use Rattle.realise.specs.Held.{with_archive}
use Rattle.realise.specs.Holdings.{Holdings, paths_of, is_on, holds_entry, has_place, charged_more, is_roomy, IsClosedWithEntry}
use Rattle.handlers.specs.Sound.{sources_at, records_at, desk_of, IsSized, IsSound, Beside}
use Rattle.handlers.proofs.ChargeLemmas.{weight, AgreeAt, weight-between}
use Rattle.handlers.proofs.ClosedLemmas.{stays_closed}
use Rattle.handlers.proofs.DeskLemmas.{IsKnown, same_sources, same_records, sources_known, records_known, known_kept, sized_kept, sized_with}
use Rattle.handlers.proofs.DeskLemmas.{held_found, held_known, held_paths, length-sources_at, length-records_at}

-- ---- whether it is there

same_there : (table : List Source) (records : List Recorded) (tree : Tree) (r : Recorded)
    → list_any (λ q. same_record q (with_tree tree r)) (records_at table records) ≡ list_any (λ q. same_recorded q r) records
same_there table [] tree r = refl
same_there table (q ∷ records) tree r = rw (same_there table records tree r) refl

pub has_entry-is_on : (beside : Beside) (table : List Source) (d : Holdings) (tree : Tree) (e : DeskEntry)
    → has_entry (entry_with tree e) (desk_of beside table d) ≡ is_on e d
has_entry-is_on beside table d tree (entry.Source path) = sym (held_found table d.known.sources path)
has_entry-is_on beside table d tree (entry.Record r) = same_there table d.records tree r

-- ---- its charge

-- where the path is held, the table has the tree there
abbrev pub IsThere : List Source → Holdings → List ℕ → Tree → Type 0
IsThere table d path tree = is_one_of (paths_of d) path ≡ true → tree_at path table ≡ Some tree

-- the paths are among those that a desk holds
abbrev Among : Holdings → List (List ℕ) → Type 0
Among d paths = (path : List ℕ) → is_one_of paths path ≡ true → is_one_of (paths_of d) path ≡ true

agree_at : (table : List Source) (paths : List (List ℕ)) (path : List ℕ) (tree : Tree)
    → (is_one_of paths path ≡ true → tree_at path table ≡ Some tree) → AgreeAt (record { path = path; tree = tree }) (sources_at table paths)
agree_at table [] path tree there = tt
agree_at table (p ∷ paths) path tree there =
    let P : List ℕ → ℕ = λ q. length (nar (unwrap_or (tree_at q table) (Link []))) in (
      λ t. ap P (same_bytes p path t) ∙ ap (λ o. length (nar (unwrap_or o (Link [])))) (there (rw t refl)),
      agree_at table paths path tree (λ h. there (or_right (bytes_eq p path) (is_one_of paths path) h)),
    )

append_any : (xs ys : List (List ℕ)) (path : List ℕ) → is_one_of xs path ≡ true → is_one_of (xs ++ ys) path ≡ true
append_any [] ys path h = cc
append_any (x ∷ xs) ys path h = elim (either (bytes_eq x path)) [
  | inl t ↦ rw t refl
  | inr f ↦ rw f (append_any xs ys path (rw f at h))
]

-- what is charged with one entry more
pub charge_of-entry : (beside : Beside) (table : List Source) (d : Holdings) (tree : Tree) (e : DeskEntry) → d.charge ≡ charge_of (desk_of beside table d)
    → IsThere table d (entry_path e) tree
    → charge_of (with_entry (entry_with tree e) (desk_of beside table d)) ≡ d.charge + charged_more (entry_path e) (length (nar tree)) d
unfolding charge_of
charge_of-entry beside table d tree (entry.Source path) charged there =
    let s : Source = record { path = path; tree = tree } in
    let front : List Source = sources_at table d.known.sources in
    let back : List Source = map tree_of_record (records_at table d.records) in
    let agree : AgreeAt s front = agree_at table d.known.sources path tree (λ h. there (append_any d.known.sources (map (λ r. r.path) d.records) path h)) in
    ap weight (append_assoc front (s ∷ []) back) ∙ weight-between front back s agree
    ∙ rw (held_paths beside table d, ← held_found table (paths_of d) path, ← held_paths beside table d, ← charged) refl
charge_of-entry beside table d tree (entry.Record r) charged there =
    let s : Source = record { path = r.path; tree = tree } in
    let all : List Source = held (desk_of beside table d) in
    let agree : AgreeAt s all = rw (held_paths beside table d) (agree_at table (paths_of d) r.path tree there) in
    ap weight (records_more beside table d r tree) ∙ weight-between all [] s agree
    ∙ rw (append-nil all, ← charged) (rw (held_paths beside table d, ← held_found table (paths_of d) r.path) refl)
  where
    trees_more : (rs : List Record) (q : Record) → map tree_of_record (rs ++ q ∷ []) ≡ map tree_of_record rs ++ tree_of_record q ∷ []
    trees_more [] q = refl
    trees_more (x ∷ rs) q = ap (λ rest. tree_of_record x ∷ rest) (trees_more rs q)

    records_more : (beside : Beside) (table : List Source) (d : Holdings) (r : Recorded) (tree : Tree)
        → held (with_entry (entry_with tree (entry.Record r)) (desk_of beside table d)) ≡ held (desk_of beside table d) ++ record { path = r.path; tree = tree } ∷ []
    records_more beside table d r tree =
        ap (λ rest. sources_at table d.known.sources ++ rest) (trees_more (records_at table d.records) (with_tree tree r))
        ∙ sym (append_assoc (sources_at table d.known.sources) (map tree_of_record (records_at table d.records)) (record { path = r.path; tree = tree } ∷ []))

-- ---- whether it is within the limits

-- the limits that the other lists are within are no obstacle
first_left : (a b c p d : Bool) → b ≡ true → c ≡ true → p ≡ true → (a && (b && (c && (p && d)))) ≡ (a && d)
first_left a b c p d e f g = rw (e, f, g) refl

third_left : (a b c p d : Bool) → a ≡ true → b ≡ true → p ≡ true → (a && (b && (c && (p && d)))) ≡ (c && d)
third_left a b c p d e f g = rw (e, f, g) refl

below : (n m : ℕ) → nat_le (n + 1) m ≡ nat_lt n m
below n m = grind (arith, nat_tests)

pub is_within-entry : (users : List (List ℕ)) (beside : Beside) (table : List Source) (limit : ℕ) (d : Holdings) (tree : Tree) (e : DeskEntry)
    → IsSound table limit d
    → IsThere table d (entry_path e) tree
    → is_within (record { users = users; charge = limit }) (with_entry (entry_with tree e) (desk_of beside table d)) ≡ is_roomy e (charged_more (entry_path e) (length (nar tree)) d) limit d
unfolding is_within
is_within-entry users beside table limit d tree (entry.Source path) sound there =
    let s : Source = record { path = path; tree = tree } in
    let count : length (sources_at table d.known.sources ++ s ∷ []) ≡ length d.known.sources + 1 = rw (length-append (sources_at table d.known.sources) (s ∷ []), length-sources_at table d.known.sources) refl in
    let derivations : nat_le (length d.known.derivations) most_derivations ≡ true = grind (arith, nat_tests, sound.few_derivations) in
    let records : nat_le (length (records_at table d.records)) most_records ≡ true = grind (arith, nat_tests, sound.few_records, length-records_at table d.records) in
    let charge = charge_of-entry beside table d tree (entry.Source path) (sound.charged beside) there in
    let pins : nat_le (length d.pins) most_pins ≡ true = grind (arith, nat_tests, sound.few_pins) in
    first_left (nat_le (length (sources_at table d.known.sources ++ s ∷ [])) most_sources) (nat_le (length d.known.derivations) most_derivations) (nat_le (length (records_at table d.records)) most_records) (nat_le (length d.pins) most_pins)
    (nat_le (charge_of (with_entry (entry_with tree (entry.Source path)) (desk_of beside table d))) limit) derivations records pins
    ∙ rw (count, charge) (ap (λ b. b && nat_le (d.charge + charged_more path (length (nar tree)) d) limit) (below (length d.known.sources) most_sources))
is_within-entry users beside table limit d tree (entry.Record r) sound there =
    let q : Record = with_tree tree r in
    let count : length (records_at table d.records ++ q ∷ []) ≡ length d.records + 1 = rw (length-append (records_at table d.records) (q ∷ []), length-records_at table d.records) refl in
    let sources : nat_le (length (sources_at table d.known.sources)) most_sources ≡ true = grind (arith, nat_tests, sound.few_sources, length-sources_at table d.known.sources) in
    let derivations : nat_le (length d.known.derivations) most_derivations ≡ true = grind (arith, nat_tests, sound.few_derivations) in
    let charge = charge_of-entry beside table d tree (entry.Record r) (sound.charged beside) there in
    let pins : nat_le (length d.pins) most_pins ≡ true = grind (arith, nat_tests, sound.few_pins) in
    third_left (nat_le (length (sources_at table d.known.sources)) most_sources) (nat_le (length d.known.derivations) most_derivations) (nat_le (length (records_at table d.records ++ q ∷ [])) most_records) (nat_le (length d.pins) most_pins)
    (nat_le (charge_of (with_entry (entry_with tree (entry.Record r)) (desk_of beside table d))) limit) sources derivations pins
    ∙ rw (count, charge) (ap (λ b. b && nat_le (d.charge + charged_more r.path (length (nar tree)) d) limit) (below (length d.records) most_records))

-- ---- the desk with it

pub sources_at-push : (table : List Source) (paths : List (List ℕ)) (path : List ℕ) (tree : Tree) → tree_at path table ≡ Some tree
    → sources_at table (paths ++ path ∷ []) ≡ sources_at table paths ++ record { path = path; tree = tree } ∷ []
sources_at-push table [] path tree e = rw e refl
sources_at-push table (p ∷ paths) path tree e = rw (sources_at-push table paths path tree e) refl

pub records_at-push : (table : List Source) (records : List Recorded) (r : Recorded) (tree : Tree) → tree_at r.path table ≡ Some tree
    → records_at table (records ++ r ∷ []) ≡ records_at table records ++ with_tree tree r ∷ []
records_at-push table [] r tree e = rw e refl
records_at-push table (q ∷ records) r tree e = rw (records_at-push table records r tree e) refl

-- a desk of these parts
pub desk_with : Beside → Holdings → List Source → List Record → Desk
desk_with beside d sources records = record { trusted = beside.trusted; sources = sources; derivations = d.known.derivations; records = records; pins = d.pins; goals = beside.goals }

pub desk_of-entry : (beside : Beside) (old new : List Source) (limit : ℕ) (d : Holdings) (tree : Tree) (e : DeskEntry) (archive : ℕ) → Extends old new
    → IsSound old limit d
    → tree_at (entry_path e) new ≡ Some tree
    → desk_of beside new (holds_entry e archive d) ≡ with_entry (entry_with tree e) (desk_of beside old d)
unfolding desk_with
desk_of-entry beside old new limit d tree (entry.Source path) archive later sound there =
    let sources = sources_at-push new d.known.sources path tree there ∙ ap (λ xs. xs ++ record { path = path; tree = tree } ∷ []) (same_sources old new later d.known.sources (sources_known old limit d sound)) in
    let records = same_records old new later d.records (records_known old limit d sound) in
    λ i. desk_with beside d (sources i) (records i)
desk_of-entry beside old new limit d tree (entry.Record r) archive later sound there =
    let sources = same_sources old new later d.known.sources (sources_known old limit d sound) in
    let records = records_at-push new d.records r tree there ∙ ap (λ xs. xs ++ with_tree tree r ∷ []) (same_records old new later d.records (records_known old limit d sound)) in
    λ i. desk_with beside d (sources i) (records i)

paths_more : (rs : List Recorded) (r : Recorded) → map (λ q. q.path) (rs ++ r ∷ []) ≡ map (λ q. q.path) rs ++ r.path ∷ []
paths_more [] r = refl
paths_more (q ∷ rs) r = ap (λ rest. q.path ∷ rest) (paths_more rs r)

known_between : (table : List Source) (xs ys : List (List ℕ)) (path : List ℕ) → All (IsKnown table) (xs ++ ys) → IsKnown table path
    → All (IsKnown table) (xs ++ path ∷ ys)
known_between table [] ys path all one = All-cons (IsKnown table) path ys one all
known_between table (x ∷ xs) ys path all one =
    All-cons (IsKnown table) x (xs ++ path ∷ ys) (All-head (IsKnown table) x (xs ++ ys) all) (known_between table xs ys path (All-tail (IsKnown table) x (xs ++ ys) all) one)

pub known-entry : (table : List Source) (d : Holdings) (e : DeskEntry) (archive : ℕ) → All (IsKnown table) (paths_of d) → IsKnown table (entry_path e)
    → All (IsKnown table) (paths_of (holds_entry e archive d))
known-entry table d (entry.Source path) archive all one =
    let back : List (List ℕ) = map (λ r. r.path) d.records in
    rw (append_assoc d.known.sources (path ∷ []) back) (known_between table d.known.sources back path all one)
known-entry table d (entry.Record r) archive all one =
    let back : List (List ℕ) = map (λ q. q.path) d.records in
    rw (paths_more d.records r, ← append_assoc d.known.sources back (r.path ∷ [])) (All-push (IsKnown table) (d.known.sources ++ back) r.path all one)

place_left : (e : DeskEntry) (archive : ℕ) (d : Holdings) → length d.known.sources ≤ most_sources → length d.records ≤ most_records → has_place e d ≡ true
    → (length (holds_entry e archive d).known.sources ≤ most_sources) × (length (holds_entry e archive d).records ≤ most_records)
place_left (entry.Source path) archive d sources records place =
    let room : length d.known.sources + 1 ≤ most_sources = grind (arith, nat_tests, place) in
    (omega (arith, room, length-append d.known.sources (path ∷ [])), records)
place_left (entry.Record r) archive d sources records place =
    let room : length d.records + 1 ≤ most_records = grind (arith, nat_tests, place) in
    (sources, omega (arith, room, length-append d.records (r ∷ [])))

derivations_stay : (e : DeskEntry) (archive : ℕ) (d : Holdings) → (holds_entry e archive d).known.derivations ≡ d.known.derivations
derivations_stay (entry.Source path) archive d = refl
derivations_stay (entry.Record r) archive d = refl

pins_stay : (e : DeskEntry) (archive : ℕ) (d : Holdings) → (holds_entry e archive d).pins ≡ d.pins
pins_stay (entry.Source path) archive d = refl
pins_stay (entry.Record r) archive d = refl

pub charge_is : (e : DeskEntry) (archive : ℕ) (d : Holdings) → (holds_entry e archive d).charge ≡ d.charge + charged_more (entry_path e) archive d
charge_is (entry.Source path) archive d = refl
charge_is (entry.Record r) archive d = refl

pub archives_are : (e : DeskEntry) (archive : ℕ) (d : Holdings) → (holds_entry e archive d).archives ≡ with_archive (entry_path e, archive) d.archives
archives_are (entry.Source path) archive d = refl
archives_are (entry.Record r) archive d = refl

pub sound-entry : (old new : List Source) (limit : ℕ) (d : Holdings) (tree : Tree) (e : DeskEntry) → Extends old new → IsSound old limit d
    → IsThere old d (entry_path e) tree → tree_at (entry_path e) new ≡ Some tree
    → is_roomy e (charged_more (entry_path e) (length (nar tree)) d) limit d ≡ true → IsClosedWithEntry d e
    → IsSound new limit (holds_entry e (length (nar tree)) d)
sound-entry old new limit d tree e later sound there stored roomy closed =
    let archive : ℕ = length (nar tree) in
    let more : ℕ = charged_more (entry_path e) archive d in
    let parts = both_parts (has_place e d) (nat_le (d.charge + more) limit) roomy in
    let few = place_left e archive d sound.few_sources sound.few_records parts.0 in
    record {
      charged = λ beside.
          charge_is e archive d ∙ sym (charge_of-entry beside old d tree e (sound.charged beside) there)
          ∙ ap charge_of (sym (desk_of-entry beside old new limit d tree e archive later sound stored));
      sized = subst (All (IsSized new)) (sym (archives_are e archive d))
          (sized_with new (entry_path e, archive) d.archives (ap (option_map (λ t. length (nar t))) stored) (sized_kept old new later d.archives sound.sized));
      within = (let fits : d.charge + more ≤ limit = grind (arith, nat_tests, parts.1) in rw (charge_is e archive d) fits);
      few_sources = few.0;
      few_derivations = rw (derivations_stay e archive d) sound.few_derivations;
      few_records = few.1;
      few_pins = rw (pins_stay e archive d) sound.few_pins;
      known = known-entry new d e archive (known_kept old new later (paths_of d) sound.known) (rw stored refl);
      closed = stays_closed d e archive sound.closed closed;
    }

-- ---- adding it

path_with : (tree : Tree) (e : DeskEntry) → path_of_entry (entry_with tree e) ≡ entry_path e
path_with tree (entry.Source path) = refl
path_with tree (entry.Record r) = refl

-- where a record is among others, so is its path
path_among : (records : List Recorded) (r : Recorded) → list_any (λ q. same_recorded q r) records ≡ true
    → is_one_of (map (λ q. q.path) records) r.path ≡ true
path_among [] r h = cc
path_among (q ∷ records) r h = elim (or_cases (same_recorded q r) (list_any (λ x. same_recorded x r) records) h) [
  | inl t ↦ or_left (bytes_eq q.path r.path) _ (both_parts (bytes_eq q.path r.path) _ (both_parts (bytes_eq q.class.path r.class.path) _ t).1).0
  | inr rest ↦ or_right (bytes_eq q.path r.path) _ (path_among records r rest)
]

-- the path of an entry that is on a desk is in the table
pub entry_known : (table : List Source) (limit : ℕ) (d : Holdings) (e : DeskEntry) → IsSound table limit d → is_on e d ≡ true
    → is_some (tree_at (entry_path e) table) ≡ true
entry_known table limit d (entry.Source path) sound on = held_known table d.known.sources path (sources_known table limit d sound) on
entry_known table limit d (entry.Record r) sound on = held_known table (map (λ q. q.path) d.records) r.path (records_known table limit d sound) (path_among d.records r on)

-- where a tree is stored or nothing is, it is there if the path is held
pub there_if_stored : (table : List Source) (limit : ℕ) (d : Holdings) (tree : Tree) (path : List ℕ) (is_stored : Bool) → IsSound table limit d
    → tree_at path table ≡ (if is_stored then Some tree else None) → IsThere table d path tree
there_if_stored table limit d tree path true sound stored = λ held. stored
there_if_stored table limit d tree path false sound stored = λ held. (let known = held_known table (paths_of d) path sound.known held in let none = rw stored at known in cc)

-- an entry that is there, one too many, and one more
pub entry_had : (users : List (List ℕ)) (beside : Beside) (limit : ℕ) (table : List Source) (d : Holdings) (tree : Tree) (e : DeskEntry) → is_on e d ≡ true
    → add_entry (record { users = users; charge = limit }) (desk_of beside table d) (entry_with tree e) ≡ becomes (desk_of beside table d) (Path (entry_path e))
entry_had users beside limit table d tree e on = rw (has_entry-is_on beside table d tree e, on) (ap (λ p. becomes (desk_of beside table d) (Path p)) (path_with tree e))

pub entry_refused : (users : List (List ℕ)) (beside : Beside) (limit : ℕ) (table : List Source) (d : Holdings) (tree : Tree) (e : DeskEntry)
    → IsSound table limit d
    → IsThere table d (entry_path e) tree → is_on e d ≡ false
    → is_roomy e (charged_more (entry_path e) (length (nar tree)) d) limit d ≡ false
    → add_entry (record { users = users; charge = limit }) (desk_of beside table d) (entry_with tree e) ≡ Err Quota
entry_refused users beside limit table d tree e sound there on over = rw (has_entry-is_on beside table d tree e, on, is_within-entry users beside table limit d tree e sound there, over) refl

pub entry_new : (users : List (List ℕ)) (beside : Beside) (limit : ℕ) (table : List Source) (d : Holdings) (tree : Tree) (e : DeskEntry) → IsSound table limit d
    → IsThere table d (entry_path e) tree → is_on e d ≡ false
    → is_roomy e (charged_more (entry_path e) (length (nar tree)) d) limit d ≡ true
    → add_entry (record { users = users; charge = limit }) (desk_of beside table d) (entry_with tree e) ≡ becomes (with_entry (entry_with tree e) (desk_of beside table d)) (Path (entry_path e))
entry_new users beside limit table d tree e sound there on roomy =
    rw (has_entry-is_on beside table d tree e, on, is_within-entry users beside table limit d tree e sound there, roomy)
    (ap (λ p. becomes (with_entry (entry_with tree e) (desk_of beside table d)) (Path p)) (path_with tree e))
