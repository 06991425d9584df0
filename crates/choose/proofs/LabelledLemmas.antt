-- What labels name on closed desks is visible.
use Rattle.std.proofs.Common.{◌≡◌, ℕ, true, refl, sym, ◌∙◌, ap, subst, List, Contains, Option, Some, None}
use Rattle.std.specs.Prelude.{bytes_eq, map, is_some, is_none, All, if◌then◌else◌}
use Rattle.std.specs.List.Sorted.{IsPermutation}
use Rattle.std.proofs.lemmas.List.Elements.{All-contains}
use Rattle.std.proofs.lemmas.List.Sorted.{IsPermutation-sym, Contains-permutation}
use Rattle.model.specs.Classes.{Class}
use Rattle.model.specs.Worlds.{Source, Label, Record, Desk, Pin}
use Rattle.model.specs.Choices.{Plan, source_path_of, sources_below}
use Rattle.model.specs.Closures.{SeesSources}
use Rattle.model.proofs.BoolLemmas.{both_parts, same_bytes}
use Rattle.laws.proofs.MemberLemmas.{In, in_of, contains_of, any_true, from_any, in_left, in_right, in_map, from_map, from_filter_map, in_flat_map, from_flat_map}
use Rattle.records.specs.Recorded.{Recorded}
use Rattle.realise.specs.Holdings.{Holdings, is_at, has_labelled, IsClosed, IsClosedWith}
use Rattle.choose.specs.Visible.{Visible, visible_on, seen, choose_in, SeesSourcesOf, SeesSourcesIn, paths_in, LabelsAreVisible, is_source_on}
use Rattle.records.specs.Trees.{source_at, record_at}
use Rattle.choose.specs.Gathering.{IsGathered}
use Rattle.laws.proofs.ClosureLemmas.{chosen_among}
use Rattle.choose.proofs.SourceLemmas.{some_desk}

-- ---- records

-- a record that is seen is on a desk
on_desk : (table : List Source) (desks : List Holdings) (r : Record) → In r (seen table desks).records
    → (d : Holdings) × (q : Recorded) × In d desks × In q d.records × (record_at table q ≡ r)
on_desk table desks r h =
    let v = from_flat_map (λ (d : Holdings). map (record_at table) d.records) r desks h in
    let w = from_map (record_at table) r v.0.records v.2 in
    (v.0, w.0, v.1, w.1, w.2)

-- what one of its labels names is on the desk
has_label : (table : List Source) (desks : List Holdings) → All IsClosed desks → (r : Record) (l : Label) → Contains (seen table desks).records r
    → In l r.labels → (d : Holdings) × In d desks × (has_labelled d l.path l.class ≡ true)
has_label table desks closed r l h k =
    let w = on_desk table desks r (in_of (seen table desks).records r h) in
    let label : In l w.1.labels = subst (λ (v : Record). In l v.labels) (sym w.4) k in
    let on : IsClosed w.0 = All-contains IsClosed desks w.0 closed (contains_of desks w.0 w.2) in
    let all : IsClosedWith w.0 w.1 = All-contains (IsClosedWith w.0) w.0.records w.1 on (contains_of w.0.records w.1 w.3) in
    (w.0, w.2, All-contains (λ (m : Label). has_labelled w.0 m.path m.class ≡ true) w.1.labels l all (contains_of w.1.labels l label))

-- ---- sources

source_parts : (class : Option Class) (p path : List ℕ) → (if is_none class then Some p else None) ≡ Some path → (class ≡ None) × (p ≡ path)
source_parts None p path e = (refl, cc)
source_parts (Some c) p path e = absurd (cc)

sees : (table : List Source) (desks : List Holdings) → All IsClosed desks → SeesSourcesIn (seen table desks)
sees table desks closed r path h k =
    let v = from_filter_map source_path_of path r.labels (in_of (sources_below r) path k) in
    let w = has_label table desks closed r v.0 h v.1 in
    let is = source_parts v.0.class v.0.path path v.2 in
    let there : is_source_on path w.0 ≡ true = sym (λ i. has_labelled w.0 (is.1 i) (is.0 i)) ∙ w.2 in
    ap is_some (some_desk table path desks (any_true (is_source_on path) desks w.0 w.1 there))

-- each source that a visible record labels is visible
pub sees_in : (view : Visible) (table : List Source) (desks : List Holdings) → seen table desks ≡ view → All IsClosed desks → SeesSourcesIn view
sees_in view table desks is closed = subst SeesSourcesIn is (sees table desks closed)

-- so it is on the desks of a user who sees the same
pub view_sees_sources : (desks : List Desk) (view : Visible) → visible_on desks ≡ view → SeesSourcesIn view → SeesSources desks
view_sees_sources desks view is h = subst SeesSourcesIn (sym is) h

-- and each that a record of a plan labels
pub planned_sees : (view : Visible) (pins : List Pin) (classes sources : List (List ℕ)) (p : Plan) (records : List Record)
    → IsGathered view (choose_in view pins) classes sources classes sources p.records p → IsPermutation p.records records → SeesSourcesIn view
    → SeesSourcesOf view records
planned_sees view pins classes sources p records g moved h r path there k =
    let planned : In r p.records = in_of p.records r (Contains-permutation records p.records r (IsPermutation-sym p.records records moved) there) in
    h r path (contains_of view.records r (chosen_among view.records pins r.class.path r (g.chosen r planned)).0) k

-- ---- paths

path_in : (table : List Source) (desks : List Holdings) (d : Holdings) → In d desks → (path : List ℕ) (class : Option Class)
    → has_labelled d path class ≡ true → In path (paths_in (seen table desks))
path_in table desks d h path None e =
    let w = from_any (λ p. bytes_eq p path) d.known.sources e in
    let named : In path d.known.sources = subst (λ p. In p d.known.sources) (same_bytes w.0 path w.2) w.1 in
    let source = in_flat_map (λ (d : Holdings). map (source_at table) d.known.sources) d (source_at table path) desks h
    (in_map (source_at table) path d.known.sources named) in
    in_right path (map (λ (r : Record). r.path) (seen table desks).records) (map (λ (s : Source). s.path) (seen table desks).sources)
    (in_map (λ (s : Source). s.path) (source_at table path) (seen table desks).sources source)
path_in table desks d h path (Some class) e =
    let w = from_any (is_at path class) d.records e in
    let there = in_flat_map (λ (d : Holdings). map (record_at table) d.records) d (record_at table w.0) desks h
    (in_map (record_at table) w.0 d.records w.1) in
    subst (λ p. In p (paths_in (seen table desks))) (same_bytes w.0.path path (both_parts _ _ w.2).0)
    (in_left w.0.path (map (λ (r : Record). r.path) (seen table desks).records) (map (λ (s : Source). s.path) (seen table desks).sources)
    (in_map (λ (r : Record). r.path) (record_at table w.0) (seen table desks).records there))

labels_seen : (table : List Source) (desks : List Holdings) → All IsClosed desks → LabelsAreVisible (seen table desks)
labels_seen table desks closed r l h k =
    let w = has_label table desks closed r l h (in_of r.labels l k) in
    contains_of (paths_in (seen table desks)) l.path (path_in table desks w.0 w.1 l.path l.class w.2)

-- each path that a visible record labels is that of a visible record or of a visible source
pub labels_in : (view : Visible) (table : List Source) (desks : List Holdings) → seen table desks ≡ view → All IsClosed desks → LabelsAreVisible view
labels_in view table desks is closed = subst LabelsAreVisible is (labels_seen table desks closed)
