-- What the labels of an output that is offered name is on the desk.
use Rattle.std.proofs.Common.{◌≡◌, Bool, true, false, List, [], ◌∷◌, ◌++◌, ap}
use Rattle.std.specs.Prelude.{All, map, bytes_eq}
use Rattle.std.specs.List.{list_any}
use Rattle.std.proofs.lemmas.List.Elements.{All-nil, All-cons, All-weaker, All-map, All-append, All-filter}
use Rattle.std.proofs.lemmas.Bool.{or_left, or_right, and_from}
use Rattle.model.specs.Derivations.{Derivation}
use Rattle.model.specs.Classes.{Admission, is_one_of}
use Rattle.model.specs.Settling.{Settled}
use Rattle.model.specs.Worlds.{Source, Label, Record, Desk}
use Rattle.model.specs.References.{labels_of, label_of_source, label_of_record, records_below, candidates}
use Rattle.model.proofs.BoolLemmas.{bytes_same}
use Rattle.records.specs.Recorded.{Recorded}
use Rattle.realise.specs.Holdings.{Holdings, is_at, IsClosedWith}
use Rattle.records.specs.Trees.{source_at, record_at}
use Rattle.outputs.specs.Outputs.{IsRecordOf}
use Rattle.handlers.specs.Sound.{Beside, desk_of}
use Rattle.handlers.proofs.ClosedLemmas.{IsLabelled}
use Rattle.records.proofs.LabelLemmas.{all_in_order}
use Rattle.handlers.specs.Offering.{AreLabels}

-- ---- candidates

-- what holds of the labels of all sources and records of a desk holds of the candidates
all_candidates : (P : Label → Type 0) (d : Desk) (x : Derivation) → All (λ s. P (label_of_source s)) d.sources → All (λ r. P (label_of_record r)) d.records
    → All P (candidates d x)
unfolding candidates
all_candidates P d x sources records =
    all_in_order P (map label_of_source d.sources ++ map label_of_record (records_below d x))
    (All-append P (map label_of_source d.sources) (map label_of_record (records_below d x))
    (All-map P label_of_source d.sources sources)
    (All-map P label_of_record (records_below d x) (All-filter _ (λ r. P (label_of_record r)) d.records records)))

-- ---- on a desk

-- each of a list is among it
each_among : {X : Type 0} (same : X → X → Bool) → ((x : X) → same x x ≡ true) → (xs : List X) → All (λ x. list_any (same x) xs ≡ true) xs
each_among same own [] = All-nil (λ x. list_any (same x) [] ≡ true)
each_among same own (x ∷ xs) =
    All-cons (λ y. list_any (same y) (x ∷ xs) ≡ true) x xs (or_left (same x x) (list_any (same x) xs) (own x))
    (All-weaker (λ y. list_any (same y) xs ≡ true) (λ y. list_any (same y) (x ∷ xs) ≡ true) (λ y h. or_right (same y x) (list_any (same y) xs) h) xs
    (each_among same own xs))

same_at : (r : Recorded) → is_at r.path r.class r ≡ true
same_at r = and_from (bytes_eq r.path r.path) (bytes_eq r.class.path r.class.path) (bytes_same r.path) (bytes_same r.class.path)

-- what an output of a derivation may refer to is on the desk
labels_on : (d : Holdings) (x : Derivation) (labels : List Label) → AreLabels d x labels → All (IsLabelled d) labels
labels_on d x labels are =
    let none : Beside = record { trusted = λ name. false; goals = [] } in
    rw (are none [])
    (all_candidates (IsLabelled d) (desk_of none [] d) x
    (All-map (λ (s : Source). IsLabelled d (label_of_source s)) (source_at []) d.known.sources (each_among (λ p q. bytes_eq q p) bytes_same d.known.sources))
    (All-map (λ (r : Record). IsLabelled d (label_of_record r)) (record_at []) d.records
    (each_among (λ (r q : Recorded). is_at r.path r.class q) same_at d.records)))

-- so the record of an output names what is on the desk
pub output_closed : (d : Holdings) (a : Admission) (labels : List Label) (s : Settled) (r : Recorded) → AreLabels d a.derivation labels
    → IsRecordOf labels a s r → IsClosedWith d r
output_closed d a labels s r are is =
    let own : r.labels ≡ labels_of s.references labels = ap (λ (q : Record). q.labels) is in
    rw own (All-filter (λ l. is_one_of s.references l.path) (IsLabelled d) labels (labels_on d a.derivation labels are))
