-- The codes by which proofs tell values with trees apart.
use Rattle.std.specs.Prelude.{◌≡◌, ℕ, ◌⊎◌, List, Option, refl}
use Rattle.std.proofs.Common.{inl, inr}
use Rattle.std.specs.Coded.{Coded, code_by, coded×, coded⊎, coded_ℕ, coded_list, coded_option}
use Rattle.model.specs.Archives.{Tree}
use Rattle.model.specs.TreeCode.{tree_code}
use Rattle.model.specs.Classes.{Class}
use Rattle.model.specs.Worlds.{Source, Label, Record, Entry, OfSource, OfRecord, Resolved}
use Rattle.model.specs.Choices.{Plan}

abbrev pub class_code : Coded Class
class_code = code_by (List ℕ × ℕ) (coded× (coded_list coded_ℕ) coded_ℕ) (λ c. (c.path, c.rank)) (λ p. record { path = p.0; rank = p.1 }) (λ _. refl)

abbrev pub label_code : Coded Label
label_code = code_by (List ℕ × Option Class) (coded× (coded_list coded_ℕ) (coded_option class_code)) (λ l. (l.path, l.class))
    (λ p. record { path = p.0; class = p.1 }) (λ _. refl)

abbrev pub source_code : Coded Source
source_code = code_by (List ℕ × Tree) (coded× (coded_list coded_ℕ) tree_code) (λ s. (s.path, s.tree)) (λ p. record { path = p.0; tree = p.1 }) (λ _. refl)

abbrev pub record_code : Coded Record
record_code =
    code_by ((Class × List ℕ) × (Tree × List Label)) (coded× (coded× class_code (coded_list coded_ℕ)) (coded× tree_code (coded_list label_code)))
    (λ r. ((r.class, r.path), (r.tree, r.labels))) (λ p. record { class = p.0.0; path = p.0.1; tree = p.1.0; labels = p.1.1 }) (λ _. refl)

abbrev pub entry_code : Coded Entry
entry_code = code_by (Record ⊎ Source) (coded⊎ record_code source_code) parts_of made_of back
  where
    parts_of : Entry → Record ⊎ Source
    parts_of (OfRecord r) = inl r
    parts_of (OfSource s) = inr s

    made_of : Record ⊎ Source → Entry
    made_of (inl r) = OfRecord r
    made_of (inr s) = OfSource s

    back : (e : Entry) → made_of (parts_of e) ≡ e
    back (OfRecord r) = refl
    back (OfSource s) = refl

abbrev pub resolved_code : Coded Resolved
resolved_code =
    code_by (List Entry × (List ℕ × List ℕ)) (coded× (coded_list entry_code) (coded× (coded_list coded_ℕ) (coded_list coded_ℕ)))
    (λ r. (r.closure, (r.text, r.scratch))) (λ p. record { closure = p.0; text = p.1.0; scratch = p.1.1 }) (λ _. refl)

abbrev pub plan_code : Coded Plan
plan_code = code_by (List Record × List Source) (coded× (coded_list record_code) (coded_list source_code)) (λ v. (v.records, v.sources))
    (λ p. record { records = p.0; sources = p.1 }) (λ _. refl)
