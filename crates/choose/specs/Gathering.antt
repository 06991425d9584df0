-- What is gathered for a plan, one class and one source after another.
use Rattle.std.specs.Prelude.{◌≡◌, ℕ, ◌+◌, ◌<◌, ◌⊎◌, Bool, if◌then◌else◌, List, [], ◌∷◌, ◌++◌, length, map, bytes_eq, Option, Some, None}
use Rattle.std.specs.List.{list_any}
use Rattle.model.specs.Limits.{most_entries}
use Rattle.model.specs.Worlds.{Source, Label, Record}
use Rattle.model.specs.Classes.{Class}
use Rattle.model.specs.Choices.{is_of, rank_before, source_before, needed_records, classes_below, sources_below, Plan}
use Rattle.laws.proofs.MemberLemmas.{In}
use Rattle.records.specs.Plans.{AreApart}
use Rattle.choose.specs.Visible.{Visible, source_in}

abbrev pub has_class : List ℕ → Plan → Bool
has_class class p = list_any (is_of class) p.records

abbrev pub with_chosen : Option Record → Plan → Plan
with_chosen None p = p
with_chosen (Some r) p = record p { records = p.records ++ r ∷ [] }

-- with what is chosen for a class, unless it is there
abbrev pub with_class : (List ℕ → Option Record) → List ℕ → Plan → Plan
with_class choice class p = if has_class class p then p else with_chosen (choice class) p

abbrev pub has_source : List ℕ → Plan → Bool
has_source path p = list_any (λ s. bytes_eq s.path path) p.sources

abbrev pub with_found : Option Source → Plan → Plan
with_found None p = p
with_found (Some s) p = record p { sources = p.sources ++ s ∷ [] }

-- with the source at a path, unless it is there
abbrev pub with_source : Visible → List ℕ → Plan → Plan
with_source view path p = if has_source path p then p else with_found (source_in view path) p

abbrev pub with_named : Visible → (List ℕ → Option Record) → List ℕ → Option Class → Plan → Plan
with_named view choice path None p = with_source view path p
with_named view choice path (Some c) p = with_class choice c.path p

-- with what a label names
abbrev pub with_label : Visible → (List ℕ → Option Record) → Label → Plan → Plan
with_label view choice l p = with_named view choice l.path l.class p

-- with what labels name
unfoldable pub with_labels : Visible → (List ℕ → Option Record) → List Label → Plan → Plan
with_labels view choice [] p = p
with_labels view choice (l ∷ ls) p = with_labels view choice ls (with_label view choice l p)

-- the tables by which what is there is found
pub record AreKeys (classes paths : List (List ℕ)) (records : List Record) (sources : List Source) : Type 0 where
  pub of_records : classes ≡ map (λ r. r.class.path) records
  pub of_sources : paths ≡ map (λ s. s.path) sources

-- ---- what is kept while it is gathered

-- what is chosen for a class is one of these records, and is of the class
abbrev pub IsChoiceAmong : List Record → (List ℕ → Option Record) → Type 0
IsChoiceAmong records choice = (c : List ℕ) (r : Record) → choice c ≡ Some r → In r records × (r.class.path ≡ c)

-- what has been found for a plan, when the classes A and the sources P have been looked at, and what is below the records D
pub record IsGathered (view : Visible) (choice : List ℕ → Option Record) (classes sources A P : List (List ℕ)) (D : List Record) (p : Plan) : Type 0 where
  pub chosen : (r : Record) → In r p.records → choice r.class.path ≡ Some r
  pub reach : (r : Record) → In r p.records → In r (needed_records view.records choice classes)
  pub apart : AreApart rank_before p.records
  pub asked : (c : List ℕ) (s : Record) → In c A → choice c ≡ Some s → In s p.records
  pub below : (r s : Record) (c : List ℕ) → In r D → In c (classes_below r) → choice c ≡ Some s → In s p.records
  pub found : (s : Source) → In s p.sources → source_in view s.path ≡ Some s
  pub needed : (s : Source) → In s p.sources → In s.path sources ⊎ ((r : Record) × In r p.records × In s.path (sources_below r))
  pub sources_apart : AreApart source_before p.sources
  pub sources_asked : (q : List ℕ) (s : Source) → In q P → source_in view q ≡ Some s → In s p.sources
  pub sources_below : (r : Record) (q : List ℕ) (s : Source) → In r D → In q (sources_below r) → source_in view q ≡ Some s → In s p.sources

-- the classes have been looked at, and nothing else
abbrev pub HasClasses : Visible → (List ℕ → Option Record) → List (List ℕ) → Plan → Type 0
HasClasses view choice classes p = (sources : List (List ℕ)) → IsGathered view choice classes sources classes [] [] p

-- more was found than a closure may have
pub record IsTooMuch (view : Visible) (choice : List ℕ → Option Record) (classes sources : List (List ℕ)) : Type 0 where
  pub asked_classes : List (List ℕ)
  pub asked_sources : List (List ℕ)
  pub below : List Record
  pub plan : Plan
  pub gathered : IsGathered view choice classes sources asked_classes asked_sources below plan
  pub many : most_entries < length plan.records + length plan.sources
