-- What a derivation is admitted by.
use Rattle.std.specs.Prelude.{◌≡◌, ℕ, ◌+◌, min, nat_le, ◌≤◌, Bool, true, List, length, map, All, Contains, Option, Some, None, Ok, option_map}
use Rattle.std.specs.List.{list_all}
use Rattle.hex.specs.Hex.{encode_lower}
use Rattle.sha2.specs.Sha256.{sha256}
use Rattle.model.specs.Paths.{OutputClass, store_path}
use Rattle.model.specs.Derivations.{Derivation, derivation_text, name_of}
use Rattle.model.specs.Limits.{most_derivation_bytes}
use Rattle.model.specs.DerivationTexts.{derivation_of_text}
use Rattle.model.specs.Classes.{Admission, Known, known_at, is_one_of, greatest, sorted, derivation_path, admit}

abbrev pub path_in : Admission → List ℕ
path_in a = a.path

-- the digest of the masked text, in base 16
abbrev pub mask_in : Admission → List ℕ
mask_in a = encode_lower a.masked

abbrev pub rank_in : Admission → ℕ
rank_in a = a.class.rank

-- the text of a derivation with its inputs' masks in the place of their paths, sorted
abbrev pub text_with_masks : List Admission → Derivation → List ℕ
text_with_masks inputs d = derivation_text (record d { inputs = sorted (map mask_in inputs) })

-- what is known of a derivation that has these inputs
abbrev pub admission_by : List Admission → Derivation → Admission
admission_by inputs d = record {
  derivation = d;
  path = derivation_path d;
  class = record { path = store_path OutputClass (sha256 (text_with_masks inputs d)) (name_of d); rank = 1 + greatest (map rank_in inputs) };
  masked = sha256 (text_with_masks inputs d);
}

-- what the class of a derivation takes from an input
abbrev pub taken_from : Admission → List ℕ × ℕ
taken_from a = (a.masked, a.class.rank)

-- a desk knows the derivation of an input, and of it the same that a class takes
abbrev pub IsKnownAs : Known → Admission → Type 0
IsKnownAs known a = option_map taken_from (known_at known a.path) ≡ Some (taken_from a)

abbrev pub AreKnownAs : Known → List Admission → Type 0
AreKnownAs known inputs = All (IsKnownAs known) inputs

-- those are the derivations of these paths, as a desk knows them
pub record AreInputs (known : Known) (paths : List (List ℕ)) (inputs : List Admission) : Type 0 where
  pub paths_are : map path_in inputs ≡ paths
  pub known_are : AreKnownAs known inputs

-- a derivation has this text, and no other derivation has it
pub record IsReadFrom (text : List ℕ) (d : Derivation) : Type 0 where
  pub read : derivation_of_text text ≡ Some d
  pub text_is : derivation_text d ≡ text

abbrev pub has_sources : Known → List (List ℕ) → Bool
has_sources known sources = list_all (is_one_of known.sources) sources

-- ---- what is kept

-- what a derivation is admitted by
pub record Input : Type 0 where
  pub text : List ℕ
  pub derivation : Derivation
  pub inputs : List Admission

pub record HasInputs (text : List ℕ) (d : Derivation) (inputs : List Admission) : Type 0 where
  pub read : IsReadFrom text d
  pub paths : map path_in inputs ≡ d.inputs

-- a derivation that was admitted, with its text, and its inputs as they were known
pub record Made : Type 0 where
  pub text : List ℕ
  pub inputs : List Admission
  pub admission : Admission

pub record IsMade (text : List ℕ) (inputs : List Admission) (a : Admission) : Type 0 where
  pub of : HasInputs text a.derivation inputs
  pub is : a ≡ admission_by inputs a.derivation
  pub most : a.class.rank ≤ 64

abbrev pub made_by : Input → Made
made_by input = record { text = input.text; inputs = input.inputs; admission = admission_by input.inputs input.derivation }

-- that is what a derivation with this text is admitted by on a desk
pub record IsInput (known : Known) (text : List ℕ) (d : Derivation) (input : Input) : Type 0 where
  pub text_is : input.text ≡ text
  pub derivation_is : input.derivation ≡ d
  pub known_are : AreKnownAs known input.inputs
  pub sources_are : has_sources known d.sources ≡ true
  pub admits : admit known d ≡ Ok (admission_by input.inputs d)

-- a desk knows the sources of a derivation, and its inputs as they were known
pub record Admits (known : Known) (one : Made) : Type 0 where
  pub inputs : AreKnownAs known one.inputs
  pub sources : has_sources known one.admission.derivation.sources ≡ true

-- and the derivation has this text
pub record IsFor (known : Known) (text : List ℕ) (one : Made) : Type 0 where
  pub text_is : one.text ≡ text
  pub admits : Admits known one

abbrev pub IsNotFor : Known → List ℕ → Made → Type 0
IsNotFor known text one = IsFor known text one → ⊥

-- one of these is such a derivation
pub record HasAdmitted (all : List Made) (known : Known) (text : List ℕ) : Type 0 where
  pub one : Made
  pub among : Contains all one
  pub is : IsFor known text one

-- what was made of what a derivation is admitted by, if it was needed
abbrev pub HasMade : List Made → Option Input → Type 0
HasMade all None = Unit {0}
HasMade all (Some input) = Contains all (made_by input)

-- where a text is not too long, and a desk admits its derivation, these have it
abbrev pub HasAdmission : Known → List ℕ → List Made → Type 0
HasAdmission known text all = (d : Derivation) (a : Admission) → nat_le (length text) most_derivation_bytes ≡ true → derivation_of_text text ≡ Some d → admit known d ≡ Ok a
    → HasAdmitted all known text

-- a text is too long, or no derivation has it
abbrev pub HasNone : List ℕ → Type 0
HasNone text = nat_le (length text) most_derivation_bytes ≡ true → derivation_of_text text ≡ None

-- one more is counted; at the greatest number the count stays
abbrev pub one_more : ℕ → ℕ
one_more n = min (n + 1) 18446744073709551615
