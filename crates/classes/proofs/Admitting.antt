-- What a desk answers to a derivation, case by case.
use Rattle.std.proofs.Common.{◌≡◌, ℕ, ◌+◌, ◌<◌, ◌≤◌, ◌⊎◌, ◌&&◌, inl, inr, Bool, true, false, List, [], ◌∷◌, ◌++◌}
use Rattle.std.proofs.Common.{map, refl, ap, sym, subst, ◌∙◌, arith}
use Rattle.std.specs.Prelude.{Contains, if◌then◌else◌, nat_le, Some, None, Option, Ok, Err, All, find, option_map, unwrap_or, is_some, bytes_eq}
use Rattle.std.proofs.lemmas.Bool.Decides.{nat_tests}
use Rattle.std.proofs.lemmas.List.Elements.{All-head, All-tail, All-push, All-get_or}
use Rattle.std.proofs.lemmas.List.{map_push}
use Rattle.std.proofs.lemmas.List.Folds.{list_all-append}
use Rattle.std.proofs.lemmas.Slice.Eq.{bytes_eq-Decides}
use Rattle.sha2.specs.Sha256.{sha256}
use Rattle.hex.specs.Hex.{encode_lower}
use Rattle.model.specs.declared.refusal.Refusal.{Refusal}
use Rattle.model.specs.declared.refusal.Refusal.TheVariants.{MissingInput, RankTooHigh, Memory}
use Rattle.model.specs.Paths.{OutputClass, store_path}
use Rattle.model.specs.Derivations.{Derivation, derivation_text, name_of}
use Rattle.model.specs.DerivationTexts.{derivation_of_text}
use Rattle.model.specs.Classes.{Admission, Known, known_at, mask_of, rank_at, greatest, sorted, derivation_path, class_of, admission_of, admit}
use Rattle.model.specs.Limits.{greatest_rank}
use Rattle.model.proofs.BoolLemmas.{either}
use Rattle.classes.specs.Inputs.{has_inputs}
use Rattle.classes.specs.Admitting.{path_in, mask_in, rank_in, taken_from, IsKnownAs, AreKnownAs, AreInputs, admission_by, has_sources, IsReadFrom, Input}
use Rattle.classes.specs.Admitting.{IsInput, Made, IsMade, made_by, Admits, IsFor, IsNotFor, HasNone, HasAdmitted, HasAdmission}

-- ---- inputs, as a desk knows them

-- what is found at a path has it
found_path : (path : List ℕ) (derivations : List Admission) (a : Admission) → find (λ b. bytes_eq b.path path) derivations ≡ Some a → a.path ≡ path
found_path path [] a h = cc
found_path path (b ∷ derivations) a h = elim (either (bytes_eq b.path path)) [
  | inl t ↦ let same : b ≡ a = (let e : Some b ≡ Some a = rw t at h in cc) in
      ap (λ (x : Admission). x.path) (sym same) ∙ (bytes_eq-Decides b.path path).0 t
  | inr f ↦ found_path path derivations a (rw f at h)
]

pub found_as : (known : Known) (path : List ℕ) (a : Admission) → known_at known path ≡ Some a → (a.path ≡ path) × IsKnownAs known a
found_as known path a h =
    let own = found_path path known.derivations a h in
    (own, ap (λ p. option_map taken_from (known_at known p)) own ∙ ap (option_map taken_from) h)

-- one more is found
pub one_found : (known : Known) (paths : List (List ℕ)) (inputs : List Admission) (path : List ℕ) (a : Admission) → AreInputs known paths inputs
    → known_at known path ≡ Some a → AreInputs known (paths ++ path ∷ []) (inputs ++ a ∷ [])
one_found known paths inputs path a are h =
    let one = found_as known path a h in
    record {
      paths_are = map_push path_in inputs a ∙ ap (λ first. first ++ path_in a ∷ []) are.paths_are ∙ ap (λ p. paths ++ p ∷ []) one.0;
      known_are = All-push (IsKnownAs known) inputs a are.known_are one.1;
    }

-- and stands behind those that were found before
pub next_found : (known : Known) (first paths : List (List ℕ)) (inputs more : List Admission) (path : List ℕ) (a copy : Admission)
    → AreInputs known first inputs
    → has_inputs known first ≡ true → paths ≡ first ++ path ∷ [] → known_at known path ≡ Some a → copy ≡ a → more ≡ inputs ++ copy ∷ []
    → AreInputs known paths more × (has_inputs known paths ≡ true)
next_found known first paths inputs more path a copy are all behind found same pushed =
    let one : AreInputs known (first ++ path ∷ []) (inputs ++ a ∷ []) = one_found known first inputs path a are found in
    let there : is_some (known_at known path) ≡ true = ap is_some found in (
      subst (AreInputs known paths) (sym (pushed ∙ ap (λ x. inputs ++ x ∷ []) same))
          (subst (λ ps. AreInputs known ps (inputs ++ a ∷ [])) (sym behind) one),
      rw behind (list_all-append (λ p. is_some (known_at known p)) first (path ∷ []) ∙ rw (all, there) refl),
    )

-- what a class takes from an input, as it is known
taken : (known : Known) (a : Admission) → IsKnownAs known a
    → (is_some (known_at known a.path) ≡ true) × (mask_of known a.path ≡ mask_in a) × (rank_at known a.path ≡ rank_in a)
taken known a is = found (known_at known a.path) is
  where
    found : (o : Option Admission) → option_map taken_from o ≡ Some (taken_from a)
        → (is_some o ≡ true) × (encode_lower (unwrap_or (option_map (λ x. x.masked) o) []) ≡ mask_in a)
        × (unwrap_or (option_map (λ x. x.class.rank) o) 0 ≡ rank_in a)
    found None h = cc
    found (Some b) h =
        let same : taken_from b ≡ taken_from a = cc in
        (refl, ap encode_lower (ap (λ p. p.0) same), ap (λ p. p.1) same)

inputs_known : (known : Known) (inputs : List Admission) → AreKnownAs known inputs → has_inputs known (map path_in inputs) ≡ true
inputs_known known [] are = refl
inputs_known known (a ∷ inputs) are =
    rw ((taken known a (All-head (IsKnownAs known) a inputs are)).0) (inputs_known known inputs (All-tail (IsKnownAs known) a inputs are))

input_masks : (known : Known) (inputs : List Admission) → AreKnownAs known inputs → map (mask_of known) (map path_in inputs) ≡ map mask_in inputs
input_masks known [] are = refl
input_masks known (a ∷ inputs) are = λ i.
    (taken known a (All-head (IsKnownAs known) a inputs are)).1 i ∷ input_masks known inputs (All-tail (IsKnownAs known) a inputs are) i

input_ranks : (known : Known) (inputs : List Admission) → AreKnownAs known inputs → map (rank_at known) (map path_in inputs) ≡ map rank_in inputs
input_ranks known [] are = refl
input_ranks known (a ∷ inputs) are = λ i.
    (taken known a (All-head (IsKnownAs known) a inputs are)).2 i ∷ input_ranks known inputs (All-tail (IsKnownAs known) a inputs are) i

pub ranks_are : (known : Known) (paths : List (List ℕ)) (inputs : List Admission) → AreInputs known paths inputs
    → map (rank_at known) paths ≡ map rank_in inputs
ranks_are known paths inputs are = ap (map (rank_at known)) (sym are.paths_are) ∙ input_ranks known inputs are.known_are

-- what is known of a derivation hangs on its inputs alone
pub admission_is : (known : Known) (d : Derivation) (inputs : List Admission) → AreInputs known d.inputs inputs
    → admission_of known d ≡ admission_by inputs d
admission_is known d inputs are =
    let masks : map (mask_of known) d.inputs ≡ map mask_in inputs = ap (map (mask_of known)) (sym are.paths_are) ∙ input_masks known inputs are.known_are in
    made d masks (ranks_are known d.inputs inputs are)
  where
    by : Derivation → List (List ℕ) → List ℕ → Admission
    by d masks ranks =
        let masked = sha256 (derivation_text (record d { inputs = sorted masks })) in
        record {
          derivation = d;
          path = derivation_path d;
          class = record { path = store_path OutputClass masked (name_of d); rank = 1 + greatest ranks };
          masked = masked;
        }

    made : (d : Derivation) → map (mask_of known) d.inputs ≡ map mask_in inputs → map (rank_at known) d.inputs ≡ map rank_in inputs
        → admission_of known d ≡ admission_by inputs d
    made d masks ranks = λ i. by d (masks i) (ranks i)

pub all_known : (known : Known) (paths : List (List ℕ)) (inputs : List Admission) → AreInputs known paths inputs → has_inputs known paths ≡ true
all_known known paths inputs are = ap (has_inputs known) (sym are.paths_are) ∙ inputs_known known inputs are.known_are

-- ---- answers

pub inputs_missing : (known : Known) (d : Derivation) → has_inputs known d.inputs ≡ false → admit known d ≡ Err MissingInput
unfolding admit
inputs_missing known d h = rw h refl

pub sources_missing : (known : Known) (d : Derivation) → has_inputs known d.inputs ≡ true → has_sources known d.sources ≡ false
    → admit known d ≡ Err MissingInput
unfolding admit
sources_missing known d h k = rw (h, k) refl

pub too_high : (known : Known) (d : Derivation) → has_inputs known d.inputs ≡ true → has_sources known d.sources ≡ true
    → 64 ≤ greatest (map (rank_at known) d.inputs) → admit known d ≡ Err RankTooHigh
unfolding admit
too_high known d h k m =
    let over : nat_le (1 + greatest (map (rank_at known) d.inputs)) 64 ≡ false = grind (arith, nat_tests) in
    rw (h, k, over) refl

pub is_admitted : (known : Known) (d : Derivation) → has_inputs known d.inputs ≡ true → has_sources known d.sources ≡ true
    → greatest (map (rank_at known) d.inputs) < 64 → admit known d ≡ Ok (admission_of known d)
unfolding admit
is_admitted known d h k m =
    let within : nat_le (1 + greatest (map (rank_at known) d.inputs)) 64 ≡ true = grind (arith, nat_tests) in
    rw (h, k, within) refl

-- what is admitted has sources that are known
given_by : (sources rank : Bool) (x y : Admission)
    → (if (true && sources) then (if rank then Ok x else Err RankTooHigh) else Err MissingInput) ≡ Ok y → sources ≡ true
given_by true rank x y h = refl
given_by false rank x y h = cc

pub sources_known : (known : Known) (d : Derivation) (a : Admission) → has_inputs known d.inputs ≡ true → admit known d ≡ Ok a
    → has_sources known d.sources ≡ true
unfolding admit
sources_known known d a inputs h =
    given_by (has_sources known d.sources) (nat_le (class_of known d).rank greatest_rank) (admission_of known d) a (rw inputs at h)

-- a refusal of what its inputs are is one of the derivation
pub refused_inputs : (known : Known) (d : Derivation) (e why : Refusal) → why ≡ e
    → (e ≡ Memory) ⊎ ((e ≡ MissingInput) × (has_inputs known d.inputs ≡ false)) → (why ≡ Memory) ⊎ (admit known d ≡ Err why)
refused_inputs known d e why same (inl h) = inl (same ∙ h)
refused_inputs known d e why same (inr h) = inr (inputs_missing known d h.1 ∙ ap Err (sym (same ∙ h.0)))

-- with the inputs that it was admitted with, and its sources, a derivation is admitted as it was
pub admitted_again : (known : Known) (one : Made) → IsMade one.text one.inputs one.admission → Admits known one
    → admit known one.admission.derivation ≡ Ok one.admission
admitted_again known one made admits =
    let d = one.admission.derivation in
    let own : AreInputs known d.inputs one.inputs = record { paths_are = made.of.paths; known_are = admits.inputs } in
    let most = made.most in
    let rank : one.admission.class.rank ≡ 1 + greatest (map rank_in one.inputs) = ap (λ (x : Admission). x.class.rank) made.is in
    let ranks : greatest (map (rank_at known) d.inputs) ≡ greatest (map rank_in one.inputs) = ap greatest (ranks_are known d.inputs one.inputs own) in
    is_admitted known d (all_known known d.inputs one.inputs own) admits.sources (omega (arith, rank, ranks, most))
    ∙ ap Ok (admission_is known d one.inputs own ∙ sym made.is)

-- what is found for a text
pub found_read : (one : Made) (text : List ℕ) (a : Admission) → IsMade one.text one.inputs one.admission → one.text ≡ text
    → a ≡ one.admission → IsReadFrom text a.derivation
found_read one text a made same is =
    subst (λ (x : Admission). IsReadFrom text x.derivation) (sym is) (subst (λ t. IsReadFrom t one.admission.derivation) same made.of.read)

pub found_admits : (known : Known) (one : Made) (a : Admission) → IsMade one.text one.inputs one.admission → Admits known one
    → a ≡ one.admission → admit known a.derivation ≡ Ok a
found_admits known one a made admits is = subst (λ (x : Admission). admit known x.derivation ≡ Ok x) (sym is) (admitted_again known one made admits)

-- nothing is found where none of these is for the text
pub none_for : (known : Known) (text : List ℕ) (all : List Made) → All (IsNotFor known text) all → HasAdmitted all known text → ⊥
none_for known text all none has =
    subst (IsNotFor known text) has.among.2 (All-get_or (IsNotFor known text) all has.among.0 has.one has.among.1 none) has.is

-- what a derivation is admitted by on a desk is so for its text
pub input_is_for : (known : Known) (text : List ℕ) (d : Derivation) (input : Input) → IsInput known text d input → IsFor known text (made_by input)
input_is_for known text d input is = record {
  text_is = is.text_is;
  admits = record {
    inputs = is.known_are;
    sources = subst (λ (x : Derivation). has_sources known x.sources ≡ true) (sym is.derivation_is) is.sources_are;
  };
}

-- where it is made, the desk finds it
pub made_is_found : (known : Known) (text : List ℕ) (all : List Made) (input : Input) → IsFor known text (made_by input)
    → Contains all (made_by input) → HasAdmission known text all
made_is_found known text all input is among d a within read admits = record { one = made_by input; among = among; is = is }

-- a desk finds none where there is none, or where it refuses it
pub none_is_found : (known : Known) (text : List ℕ) (all : List Made) → HasNone text → HasAdmission known text all
none_is_found known text all none d a within read admits = (let wrong = sym (none within) ∙ read in cc)

pub refused_is_found : (known : Known) (text : List ℕ) (all : List Made) (d : Derivation) (e : Refusal) → derivation_of_text text ≡ Some d
    → admit known d ≡ Err e → HasAdmission known text all
refused_is_found known text all d e is refused other a within read admits =
    let same : other ≡ d = (let both = sym read ∙ is in cc) in
    (let wrong = sym refused ∙ ap (admit known) (sym same) ∙ admits in cc)
