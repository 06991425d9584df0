-- A derivation passes the test exactly where it is one of the store.
use Rattle.std.proofs.Common.{◌≡◌, ℕ, Bool, true, false, ◌&&◌, List, refl}
use Rattle.std.specs.Prelude.{All, slice_index_or}
use Rattle.std.specs.List.{list_all}
use Rattle.std.proofs.lemmas.List.Sums.{AllPass-from_list_all, list_all-from_AllPass}
use Rattle.storepath.proofs.PathTests.{path_passes, path_from_test}
use Rattle.model.specs.Paths.{IsPath, is_path}
use Rattle.model.specs.Derivations.{Derivation, IsDerivation, is_derivation, has_texts, has_sound_paths, has_sound_builder, has_sound_environment}
use Rattle.model.proofs.BoolLemmas.{both_parts}

paths_pass : (paths : List (List ℕ)) → All IsPath paths → list_all is_path paths ≡ true
paths_pass paths h = list_all-from_AllPass is_path paths (λ k d lt. path_passes (slice_index_or paths k d) (h k d lt))

paths_from_test : (paths : List (List ℕ)) → list_all is_path paths ≡ true → All IsPath paths
paths_from_test paths h = λ k d lt. path_from_test (slice_index_or paths k d) (AllPass-from_list_all is_path paths h k d lt)

pub derivation_passes : (d : Derivation) → IsDerivation d → is_derivation d ≡ true
unfolding is_derivation
derivation_passes d h = rw (paths_pass d.inputs h.inputs, paths_pass d.sources h.sources, h.texts, h.paths, h.builder, h.environment) refl

pub derivation_from_test : (d : Derivation) → is_derivation d ≡ true → IsDerivation d
unfolding is_derivation
derivation_from_test d h =
    let inputs = both_parts (list_all is_path d.inputs) (list_all is_path d.sources && (has_texts d && (has_sound_paths d && (has_sound_builder d && has_sound_environment d.environment)))) h in
    let sources = both_parts (list_all is_path d.sources) (has_texts d && (has_sound_paths d && (has_sound_builder d && has_sound_environment d.environment))) inputs.1 in
    let texts = both_parts (has_texts d) (has_sound_paths d && (has_sound_builder d && has_sound_environment d.environment)) sources.1 in
    let paths = both_parts (has_sound_paths d) (has_sound_builder d && has_sound_environment d.environment) texts.1 in
    let builder = both_parts (has_sound_builder d) (has_sound_environment d.environment) paths.1 in
    record {
      inputs = paths_from_test d.inputs inputs.0;
      sources = paths_from_test d.sources sources.0;
      texts = texts.0;
      paths = paths.0;
      builder = builder.0;
      environment = builder.1;
    }

-- what is none of the store fails
pub fails : (d : Derivation) (test : Bool) → is_derivation d ≡ test → (IsDerivation d → ⊥) → false ≡ test
fails d true e none = absurd (none (derivation_from_test d e))
fails d false e none = refl
