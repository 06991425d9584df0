-- The parts of a derivation's text.
use Rattle.std.specs.Prelude.{ℕ, List, [], ◌++◌, map, codes}
use Rattle.model.specs.Derivations.{Derivation, quoted, listed, list_text, variable_text}

-- a string between two tags
abbrev pub between : List ℕ → List ℕ → List ℕ → List ℕ
between opening closing text = opening ++ quoted text ++ closing

-- strings, each between two tags, with commas between them, and a closing bracket
abbrev pub members : List ℕ → List ℕ → List (List ℕ) → List ℕ
members opening closing texts = listed [] (map (between opening closing) texts)

-- what stands behind the inputs
abbrev pub rest_text : Derivation → List ℕ
rest_text d =
    codes "," ++ list_text (map quoted d.sources) ++ codes ","
    ++ quoted d.platform ++ codes ","
    ++ quoted d.builder ++ codes ","
    ++ list_text (map quoted d.arguments) ++ codes ","
    ++ list_text (map variable_text d.environment) ++ codes ")"
