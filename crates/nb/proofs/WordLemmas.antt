-- Words with one blank between two.
use Rattle.std.proofs.Common.{◌≡◌, ◌-◌, List, [], ◌∷◌, ◌++◌, length, take, drop, map, string_bytes, codes, refl, ap, append-nil, arith, take_all, ◌∙◌}
use Rattle.std.specs.Prelude.{String}
use Rattle.std.specs.Global.{Global}
use Rattle.std.specs.List.{join_by, join_with_byte}
use Rattle.nb.specs.Outcomes.{behind_first}

pub words_joined : (words : List (String Global)) → join_by string_bytes (codes " ") words ≡ join_with_byte 32 (map string_bytes words)
words_joined [] = refl
words_joined (w ∷ []) = append-nil (string_bytes w)
words_joined (w ∷ v ∷ words) = ap (λ s. string_bytes w ++ (32 ∷ s)) (words_joined (v ∷ words))

-- all words but the first
pub words_behind : (words : List (String Global)) → map string_bytes (take (length words - 1) (drop 1 words)) ≡ behind_first (map string_bytes words)
words_behind [] = refl
words_behind (w ∷ words) =
    let count : length (w ∷ words) - 1 ≡ length words = omega arith in
    let all : take (length (w ∷ words) - 1) words ≡ words = ap (λ n. take n words) count ∙ take_all (length words) words (omega arith) in
    ap (map string_bytes) all
