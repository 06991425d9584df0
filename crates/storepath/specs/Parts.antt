-- The parts of a path's text.
use Rattle.std.specs.Prelude.{ℕ, Bool, List, ◌==◌, ◌&&◌, length, take, drop}
use Rattle.std.specs.List.{list_all}
use Rattle.model.specs.Paths.{is_digit_32}

-- whether a text is a hash part: 32 digits of base 32
abbrev pub is_hash_part : List ℕ → Bool
is_hash_part text = length text == 32 && list_all is_digit_32 text

-- the 32 digits behind "/nix/store/"
abbrev pub hash_part_of : List ℕ → List ℕ
hash_part_of text = take 32 (drop 11 text)

-- what stands behind the hash part and its dash
abbrev pub name_of : List ℕ → List ℕ
name_of text = drop 44 text
