-- What is printed for a line, where a part of it lies elsewhere.
use Rattle.std.specs.Prelude.{ℕ, List, [], ◌∷◌, ◌++◌, Option, None, Some}

-- a text, and what comes behind it, before a newline, if anything does
abbrev pub text_with : List ℕ → Option (List ℕ) → List ℕ
text_with text None = text
text_with text (Some rest) = text ++ rest ++ 10 ∷ []
