-- The lines of a file at rest.
use Rattle.std.proofs.Common.{◌≡◌, ℕ, List, [], ◌∷◌, ◌++◌, refl, ◌∙◌, ap, append_assoc}
use Rattle.journal.specs.Rows.{IsPlain, ArePlain, rows_text, at_rest, with_gates}
use Rattle.model.specs.Lines.{onto_first, lines_of}

line-first : (row rest : List ℕ) → IsPlain row → lines_of (row ++ 10 ∷ rest) ≡ row ∷ lines_of rest
line-first [] rest plain = refl
line-first (b ∷ row) rest plain = rw plain.0 (ap (onto_first b) (line-first row rest plain.1))

pub rest_lines : (rows : List (List ℕ)) → ArePlain rows → lines_of (at_rest rows) ≡ with_gates rows
rest_lines [] plain = refl
rest_lines (row ∷ rows) plain =
    let text : at_rest (row ∷ rows) ≡ 10 ∷ (row ++ (10 ∷ at_rest rows)) =
    ap (λ (l : List ℕ). 10 ∷ l) (append_assoc (row ++ 10 ∷ []) (rows_text rows) (35 ∷ []) ∙ append_assoc row (10 ∷ []) (at_rest rows)) in
    ap lines_of text ∙ ap (λ (ls : List (List ℕ)). [] ∷ ls) (line-first row (at_rest rows) plain.0
    ∙ ap (λ (ls : List (List ℕ)). row ∷ ls) (rest_lines rows plain.1))
