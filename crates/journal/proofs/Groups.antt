-- Groups that are added one after another.
use Rattle.std.proofs.Common.{◌≡◌, inl, inr, ℕ, ◌+◌, ◌<◌, List, [], ◌∷◌, ◌++◌, length, take, get_or, sym, ◌∙◌, ap, arith}
use Rattle.std.proofs.lemmas.List.{take_more, flat_map_more}
use Rattle.journal.specs.Rows.{rows_in, IsBeforeOrAfter}
use Rattle.journal.specs.RowFiles.{rows_of, HasFirst}
use Rattle.journal.specs.declared.rows.Rows.{Rows}

module _ (first : List (List ℕ)) (groups : List Rows) (i : ℕ) (group : Rows) (rows : List (List ℕ)) (lt : i < length groups)
    (is : group ≡ get_or groups i group)
    (so_far : rows ≡ first ++ rows_of (take i groups)) where
  -- the rows of one more
  pub rows_next : rows ++ rows_in group.bytes.items ≡ first ++ rows_of (take (i + 1) groups)
  rows_next =
      ap (λ (rs : List (List ℕ)). rs ++ rows_in group.bytes.items) so_far
      ∙ flat_map_more (λ (x : Rows). rows_in x.bytes.items) first (take i groups) group
      ∙ ap (λ (x : Rows). first ++ rows_of (take i groups ++ x ∷ [])) is
      ∙ ap (λ (gs : List Rows). first ++ rows_of gs) (sym (take_more groups i group lt))

  pub first_more : (file : List ℕ) → IsBeforeOrAfter rows (rows_in group.bytes.items) file → HasFirst first groups file
  first_more file (inl before) = (i, omega (arith, lt), before ∙ so_far)
  first_more file (inr after) = (i + 1, omega (arith, lt), after ∙ rows_next)
