-- What a crash leaves while the end of a file is repaired.
use Rattle.std.proofs.Common.{◌≡◌, ℕ, zero, suc, ◌+◌, ◌-◌, ◌≤◌, List, [], ◌∷◌, ◌++◌, length, take, drop, sym, ◌∙◌, ap, arith, length-append, length-drop, take-append-drop}
use Rattle.std.proofs.lemmas.List.{append-nil, take_at, take_all, drop_all, length-take-le}
use Rattle.journal.specs.LogFile.{Holds, Torn, Cut}
use Rattle.journal.specs.Rows.{rows_in, rows_text, at_rest, ArePlain}
use Rattle.journal.proofs.RowLemmas.{parts, rows_in-text, front_nothing, short_nothing}

take_past : (xs ys : List ℕ) (m n : ℕ) → m ≡ length xs + n → take m (xs ++ ys) ≡ xs ++ take n ys
take_past [] ys m n is = let same : m ≡ n = omega arith in ap (λ (k : ℕ). take k ys) same
take_past (x ∷ xs) ys zero n is = absurd (omega arith)
take_past (x ∷ xs) ys (suc m) n is = ap (λ (l : List ℕ). x ∷ l) (take_past xs ys m n (omega arith))

-- where all rows were read
pub all_read : (file : List ℕ) (at : ℕ) → take at file ≡ rows_text (rows_in (take at file)) → rows_in (drop at file) ≡ []
    → rows_in file ≡ rows_in (take at file)
all_read file at front none =
    let rows = rows_in (take at file) in
    ap rows_in (sym (take-append-drop at file)) ∙ ap (λ (l : List ℕ). rows_in (l ++ drop at file)) front
    ∙ rows_in-text rows (drop at file) (parts (take at file)).plain
    ∙ ap (λ (rs : List (List ℕ)). rows ++ rs) none ∙ append-nil rows

-- there they end
pub end_is : (file : List ℕ) (at : ℕ) → take at file ≡ rows_text (rows_in (take at file)) → at ≤ length file → rows_in (drop at file) ≡ []
    → at ≡ length (rows_text (rows_in file))
end_is file at front within none =
    omega (arith, length-take-le at file within, ap length front, ap (λ (rs : List (List ℕ)). length (rows_text rs)) (all_read file at front none))

module _ (file : List ℕ) (at : ℕ) (ends : at ≡ length (rows_text (rows_in file))) where
  abbrev pub rows : List (List ℕ)
  rows = rows_in file

  plain : ArePlain rows
  plain = (parts file).plain

  pub no_longer : at ≤ length file
  no_longer = omega (arith, ends, ap length (parts file).split, length-append (rows_text rows) (parts file).end)

  -- any cut keeps the rows
  pub cut_keeps : (c : List ℕ) → Cut at file c → rows_in c ≡ rows
  cut_keeps c cut =
      let whole : c ≡ take (length c) (rows_text rows ++ (parts file).end) = sym cut.front ∙ ap (λ (l : List ℕ). take (length c) l) (parts file).split in
      let n = length c - length (rows_text rows) in
      let cut_end : c ≡ rows_text rows ++ take n (parts file).end = whole
      ∙ take_past (rows_text rows) (parts file).end (length c) n (omega (arith, cut.no_shorter, ends)) in
      ap rows_in cut_end ∙ rows_in-text rows (take n (parts file).end) plain
      ∙ ap (λ (rs : List (List ℕ)). rows ++ rs) (front_nothing n (parts file).end (parts file).nothing) ∙ append-nil rows

  pub cut_done : take at file ≡ rows_text rows
  cut_done = ap (λ (l : List ℕ). take at l) (parts file).split ∙ take_at (rows_text rows) (parts file).end at (sym ends)

  -- one byte behind the rows is no row
  pub torn_end : (c : List ℕ) → Torn at 1 (rows_text rows) c → rows_in c ≡ rows
  torn_end c torn =
      let front : take at c ≡ rows_text rows = torn.before ∙ take_all at (rows_text rows) (omega (arith, ends)) in
      let whole : c ≡ rows_text rows ++ drop at c = sym (take-append-drop at c) ∙ ap (λ (l : List ℕ). l ++ drop at c) front in
      ap rows_in whole ∙ rows_in-text rows (drop at c) plain
      ∙ ap (λ (rs : List (List ℕ)). rows ++ rs) (short_nothing (drop at c) (omega (arith, length-drop at c, ends, torn.no_longer))) ∙ append-nil rows

  pub written_end : (c : List ℕ) → Holds (rows_text rows) at (35 ∷ []) c → c ≡ at_rest rows
  written_end c holds =
      holds
      ∙ ap (λ (l : List ℕ). l ++ (35 ∷ []) ++ drop (at + 1) (rows_text rows)) (take_all at (rows_text rows) (omega (arith, ends)))
      ∙ ap (λ (l : List ℕ). rows_text rows ++ (35 ∷ []) ++ l) (drop_all (at + 1) (rows_text rows) (omega (arith, ends)))
      ∙ append-nil (at_rest rows)
