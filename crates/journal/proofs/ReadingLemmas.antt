-- Rows that are read, one after another.
use Rattle.std.proofs.Common.{◌≡◌, ◌≤◌, ◌<◌, ℕ, ◌+◌, Bool, true, false, eqb, List, [], ◌∷◌, ◌++◌, length, take, drop, Some, None, refl, sym, ◌∙◌, ap, arith, append_assoc, length-append, take-append-drop}
use Rattle.std.proofs.lemmas.List.{append-nil, take_at, length-take-le}
use Rattle.std.proofs.lemmas.List.Concat.{flat_map-append}
use Rattle.model.specs.Lines.{cut_at}
use Rattle.journal.specs.Rows.{IsPlain, rows_in, row_text, rows_text}
use Rattle.journal.proofs.RowLemmas.{parts, cut_parts, behind-none, row-first, rows_in-text, plain-append, shut}

shut_by : (b : ℕ) (bytes : List ℕ) (t : Bool) → eqb b 10 ≡ t → t ≡ false → rows_in (b ∷ bytes) ≡ []
shut_by b bytes true is not_open = absurd (cc not_open)
shut_by b bytes false is not_open = shut b bytes is

pub no_row-none : (rest : List ℕ) → cut_at 10 rest ≡ None → rows_in rest ≡ []
no_row-none [] none = refl
no_row-none (b ∷ rest) none = by (eqb b 10) refl
  where
    by : (t : Bool) → eqb b 10 ≡ t → rows_in (b ∷ rest) ≡ []
    by true is = let gives = rw is at none in absurd (cc gives)
    by false is = shut b rest is

-- a gate that is not open
pub no_row-shut : (rest gate r : List ℕ) → cut_at 10 rest ≡ Some (gate, r) → 0 < length gate → rows_in rest ≡ []
no_row-shut rest [] r cut some = absurd (omega (arith, some))
no_row-shut rest (b ∷ gate) r cut some =
    let found = cut_parts rest (b ∷ gate, r) cut in
    ap rows_in found.split ∙ shut b (gate ++ 10 ∷ r) found.plain.0

open_gate : (rest gate r : List ℕ) → cut_at 10 rest ≡ Some (gate, r) → length gate ≡ 0 → rest ≡ 10 ∷ r
open_gate rest [] r cut none = (cut_parts rest ([], r) cut).split
open_gate rest (b ∷ gate) r cut none = absurd (omega (arith, none))

-- a row that is not whole
pub no_row-begun : (rest gate r : List ℕ) → cut_at 10 rest ≡ Some (gate, r) → length gate ≡ 0 → cut_at 10 r ≡ None → rows_in rest ≡ []
no_row-begun rest gate r cut none begun = ap rows_in (open_gate rest gate r cut none) ∙ behind-none [] r begun

pub record Next (rest row more : List ℕ) : Type 0 where
  pub text : rest ≡ 10 ∷ row ++ 10 ∷ more
  pub plain : IsPlain row
  pub rows : rows_in rest ≡ row ∷ rows_in more

pub next_row : (rest gate r row more : List ℕ) → cut_at 10 rest ≡ Some (gate, r) → length gate ≡ 0 → cut_at 10 r ≡ Some (row, more) → Next rest row more
next_row rest gate r row more cut none next =
    let found = cut_parts r (row, more) next in
    let text : rest ≡ 10 ∷ row ++ 10 ∷ more = open_gate rest gate r cut none ∙ ap (λ (l : List ℕ). 10 ∷ l) found.split in
    record { text = text; plain = found.plain; rows = ap rows_in text ∙ row-first row more found.plain }

-- what was read, with one row more
pub record ReadOn (file : List ℕ) (end later : ℕ) (row : List ℕ) : Type 0 where
  pub rows : rows_in (take later file) ≡ rows_in (take end file) ++ row ∷ []
  pub front : take later file ≡ rows_text (rows_in (take later file))
  pub within : later ≤ length file

pub read_on : (file : List ℕ) (end later : ℕ) (row more : List ℕ) → take end file ≡ rows_text (rows_in (take end file)) → end ≤ length file
    → Next (drop end file) row more → later ≡ end + length row + 2
    → ReadOn file end later row
read_on file end later row more front within next ends =
    let rows = rows_in (take end file) in
    let text = rows_text (rows ++ row ∷ []) in
    let grown : text ≡ rows_text rows ++ row_text row = flat_map-append row_text rows (row ∷ [])
    ∙ ap (λ (l : List ℕ). rows_text rows ++ l) (append-nil (row_text row)) in
    let whole : file ≡ text ++ more =
    sym (take-append-drop end file) ∙ ap (λ (l : List ℕ). l ++ drop end file) front
    ∙ ap (λ (l : List ℕ). rows_text rows ++ l) (next.text ∙ sym (ap (λ (l : List ℕ). 10 ∷ l) (append_assoc row (10 ∷ []) more)))
    ∙ sym (append_assoc (rows_text rows) (row_text row) more) ∙ ap (λ (l : List ℕ). l ++ more) (sym grown) in
    let size : length text ≡ later =
    omega (
      arith,
      ends,
      within,
      ap length grown,
      length-append (rows_text rows) (row_text row),
      length-append row
          (10 ∷ []),
      ap length front,
      length-take-le end file within,
    ) in
    let is : take later file ≡ text = ap (λ (l : List ℕ). take later l) whole ∙ take_at text more later size in
    let stands : rows_in text ≡ rows ++ row ∷ [] =
    ap rows_in (sym (append-nil text))
    ∙ rows_in-text (rows ++ row ∷ []) [] (plain-append rows (row ∷ []) (parts (take end file)).plain (next.plain, tt)) ∙ append-nil (rows ++ row ∷ []) in
    record {
      rows = ap rows_in is ∙ stands;
      front = is ∙ ap rows_text (sym (ap rows_in is ∙ stands));
      within = omega (arith, ap length whole, length-append text more, size);
    }
