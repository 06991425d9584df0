-- Pieces that are read and written.
use Rattle.std.proofs.Common.{◌≡◌, ℕ, zero, suc, List, [], ◌∷◌, ◌++◌, inl, inr, refl, sym, ap, ◌∙◌, append-nil, append_assoc, subst, take}
use Rattle.std.specs.Prelude.{Result, Ok, Err}
use Rattle.builder.specs.Steps.{Steps}
use Rattle.builder.specs.declared.fault.Fault.{Fault}
use Rattle.builder.specs.Pieces.{Writes, Stops, IsUnwritten, IsWritten, joined}

-- pieces behind others, as one text
pub joined-append : (later before : List (List ℕ)) → joined (later ++ before) ≡ joined before ++ joined later
joined-append [] before = sym (append-nil (joined before))
joined-append (piece ∷ later) before = ap (λ text. text ++ piece) (joined-append later before) ∙ append_assoc (joined before) (joined later) piece

-- the front of a text is kept, and more behind it: the front of both
front_kept : (most : ℕ) (before piece : List ℕ) → take most (take most before ++ piece) ≡ take most (before ++ piece)
front_kept zero before piece = refl
front_kept (suc n) [] piece = refl
front_kept (suc n) (x ∷ xs) piece = ap (λ ys. x ∷ ys) (front_kept n xs piece)

-- a piece is kept behind the front of the pieces before it, and the front of that is the front of all
pub piece_kept : (most : ℕ) (kept longer shorter piece : List ℕ) (before : List (List ℕ)) → kept ≡ take most (joined before) → longer ≡ kept ++ piece
    → shorter ≡ take most longer → shorter ≡ take most (joined (piece ∷ before))
piece_kept most kept longer shorter piece before is_front is_longer is_shorter =
    is_shorter ∙ ap (λ k. take most k) is_longer ∙ ap (λ k. take most (k ++ piece)) is_front ∙ front_kept most (joined before) piece

-- a text that was written, a beginning of another behind it, and the rest of that
rest_behind : (before later : List (List ℕ)) (first text rest : List ℕ) → joined before ≡ first → text ≡ joined later ++ rest
    → first ++ text ≡ joined (later ++ before) ++ rest
rest_behind before later first text rest first_is text_is =
    ap (λ t. t ++ text) (sym first_is)
    ∙ ap (λ t. joined before ++ t) text_is
    ∙ sym (append_assoc (joined before) (joined later) rest)
    ∙ ap (λ t. t ++ rest) (sym (joined-append later before))

module _ {O File Output Process : Type 0} (steps : Steps O File Output Process) where
  -- pieces are written, and others behind them
  pub writes_both : (o : O) (file : File) (before : List (List ℕ)) (file' : File) (o' : O) (later : List (List ℕ)) (file'' : File) (o'' : O)
      → Writes steps o file before file' o' → Writes steps o' file' later file'' o'' → Writes steps o file (later ++ before) file'' o''
  writes_both o file before file' o' [] file'' o'' first then =
      subst (λ s. Writes steps o file before s o'') (sym then.0) (subst (λ s. Writes steps o file before file' s) (sym then.1) first)
  writes_both o file before file' o' (piece ∷ later) file'' o'' first then =
      (then.0, then.1, writes_both o file before file' o' later then.1 then.0 first then.2, then.3)

  -- what stopped with a rest stopped with more behind it
  stops_before : (o : O) (file : File) (rest more : List ℕ) (why : Fault) (file' : File) (o' : O)
      → Stops steps o file rest why file' o' → Stops steps o file (rest ++ more) why file' o'
  stops_before o file rest more why file' o' (is, inl told) =
      (is, inl (told.0, told.1 ++ more, told.2, ap (λ text. text ++ more) told.3 ∙ append_assoc told.0 told.1 more, told.4))
  stops_before o file rest more why file' o' (is, inr none) = (is, inr none)

  -- a text of which no more was written, with more behind it
  pub unwritten_before : (o : O) (file : File) (text more : List ℕ) (why : Fault) (file' : File) (o' : O)
      → IsUnwritten steps o file text why file' o' → IsUnwritten steps o file (text ++ more) why file' o'
  unwritten_before o file text more why file' o' w =
      (w.0, w.1 ++ more, w.2, w.3, ap (λ t. t ++ more) w.4 ∙ append_assoc (joined w.0) w.1 more, w.5, stops_before w.2 w.3 w.1 more why file' o' w.6)

  -- a text was not written, behind another that was
  pub unwritten_behind : (o : O) (file : File) (first : List ℕ) (file' : File) (o' : O) (text : List ℕ) (why : Fault) (file'' : File) (o'' : O)
      → IsWritten steps o file first (Ok tt) file' o' → IsUnwritten steps o' file' text why file'' o'' → IsUnwritten steps o file (first ++ text) why file'' o''
  unwritten_behind o file first file' o' text why file'' o'' w v =
      (v.0 ++ w.0, v.1, v.2, v.3, rest_behind w.0 v.0 first text v.1 w.2 v.4, writes_both o file w.0 file' o' v.0 v.3 v.2 w.1 v.5, v.6)

  -- a text is written, and another behind it
  pub written_both : (o : O) (file : File) (first : List ℕ) (file' : File) (o' : O) (second : List ℕ) (given : Result (Unit {0}) Fault) (file'' : File)
      (o'' : O) → IsWritten steps o file first (Ok tt) file' o' → IsWritten steps o' file' second given file'' o''
      → IsWritten steps o file (first ++ second) given file'' o''
  written_both o file first file' o' second (Ok done) file'' o'' w v =
      (v.0 ++ w.0, writes_both o file w.0 file' o' v.0 file'' o'' w.1 v.1, joined-append v.0 w.0 ∙ ap (λ t. t ++ joined v.0) w.2 ∙ ap (λ t. first ++ t) v.2)
  written_both o file first file' o' second (Err why) file'' o'' w v = unwritten_behind o file first file' o' second why file'' o'' w v
