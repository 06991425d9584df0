-- What a crash leaves in each of the two steps of an `append`.
use Rattle.std.proofs.Common.{◌≡◌, ℕ, ◌+◌, List, [], ◌∷◌, ◌++◌, length, get_or, take, drop, refl, sym, ◌∙◌, ap, subst, arith, append_assoc, length-append, take-append-drop}
use Rattle.std.proofs.lemmas.List.{take_at, drop_at, drop_more, take_all, drop_all, append-nil}
use Rattle.journal.specs.LogFile.{Holds, Torn, Follows, Only}
use Rattle.journal.specs.RowFiles.{IsSettled}
use Rattle.journal.specs.Rows.{ArePlain, rows_in, rows_text, at_rest, IsBeforeOrAfter}
use Rattle.journal.specs.declared.row_file.RowFile.{RowFile}
use Rattle.journal.proofs.RowLemmas.{rows_in-shut, rows_in-rest, rows_in-gate, at_rest-push}

-- the file with a group behind the closed gate
abbrev pub staged : List (List ℕ) → List ℕ → List ℕ
staged rows body = rows_text rows ++ 35 ∷ body

module _ (rows : List (List ℕ)) (at : ℕ) (ends : at ≡ length (rows_text rows)) (plain : ArePlain rows) where
  pub length-rest : length (at_rest rows) ≡ at + 1
  length-rest = omega (arith, ends, length-append (rows_text rows) (35 ∷ []))

  -- the closed gate stands in each outcome of the first write
  pub torn_behind : (n : ℕ) (c : List ℕ) → Torn (at + 1) n (at_rest rows) c → rows_in c ≡ rows
  torn_behind n c torn =
      let front : take (at + 1) c ≡ at_rest rows = torn.before ∙ take_all _ _ (omega (arith, length-rest)) in
      let whole : c ≡ rows_text rows ++ 35 ∷ drop (at + 1) c =
      sym (take-append-drop (at + 1) c) ∙ ap (λ (l : List ℕ). l ++ drop (at + 1) c) front ∙ append_assoc (rows_text rows) (35 ∷ []) (drop (at + 1) c) in
      ap rows_in whole ∙ rows_in-shut rows 35 (drop (at + 1) c) plain refl

  pub written_behind : (body c : List ℕ) → Holds (at_rest rows) (at + 1) body c → c ≡ staged rows body
  written_behind body c holds =
      holds
      ∙ ap (λ (l : List ℕ). l ++ body ++ drop (at + 1 + length body) (at_rest rows)) (take_all _ _ (omega (arith, length-rest)))
      ∙ ap (λ (l : List ℕ). at_rest rows ++ body ++ l) (drop_all (at + 1 + length body) (at_rest rows) (omega (arith, length-rest)))
      ∙ append-nil (at_rest rows ++ body)
      ∙ append_assoc (rows_text rows) (35 ∷ []) body

  staged_split : (body : List ℕ) → staged rows body ≡ at_rest rows ++ body
  staged_split body = sym (append_assoc (rows_text rows) (35 ∷ []) body)

  front : (body : List ℕ) → take at (staged rows body) ≡ rows_text rows
  front body = take_at (rows_text rows) (35 ∷ body) at (sym ends)

  back : (body : List ℕ) → drop (at + 1) (staged rows body) ≡ body
  back body = ap (λ (l : List ℕ). drop (at + 1) l) (staged_split body) ∙ drop_at (at_rest rows) body (at + 1) length-rest

  pub length-staged : (body : List ℕ) → length (staged rows body) ≡ at + 1 + length body
  length-staged body = omega (arith, ends, length-append (rows_text rows) (35 ∷ body))

  -- the group stands whole in each outcome of the second write
  pub torn_gate : (more : List (List ℕ)) (body c : List ℕ) → ArePlain more → at_rest more ≡ 10 ∷ body → Torn at 1 (staged rows body) c
      → IsBeforeOrAfter rows more c
  torn_gate more body c also is torn =
      let long = length-staged body in
      let gate = get_or c at 0 in
      let rest : drop at c ≡ gate ∷ body = drop_more c at 0 (omega (arith, torn.no_shorter)) ∙ ap (λ (l : List ℕ). gate ∷ l) (torn.after ∙ back body) in
      let whole : c ≡ rows_text rows ++ gate ∷ body =
      sym (take-append-drop at c) ∙ ap (λ (l : List ℕ). l ++ drop at c) (torn.before ∙ front body) ∙ ap (λ (l : List ℕ). rows_text rows ++ l) rest in
      subst (IsBeforeOrAfter rows more) (sym whole) (rows_in-gate rows more gate body plain also is)

  pub written_gate : (more : List (List ℕ)) (body c : List ℕ) → at_rest more ≡ 10 ∷ body → Holds (staged rows body) at (10 ∷ []) c → c ≡ at_rest (rows ++ more)
  written_gate more body c is holds =
      holds
      ∙ ap (λ (l : List ℕ). l ++ (10 ∷ []) ++ drop (at + 1) (staged rows body)) (front body)
      ∙ ap (λ (l : List ℕ). rows_text rows ++ (10 ∷ []) ++ l) (back body)
      ∙ append_assoc (rows_text rows) (10 ∷ []) body
      ∙ ap (λ (l : List ℕ). rows_text rows ++ l) (sym is)
      ∙ sym (at_rest-push rows more)

  pub ends_now : (more : List (List ℕ)) (body : List ℕ) → at_rest more ≡ 10 ∷ body → at + length body ≡ length (rows_text (rows ++ more))
  ends_now more body is =
      omega (
        arith,
        ends,
        ap length (at_rest-push rows more),
        length-append (rows_text (rows ++ more)) (35 ∷ []),
        length-append (rows_text rows)
            (at_rest more),
        ap length is,
      )

  pub stage_crash : (n : ℕ) (old new : List ℕ → Type 0) → Only (at_rest rows) old → Follows (Torn (at + 1) n) old new → (c : List ℕ) → new c → rows_in c ≡ rows
  stage_crash n old new only follows c left =
      let from = follows c left in
      torn_behind n c (subst (λ f. Torn (at + 1) n f c) (only from.0 from.1) from.2)

  pub gate_crash : (more : List (List ℕ)) (body : List ℕ) → ArePlain more → at_rest more ≡ 10 ∷ body → (old new : List ℕ → Type 0)
      → Only (staged rows body) old → Follows (Torn at 1) old new
      → (c : List ℕ) → new c → IsBeforeOrAfter rows more c
  gate_crash more body also is old new only follows c left =
      let from = follows c left in
      torn_gate more body c also is (subst (λ f. Torn at 1 f c) (only from.0 from.1) from.2)

-- a file at rest, all of it on the disk
pub settled : {D : Type 0} (seen : D → List ℕ) (may_leave : D → List ℕ → Type 0) (journal : RowFile D) (rows : List (List ℕ)) → ArePlain rows
    → seen journal.file ≡ at_rest rows
    → journal.end ≡ length (rows_text rows) → Only (seen journal.file) (may_leave journal.file)
    → IsSettled seen may_leave journal × (rows_in (seen journal.file) ≡ rows)
settled seen may_leave journal rows plain is ends only =
    let stands_for : rows_in (seen journal.file) ≡ rows = ap rows_in is ∙ rows_in-rest rows plain in (
      record {
        file = is ∙ ap at_rest (sym stands_for);
        end = ends ∙ ap (λ (rs : List (List ℕ)). length (rows_text rs)) (sym stands_for);
        durable = only;
      },
      stands_for,
    )
