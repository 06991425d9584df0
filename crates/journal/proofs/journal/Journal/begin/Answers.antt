use Rattle.std.proofs.Common.{◌≡◌, ◌+◌, ◌-◌, ℕ, zero, suc, List, [], ◌∷◌, ◌++◌, length, drop, refl, sym, ◌∙◌, ap, subst, arith, length-append}
use Rattle.std.specs.Prelude.{codes}
use Rattle.std.proofs.lemmas.List.{append-nil}
use Rattle.journal.specs.LogFile.{Holds}
use Rattle.journal.specs.Rows.{rows_in, row_text, rows_text, at_rest}
use Rattle.journal.specs.Seals.{header_row, IsHistory}
use Rattle.journal.specs.TextDigests.{HasTaken}
use Rattle.journal.proofs.RowLemmas.{parts}
use Rattle.journal.proofs.Crash.{settled}
use Rattle.journal.proofs.HistoryLemmas.{history_begins}
use Rattle.journal.proofs.journal.Journal.begin.Goals as goal

drop_none : (n : ℕ) → drop {A = ℕ} n [] ≡ []
drop_none zero = refl
drop_none (suc n) = refl

-- what is written into an empty file
holds_all : (bytes new : List ℕ) → Holds [] 0 bytes new → new ≡ bytes
holds_all bytes new holds = holds ∙ ap (λ (l : List ℕ). bytes ++ l) (drop_none (0 + length bytes)) ∙ append-nil bytes

end_of : (bytes : List ℕ) (n : ℕ) → bytes ≡ at_rest (rows_in bytes) → n ≡ length bytes → n - 1 ≡ length (rows_text (rows_in bytes))
end_of bytes n rest is = omega (arith, is, ap length rest, length-append (rows_text (rows_in bytes)) (35 ∷ []))

pub returns : goal.returns
returns g c = record {
  begun = λ h.
      let h0 = c.in_ok-write_synced.ensures.honest h in
      let file = g.D.LogFile.seen c.write_synced.new.file in
      let bytes = c.in_ok-rows.rows.bytes.items in
      let header = header_row c.args.settings.now in
      let items = c.in_ok-extend_from_slice-2.ensures.items
      ∙ ap (λ (l : List ℕ). l ++ c.args.settings.now) (c.in_ok-extend_from_slice.ensures.items
      ∙ ap (λ (l : List ℕ). l ++ codes "#intstore history 1 ") c.new-header.ensures.items) in
      let rows : rows_in bytes ≡ header ∷ [] =
      c.in_ok-rows.ensures ∙ ap (λ (rs : List (List ℕ)). rs ++ c.deref.result.now ∷ []) c.in_ok-new.ensures
      ∙ ap (λ (r : List ℕ). r ∷ []) (c.deref.ensures.value ∙ items) in
      let written : file ≡ bytes = holds_all c.deref-3.result.now file
      (subst (λ (f : List ℕ). Holds f 0 c.deref-3.result.now file) (c.requires.empty h0) (c.in_ok-write_synced.ensures.written h)) ∙ c.deref-3.ensures.value in
      let is_settled = settled g.D.LogFile.seen g.D.LogFile.may_leave (record { file = c.write_synced.new.file; end = c.len-end.result - 1 })
      (rows_in bytes) (parts bytes).plain
      (written ∙ c.in_ok-rows.rows.rest)
      (end_of bytes c.len-end.result c.in_ok-rows.rows.rest (omega (arith, c.len-end.ensures, c.in_ok-rows.rows.bytes.ok.0)))
      (c.in_ok-write_synced.ensures.durable h) in
      let now : rows_in file ≡ header ∷ [] = is_settled.1 ∙ rows in
      let text : row_text c.deref-2.result.now ≡ rows_text (rows_in file) =
      ap row_text (c.deref-2.ensures.value ∙ items) ∙ sym (append-nil (row_text header)) ∙ sym (ap rows_text now) in (
        record {
          rows = is_settled.0;
          text = subst (HasTaken c.take_row.new.self) text (c.take_row.ensures [] c.new-text.ensures);
          history = subst IsHistory (sym now) (history_begins c.args.settings.now);
        },
        now,
      );
  honest = λ h. c.in_ok-write_synced.ensures.honest h;
}
