-- How a session goes on.
use Rattle.std.proofs.Common.{◌≡◌, ℕ, ◌+◌, ◌<◌, ◌≤◌, List, [], ◌∷◌, ◌++◌, length, take, Option, refl, sym, ap, ◌∙◌, subst, arith, append_assoc, length-append, length-take}
use Rattle.std.proofs.lemmas.List.{append-nil, take_all}
use Rattle.std.proofs.lemmas.Bool.{true≢false}
use Rattle.std.proofs.Common.{◌⊎◌, inl, inr, true, false}
use Rattle.std.specs.Prelude.{codes, decimal}
use mathlib.Core.List.{IsPrefix}
use Rattle.std.specs.Io.KnownBytes.{Appends, Consumes}
use Rattle.std.specs.Prelude.{Result, Ok, Err, OnOk, IfErr}
use Rattle.model.specs.declared.mode.Mode.{Mode}
use Rattle.model.specs.declared.refusal.Refusal.{Refusal}
use Rattle.model.specs.declared.refusal.Refusal.TheVariants.{BadUsers, InputFault, OutputFault, Memory}
use Rattle.model.specs.Limits.{longest_line}
use Rattle.model.specs.Lines.{lines_of}
use Rattle.model.specs.Replies.{Reply, Refused}
use Rattle.model.specs.Talk.{LineRow, Silent, Names, Refuses, Asks, Waits, Seen, fresh, GetsNext, seen_after, after_all, Talks, text_from, row_text, answer_text, reply_text}
use Rattle.session.specs.Serving.{Progress, EndedEarly, Finished, NotShown, HasNoNewline, HoldsMore, Gives, StopsAt, IsFault, IsOwn, MayBeFault, GoesOn, EndsIn, EndsBehind}
use Rattle.session.proofs.LineLemmas.{nothing-held, lines-newline, lines-last}
use Rattle.session.proofs.RowLemmas.{chain-more, length-after_all, text-more, appends-none, appends-more, appends-flushed, take-seam}
use Rattle.session.proofs.WholeLinesLemmas.{no_lines, line-grown, ended-cut, held-gets, ended-talks, line-ended, seen-more, refused-same}

some_text : (front back : List ℕ) (b : ℕ) → length (front ++ b ∷ back) ≤ 0 → ⊥
some_text front back b h = omega (arith, h, length-append front (b ∷ back))

answer_printed : (n : ℕ) (actor : List ℕ) (reply : Reply) → length (answer_text n actor reply) ≤ 0 → ⊥
answer_printed n actor reply h = some_text (decimal n ++ 32 ∷ actor ++ 32 ∷ reply_text reply) [] 10 h

-- a line of users that is refused has a text
refusal_printed : (mode : Mode) (rows : List LineRow) (seen : Seen) (row : LineRow) → seen ≡ after_all (fresh mode) rows
    → (after_all (fresh mode) rows).refused ≡ false
    → (seen_after seen row).refused ≡ true → (n : ℕ) → length (row_text n row) ≤ 0 → ⊥
refusal_printed mode rows seen Silent is going r n h = true≢false (sym r ∙ ap (λ (s : Seen). s.refused) is ∙ going)
refusal_printed mode rows seen (Names users) is going r n h = true≢false (sym r ∙ ap (λ (s : Seen). s.refused) is ∙ going)
refusal_printed mode rows seen (Refuses why) is going r n h = answer_printed n (codes "-") (Refused why) h
refusal_printed mode rows seen (Asks event reply) is going r n h = true≢false (sym r ∙ ap (λ (s : Seen). s.refused) is ∙ going)
refusal_printed mode rows seen (Waits goals reply) is going r n h = true≢false (sym r ∙ ap (λ (s : Seen). s.refused) is ∙ going)

last_line : (partial : List ℕ) → HasNoNewline partial → 0 < length partial → lines_of (partial ++ 10 ∷ []) ≡ lines_of (partial ++ [])
last_line [] w h = absurd (omega arith)
last_line (b ∷ partial) w h = lines-newline (b ∷ partial) [] w ∙ sym (lines-last b partial w) ∙ ap lines_of (sym (append-nil (b ∷ partial)))

module _ {mode : Mode} {A : Type 0} (L : A → LineRow → A → Type 0) (first : A) (blank : Option (List ℕ)) where
  -- nothing was read yet
  pub progress-none : Progress mode L first first blank blank [] (fresh mode) []
  progress-none = record {
    so_far = record { rows = []; lines = no_lines; chain = refl; text = appends-none blank };
    held_is = refl;
    seen_is = refl;
  }

  -- more of a line
  pub progress-held : (now : A) (written : Option (List ℕ)) (input : List ℕ) (seen : Seen) (held bytes held' : List ℕ)
      → Progress mode L first now blank written input seen held → HasNoNewline bytes → HoldsMore held bytes held'
      → Progress mode L first now blank written (input ++ bytes) seen held'
  progress-held now written input seen held bytes held' p w h = record {
    so_far = record {
      rows = p.so_far.rows;
      lines = line-grown p.so_far.lines bytes w;
      chain = p.so_far.chain;
      text = p.so_far.text;
    };
    held_is = h p.so_far.lines.partial p.held_is;
    seen_is = p.seen_is;
  }

  -- what was written is flushed
  pub progress-flushed : (now : A) (written written' : Option (List ℕ)) (input : List ℕ) (seen : Seen) (held : List ℕ)
      → Progress mode L first now blank written input seen held → Appends written written' [] → Progress mode L first now blank written' input seen held
  progress-flushed now written written' input seen held p kept = record {
    so_far = record {
      rows = p.so_far.rows;
      lines = p.so_far.lines;
      chain = p.so_far.chain;
      text = appends-flushed blank written written' (text_from 1 p.so_far.rows) p.so_far.text kept;
    };
    held_is = p.held_is;
    seen_is = p.seen_is;
  }

  -- the row of the line which is held
  line_gets : (now : A) (written : Option (List ℕ)) (input : List ℕ) (seen : Seen) (held : List ℕ)
      (p : Progress mode L first now blank written input seen held) (row : LineRow) → GetsNext seen held row
      → GetsNext (after_all (fresh mode) p.so_far.rows) p.so_far.lines.partial row
  line_gets now written input seen held p row g = held-gets p.so_far.lines seen held row p.held_is p.seen_is g

  line_number : (now : A) (written : Option (List ℕ)) (input : List ℕ) (seen : Seen) (held : List ℕ)
      (p : Progress mode L first now blank written input seen held) → length seen.told + 1 ≡ 1 + length p.so_far.rows
  line_number now written input seen held p = omega (arith, ap (λ (s : Seen). length s.told) p.seen_is, length-after_all (fresh mode) p.so_far.rows)

  line_text : (now : A) (written written' : Option (List ℕ)) (input : List ℕ) (seen : Seen) (held : List ℕ)
      (p : Progress mode L first now blank written input seen held) (row : LineRow) (n : ℕ)
      → Appends written written' (take n (row_text (length seen.told + 1) row))
      → Appends blank written' (take (length (text_from 1 p.so_far.rows) + n) (text_from 1 (p.so_far.rows ++ row ∷ [])))
  line_text now written written' input seen held p row n a =
      let rows = p.so_far.rows in
      let number : length seen.told + 1 ≡ 1 + length rows = line_number now written input seen held p in
      let b : Appends written written' (take n (row_text (1 + length rows) row)) = subst (λ k. Appends written written' (take n (row_text k row))) number a in
      let e : take (length (text_from 1 rows) + n) (text_from 1 (rows ++ row ∷ [])) ≡ text_from 1 rows ++ take n (row_text (1 + length rows) row) =
      ap (take (length (text_from 1 rows) + n)) (text-more 1 rows row) ∙ take-seam (text_from 1 rows) (row_text (1 + length rows) row) n in
      subst (λ t. Appends blank written' t) (sym e) (appends-more blank written written' _ _ p.so_far.text b)

  line_length : (now : A) (written : Option (List ℕ)) (input : List ℕ) (seen : Seen) (held : List ℕ)
      (p : Progress mode L first now blank written input seen held) (row : LineRow) (n : ℕ) → length (row_text (length seen.told + 1) row) ≤ n
      → length (text_from 1 (p.so_far.rows ++ row ∷ [])) ≤ length (text_from 1 p.so_far.rows) + n
  line_length now written input seen held p row n h =
      let rows = p.so_far.rows in
      omega (
        arith,
        ap length (text-more 1 rows row),
        length-append (text_from 1 rows) (row_text (1 + length rows) row),
        ap (λ k. length (row_text k row)) (line_number now written input seen held p),
      )

  line_written : (now : A) (written : Option (List ℕ)) (input : List ℕ) (seen : Seen) (held : List ℕ)
      (p : Progress mode L first now blank written input seen held) (row : LineRow) (n : ℕ)
      → length (text_from 1 (p.so_far.rows ++ row ∷ [])) ≤ length (text_from 1 p.so_far.rows) + n → length (row_text (length seen.told + 1) row) ≤ n
  line_written now written input seen held p row n h =
      let rows = p.so_far.rows in
      omega (
        arith,
        h,
        ap length (text-more 1 rows row),
        length-append (text_from 1 rows) (row_text (1 + length rows) row),
        ap (λ k. length (row_text k row)) (line_number now written input seen held p),
      )

  -- whether users were refused once the line that is held is answered
  line_refused : (now : A) (written : Option (List ℕ)) (input : List ℕ) (seen : Seen) (held : List ℕ)
      (p : Progress mode L first now blank written input seen held) (row : LineRow)
      → (after_all (fresh mode) (p.so_far.rows ++ row ∷ [])).refused ≡ (seen_after seen row).refused
  line_refused now written input seen held p row =
      refused-same mode (p.so_far.rows ++ row ∷ []) (seen_after seen row) (seen-more mode p.so_far.rows seen (seen_after seen row) row p.seen_is refl)

  -- the line that is held was answered, and a beginning of its text written
  pub early-line : (now next : A) (written written' : Option (List ℕ)) (input : List ℕ) (seen : Seen) (held : List ℕ) (row : LineRow) (n : ℕ)
      (more : List ℕ) (why : Refusal) → Progress mode L first now blank written input seen held → GetsNext seen held row → L now row next
      → Appends written written' (take n (row_text (length seen.told + 1) row))
      → (why ≡ BadUsers → ((seen_after seen row).refused ≡ true) × (length (row_text (length seen.told + 1) row) ≤ n))
      → ((seen_after seen row).refused ≡ true → length (row_text (length seen.told + 1) row) ≤ n → why ≡ BadUsers)
      → EndedEarly mode L first next blank written' (input ++ 10 ∷ more) ⊥ why
  early-line now next written written' input seen held row n more why p g l a u t = record {
    rows = p.so_far.rows ++ row ∷ [];
    done = p.so_far.lines.done ++ p.so_far.lines.partial ∷ [];
    cut = λ others e. (lines_of (more ++ others), sym (ap lines_of (append_assoc input (10 ∷ more) others) ∙ ended-cut p.so_far.lines (more ++ others)));
    talks = ended-talks p.so_far.lines row (line_gets now written input seen held p row g);
    chain = chain-more L first p.so_far.rows now row next p.so_far.chain l;
    count = length (text_from 1 p.so_far.rows) + n;
    text = line_text now written written' input seen held p row n a;
    users = λ e. (line_refused now written input seen held p row ∙ (u e).0, line_length now written input seen held p row n (u e).1);
    told = λ h. t (sym (line_refused now written input seen held p row) ∙ h.0) (line_written now written input seen held p row n h.1);
  }

  -- and all of its text
  pub progress-line : (now next : A) (written written' : Option (List ℕ)) (input : List ℕ) (seen seen' : Seen) (held : List ℕ) (row : LineRow)
      → Progress mode L first now blank written input seen held → GetsNext seen held row → L now row next → seen' ≡ seen_after seen row
      → Appends written written' (row_text (length seen.told + 1) row) → seen'.refused ≡ false
      → Progress mode L first next blank written' (input ++ 10 ∷ []) seen' []
  progress-line now next written written' input seen seen' held row p g l s a f =
      let text = row_text (length seen.told + 1) row in
      let n = length text in
      let same : take n text ≡ text = take_all n text (omega arith) in
      let rows = p.so_far.rows ++ row ∷ [] in
      let b : Appends blank written' (take (length (text_from 1 p.so_far.rows) + n) (text_from 1 rows)) =
      line_text now written written' input seen held p row n (subst (λ t. Appends written written' t) (sym same) a) in
      let all : length (text_from 1 rows) ≤ length (text_from 1 p.so_far.rows) + n = line_length now written input seen held p row n (omega arith) in
      let seen_is : seen' ≡ after_all (fresh mode) rows = seen-more mode p.so_far.rows seen seen' row p.seen_is s in
      record {
        so_far = record {
          rows = rows;
          lines = line-ended p.so_far.lines row (line_gets now written input seen held p row g) (refused-same mode rows seen' seen_is ∙ f);
          chain = chain-more L first p.so_far.rows now row next p.so_far.chain l;
          text = subst (λ t. Appends blank written' t) (take_all _ _ all) b;
        };
        held_is = refl;
        seen_is = seen_is;
      }

  -- ended before the line that is held
  pub early-here : (now : A) (written : Option (List ℕ)) (input : List ℕ) (seen : Seen) (held more : List ℕ) (why : Refusal) → (why ≡ BadUsers → ⊥)
      → Progress mode L first now blank written input seen held → EndedEarly mode L first now blank written (input ++ more) ⊥ why
  early-here now written input seen held more why u p = record {
    rows = p.so_far.rows;
    done = p.so_far.lines.done;
    cut = λ others e. (
      lines_of (p.so_far.lines.partial ++ (more ++ others)),
      sym (ap lines_of (append_assoc input more others) ∙ p.so_far.lines.cut (more ++ others)),
    );
    talks = p.so_far.lines.talks;
    chain = p.so_far.chain;
    count = length (text_from 1 p.so_far.rows);
    text = subst (λ t. Appends blank written t) (sym (take_all _ _ (omega arith))) p.so_far.text;
    users = λ e. absurd (u e);
    told = λ h. absurd (true≢false (sym h.0 ∙ p.so_far.lines.going));
  }

  -- nothing is held: all lines are done
  pub finished : (now : A) (written : Option (List ℕ)) (input : List ℕ) (seen : Seen) → Progress mode L first now blank written input seen []
      → Finished mode L first now blank written (lines_of input)
  finished now written input seen p =
      let l = p.so_far.lines in
      let none : l.partial ≡ [] = nothing-held longest_line l.partial p.held_is in
      let all : lines_of input ≡ l.done = ap lines_of (sym (append-nil input)) ∙ l.cut [] ∙ ap (λ t. l.done ++ lines_of (t ++ [])) none ∙ append-nil l.done in
      record {
        rows = p.so_far.rows;
        talks = subst (λ ls. Talks (fresh mode) ls p.so_far.rows) (sym all) l.talks;
        going = l.going;
        chain = p.so_far.chain;
        text = p.so_far.text;
      }

  -- a last line that lacks its newline is the line that it is with it
  pub lines-closed : (now : A) (written : Option (List ℕ)) (input : List ℕ) (seen : Seen) (held : List ℕ)
      → Progress mode L first now blank written input seen held → 0 < length held → lines_of (input ++ 10 ∷ []) ≡ lines_of input
  lines-closed now written input seen held p h =
      let l = p.so_far.lines in
      let some : 0 < length l.partial = omega (arith, ap length p.held_is, length-take (longest_line + 1) l.partial) in
      l.cut (10 ∷ []) ∙ ap (λ t. l.done ++ t) (last_line l.partial l.begun some) ∙ sym (l.cut []) ∙ ap lines_of (append-nil input)

  pub early-memory : (now next : A) (written : Option (List ℕ)) (input : List ℕ) (seen : Seen) (held line more : List ℕ) (why : Refusal)
      → (why ≡ BadUsers → ⊥) → line ≡ held → Progress mode L first now blank written input seen held → StopsAt (GetsNext seen line) L now next
      → EndedEarly mode L first next blank written (input ++ 10 ∷ more) ⊥ why
  early-memory now next written input seen held line more why u same p d = elim d [
    | inl e ↦ subst (λ x. EndedEarly mode L first x blank written (input ++ 10 ∷ more) ⊥ why) (sym e) (early-here now written input seen held (10 ∷ more) why u p)
    | inr w ↦
        early-line now next written written input seen held w.0 0 more why p (subst (λ t. GetsNext seen t w.0) same w.1) w.2
        (appends-none written) (λ e. absurd (u e)) (λ r h. absurd (refusal_printed mode p.so_far.rows seen w.0 p.seen_is p.so_far.lines.going r (length seen.told + 1) h))
  ]

  pub early-write : (now next : A) (written written' : Option (List ℕ)) (input : List ℕ) (seen seen' : Seen) (held line text shown more : List ℕ)
      (why : Refusal)
      → (why ≡ BadUsers → ⊥) → line ≡ held → shown ≡ text → Gives (GetsNext seen line) L seen seen' now next text
      → Progress mode L first now blank written input seen held
      → ((n : ℕ) × (n < length shown) × Appends written written' (take n shown)) → EndedEarly mode L first next blank written' (input ++ 10 ∷ more) ⊥ why
  early-write now next written written' input seen seen' held line text shown more why u same e w p a =
      early-line now next written written' input seen held w.0 a.0 more why p (subst (λ t. GetsNext seen t w.0) same w.1) w.4
      (subst (λ t. Appends written written' (take a.0 t)) (e ∙ w.3) a.2) (λ f. absurd (u f))
      (λ r h. absurd (omega (arith, h, a.1, ap length (e ∙ w.3))))

  pub early-refused : (now next : A) (written written' : Option (List ℕ)) (input : List ℕ) (seen seen' : Seen) (held line text shown more : List ℕ)
      (why : Refusal)
      → line ≡ held → shown ≡ text → Gives (GetsNext seen line) L seen seen' now next text → Progress mode L first now blank written input seen held
      → Appends written written' shown → seen'.refused ≡ true → why ≡ BadUsers → EndedEarly mode L first next blank written' (input ++ 10 ∷ more) ⊥ why
  early-refused now next written written' input seen seen' held line text shown more why same e w p a r is =
      let shown_all : Appends written written' (take (length shown) shown) =
      subst (λ t. Appends written written' t) (sym (take_all (length shown) shown (omega arith))) a in
      let all : Appends written written' (take (length shown) (row_text (length seen.told + 1) w.0)) =
      subst (λ t. Appends written written' (take (length shown) t)) (e ∙ w.3) shown_all in
      early-line now next written written' input seen held w.0 (length shown) more why p (subst (λ t. GetsNext seen t w.0) same w.1) w.4 all
      (λ f. (ap (λ (s : Seen). s.refused) (sym w.2) ∙ r, omega (arith, ap length (e ∙ w.3)))) (λ r h. is)

  pub progress-write : (now next : A) (written written' : Option (List ℕ)) (input : List ℕ) (seen seen' : Seen) (held line text shown : List ℕ)
      → line ≡ held → shown ≡ text → Gives (GetsNext seen line) L seen seen' now next text → Progress mode L first now blank written input seen held
      → Appends written written' shown → seen'.refused ≡ false → Progress mode L first next blank written' (input ++ 10 ∷ []) seen' []
  progress-write now next written written' input seen seen' held line text shown same e w p a f =
      progress-line now next written written' input seen seen' held w.0 p (subst (λ t. GetsNext seen t w.0) same w.1) w.4 w.2
      (subst (λ t. Appends written written' t) (e ∙ w.3) a) f

-- ---- why a session ends early

pub by_memory : (why : Refusal) → why ≡ Memory → why ≡ BadUsers → ⊥
by_memory why e f = cc

pub by_input : (why : Refusal) → why ≡ InputFault → why ≡ BadUsers → ⊥
by_input why e f = cc

pub by_output_fault : OutputFault ≡ BadUsers → ⊥
by_output_fault e = cc

pub by_output : (why : Refusal) → (why ≡ OutputFault) ⊎ (why ≡ Memory) → why ≡ BadUsers → ⊥
by_output why d f = elim d [ inl e ↦ cc | inr e ↦ by_memory why e f ]

-- what may end it while it answers
pub own_memory : (why : Refusal) → why ≡ Memory → IsOwn why
own_memory why e = inr (inl e)

pub own_output : (why : Refusal) → (why ≡ OutputFault) ⊎ (why ≡ Memory) → IsOwn why
own_output why d = elim d [ inl e ↦ inl e | inr e ↦ own_memory why e ]

-- one fault is not another
pub memory_not_input : (old new : ℕ) (why : Refusal) → why ≡ Memory → MayBeFault InputFault old new why
memory_not_input old new why e f = cc

pub memory_not_output : (old new : ℕ) (why : Refusal) → why ≡ Memory → MayBeFault OutputFault old new why
memory_not_output old new why e f = cc

pub users_not_output : (old new : ℕ) (why : Refusal) → why ≡ BadUsers → MayBeFault OutputFault old new why
users_not_output old new why e f = cc

pub input_not_output : (old new : ℕ) (why : Refusal) → why ≡ InputFault → MayBeFault OutputFault old new why
input_not_output old new why e f = cc

pub own_not_input : (old new : ℕ) (why : Refusal) → IsOwn why → MayBeFault InputFault old new why
own_not_input old new why d f = elim d [
  | inl e ↦ cc
  | inr d' ↦ elim d' [
    | inl e ↦ cc
    | inr e ↦ cc
  ]
]

pub own_read : (why : Refusal) → IsOwn why → why ≡ InputFault → ⊥
own_read why d f = elim d [
  | inl e ↦ cc
  | inr d' ↦ elim d' [
    | inl e ↦ cc
    | inr e ↦ cc
  ]
]

-- what may come of showing what was written and then reading more
module _ (reader reader' writer writer' : ℕ) (why : Refusal) (fault : IsFault InputFault reader reader' why ⊎ IsFault OutputFault writer writer' why) where
  pub more_not_users : why ≡ BadUsers → ⊥
  more_not_users = elim fault [ inl i ↦ by_input why i.0 | inr o ↦ λ e. let bad : OutputFault ≡ BadUsers = sym o.0 ∙ e in cc ]

  pub more_errors : (why ≡ InputFault) ⊎ IsOwn why
  more_errors = elim fault [ inl i ↦ inl i.0 | inr o ↦ inr (own_output why (inl o.0)) ]

  pub more_input : MayBeFault InputFault reader reader' why
  more_input e = elim fault [ inl i ↦ i.1 | inr o ↦ absurd (own_read why (own_output why (inl o.0)) e) ]

  pub more_output : MayBeFault OutputFault writer writer' why
  more_output e = elim fault [ inl i ↦ let bad : InputFault ≡ OutputFault = sym i.0 ∙ e in cc | inr o ↦ o.1 ]

-- by another fact that says where the input is at its end
pub early-weakened : {mode : Mode} {A : Type 0} (L : A → LineRow → A → Type 0) (first now : A) (blank written : Option (List ℕ)) (input : List ℕ) (at_end at_end' : Type 0) (why : Refusal)
    → (at_end → at_end')
    → EndedEarly mode L first now blank written input at_end why → EndedEarly mode L first now blank written input at_end' why
early-weakened L first now blank written input at_end at_end' why f s = record {
  rows = s.rows;
  done = s.done;
  cut = λ more e. s.cut more (λ x. e (f x));
  talks = s.talks;
  chain = s.chain;
  count = s.count;
  text = s.text;
  users = s.users;
  told = s.told;
}

-- where nothing comes after an input, its lines are those of all that comes
lines-all : (input more : List ℕ) → more ≡ [] → lines_of input ≡ lines_of (input ++ more)
lines-all input more e = ap lines_of (sym (append-nil input) ∙ ap (λ t. input ++ t) (sym e))

-- ended in the last line, which lacks its newline
pub early-closed : {mode : Mode} {A : Type 0} (L : A → LineRow → A → Type 0) (first now : A) (blank written : Option (List ℕ)) (input : List ℕ) (why : Refusal)
    → lines_of (input ++ 10 ∷ []) ≡ lines_of input
    → EndedEarly mode L first now blank written (input ++ 10 ∷ []) ⊥ why → EndedEarly mode L first now blank written input (Unit {0}) why
early-closed L first now blank written input why same s = record {
  rows = s.rows;
  done = s.done;
  cut = λ more e. subst (IsPrefix s.done) (sym (lines-all (input ++ 10 ∷ []) [] refl) ∙ same ∙ lines-all input more (e tt)) (s.cut [] (λ b. absurd b));
  talks = s.talks;
  chain = s.chain;
  count = s.count;
  text = s.text;
  users = s.users;
  told = s.told;
}

-- then the text was flushed
pub early-flushed : {mode : Mode} {A : Type 0} (L : A → LineRow → A → Type 0) (first now : A) (blank written written' : Option (List ℕ)) (input : List ℕ) (at_end : Type 0) (why : Refusal)
    → EndedEarly mode L first now blank written input at_end why → Appends written written' [] → EndedEarly mode L first now blank written' input at_end why
early-flushed L first now blank written written' input at_end why s k = record {
  rows = s.rows;
  done = s.done;
  cut = s.cut;
  talks = s.talks;
  chain = s.chain;
  count = s.count;
  text = appends-flushed blank written written' (take s.count (text_from 1 s.rows)) s.text k;
  users = s.users;
  told = s.told;
}

-- want of memory is told as another fault
pub early-other : {mode : Mode} {A : Type 0} (L : A → LineRow → A → Type 0) (first now : A) (blank written : Option (List ℕ)) (input : List ℕ) (at_end : Type 0) (other : Refusal)
    → (other ≡ BadUsers → ⊥) → EndedEarly mode L first now blank written input at_end Memory → EndedEarly mode L first now blank written input at_end other
early-other L first now blank written input at_end other own s = record {
  rows = s.rows;
  done = s.done;
  cut = s.cut;
  talks = s.talks;
  chain = s.chain;
  count = s.count;
  text = s.text;
  users = λ e. absurd (own e);
  told = λ h. absurd (by_memory Memory refl (s.told h));
}

pub finished-flushed : {mode : Mode} {A : Type 0} (L : A → LineRow → A → Type 0) (first now : A) (blank written written' : Option (List ℕ)) (all : List (List ℕ))
    → Finished mode L first now blank written all
    → Appends written written' [] → Finished mode L first now blank written' all
finished-flushed L first now blank written written' all f k = record {
  rows = f.rows;
  talks = f.talks;
  going = f.going;
  chain = f.chain;
  text = appends-flushed blank written written' (text_from 1 f.rows) f.text k;
}

-- all was written, and the flush failed
pub not-shown : {mode : Mode} {A : Type 0} (L : A → LineRow → A → Type 0) (first now : A) (blank written written' start end : Option (List ℕ)) (at_end : Type 0) (why : Refusal)
    (ended : Result (Unit {0}) Refusal)
    → (ended ≡ Ok tt) ⊎ (ended ≡ Err BadUsers)
    → OnOk ended ((input : List ℕ) × Consumes start end input × at_end × Finished mode L first now blank written (lines_of input))
    → IfErr ended (λ why. (input : List ℕ) × Consumes start end input × EndedEarly mode L first now blank written input at_end why)
    → why ≡ OutputFault → Appends written written' []
    → (input : List ℕ) × Consumes start end input
    × (EndedEarly mode L first now blank written' input at_end why ⊎ NotShown mode L first now blank written' input at_end why)
not-shown {mode} L first now blank written written' start end at_end why (Ok u) how ok err is k =
    (ok.0, ok.1, inr (is, inl (ok.2, finished-flushed L first now blank written written' (lines_of ok.0) ok.3 k)))
not-shown {mode} L first now blank written written' start end at_end why (Err fault) (inl bad) ok err is k = let no : Err fault ≡ Ok tt = bad in cc
not-shown {mode} L first now blank written written' start end at_end why (Err fault) (inr how) ok err is k =
    let same : fault ≡ BadUsers = cc in
    (err.0, err.1, inr (is, inr (early-flushed L first now blank written written' err.0 at_end BadUsers (subst (λ w. EndedEarly mode L first now blank written err.0 at_end w) same err.2) k)))

-- ---- ends by the writer's count

pub counted-ok : (r e : Result (Unit {0}) Refusal) (P : Type 0) → OnOk r (e ≡ Ok tt) → OnOk e P → OnOk r P
counted-ok (Ok u) e P is p = rw is at p
counted-ok (Err why) e P is p = tt

pub counted-err : (r e : Result (Unit {0}) Refusal) (old new : ℕ) (Q : Refusal → Type 0)
    → IfErr r (λ why. (e ≡ Err why) ⊎ ((e ≡ Err Memory) × IsFault OutputFault old new why)) → IfErr e Q → (Q Memory → Q OutputFault) → IfErr r Q
counted-err (Ok u) e old new Q is q f = tt
counted-err (Err why) e old new Q (inl same) q f = rw same at q
counted-err (Err why) e old new Q (inr other) q f = subst Q (sym other.1.0) (f (rw other.0 at q))

pub counted-output : (r e : Result (Unit {0}) Refusal) (old new : ℕ)
    → IfErr r (λ why. (e ≡ Err why) ⊎ ((e ≡ Err Memory) × IsFault OutputFault old new why)) → IfErr e (MayBeFault OutputFault old new)
    → IfErr r (MayBeFault OutputFault old new)
counted-output (Ok u) e old new is q = tt
counted-output (Err why) e old new (inl same) q = rw same at q
counted-output (Err why) e old new (inr other) q = λ _. other.1.1

-- ---- one piece after another

module _ {A : Type 0} (L : A → LineRow → A → Type 0) where
  -- nothing more was read
  pub goes-nowhere : (now next : A) (written written' : Option (List ℕ)) (seen seen' : Seen) (held held' bytes : List ℕ)
      → GoesOn L now next written written' seen seen' held held' bytes → GoesOn L now next written written' seen seen' held held' (bytes ++ [])
  goes-nowhere now next written written' seen seen' held held' bytes goes =
      subst (GoesOn L now next written written' seen seen' held held') (sym (append-nil bytes)) goes

  -- what was written is flushed
  pub goes-flushed : (now next : A) (written between written' : Option (List ℕ)) (seen seen' : Seen) (held held' bytes : List ℕ)
      → GoesOn L now next written between seen seen' held held' bytes → Appends between written' []
      → GoesOn L now next written written' seen seen' held held' bytes
  goes-flushed now next written between written' seen seen' held held' bytes goes kept mode first blank input p =
      progress-flushed L first blank next between written' (input ++ bytes) seen' held' (goes mode first blank input p) kept

  -- from there on it goes over a piece
  pub goes-further : (now mid next : A) (written between written' : Option (List ℕ)) (seen half seen' : Seen) (held part held' bytes input piece : List ℕ)
      → GoesOn L now mid written between seen half held part (bytes ++ input) → GoesOn L mid next between written' half seen' part held' piece
      → GoesOn L now next written written' seen seen' held held' (bytes ++ (input ++ piece))
  goes-further now mid next written between written' seen half seen' held part held' bytes input piece one two mode first blank front p =
      subst (λ t. Progress mode L first next blank written' t seen' held')
      (append_assoc front (bytes ++ input) piece ∙ ap (λ t. front ++ t) (append_assoc bytes input piece))
      (two mode first blank (front ++ (bytes ++ input)) (one mode first blank front p))

  -- or ends in it
  pub ends-further : (now mid next : A) (written between written' : Option (List ℕ)) (seen half : Seen) (held part bytes input piece : List ℕ) (at_end : Type 0)
      (why : Refusal)
      → GoesOn L now mid written between seen half held part (bytes ++ input) → EndsIn L mid next between written' half part piece why
      → EndsBehind L now next written written' seen held (bytes ++ (input ++ piece)) at_end why
  ends-further now mid next written between written' seen half held part bytes input piece at_end why one two mode first blank front p =
      early-weakened L first next blank written' (front ++ (bytes ++ (input ++ piece))) ⊥ at_end why (λ b. absurd b)
      (subst (λ t. EndedEarly mode L first next blank written' t ⊥ why)
      (append_assoc front (bytes ++ input) piece ∙ ap (λ t. front ++ t) (append_assoc bytes input piece))
      (two mode first blank (front ++ (bytes ++ input)) (one mode first blank front p)))
