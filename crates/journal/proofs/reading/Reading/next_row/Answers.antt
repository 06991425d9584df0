use Rattle.std.proofs.Common.{◌≡◌, ◌<◌, ◌≤◌, ℕ, ◌+◌, List, length, take, drop, Option, Some, None, Vec, refl, sym, ◌∙◌, ap, subst, arith}
use Rattle.std.specs.Prelude.{MatchOption}
use Rattle.std.specs.declared.alloc.Global.{Global}
use Rattle.std.proofs.lemmas.Bool.Decides.{nat_tests}
use Rattle.model.specs.Lines.{cut_at}
use Rattle.journal.specs.LogFile.{Only, NoMore}
use Rattle.journal.specs.Rows.{rows_in, rows_text}
use Rattle.journal.specs.Pieces.{rest_of}
use Rattle.journal.proofs.ReadingLemmas.{no_row-none, no_row-shut, no_row-begun, Next, next_row, read_on}
use Rattle.journal.proofs.reading.Reading.next_row.Goals as goal

-- what is cut, by the line that was read
abbrev Line : Type 0
Line = Option (Vec ℕ Global)

abbrev IsLine : List ℕ → List ℕ → Line → Type 0
IsLine rest more line = MatchOption line (cut_at 10 rest ≡ None) (λ l. cut_at 10 rest ≡ Some (l.items, more))

none_read : (rest more : List ℕ) (line : Line) → line ≡ None → IsLine rest more line → cut_at 10 rest ≡ None
none_read rest more line is cut = subst (IsLine rest more) is cut

line_read : (rest more : List ℕ) (line : Line) (l : Vec ℕ Global) → line ≡ Some l → IsLine rest more line → cut_at 10 rest ≡ Some (l.items, more)
line_read rest more line l is cut = subst (IsLine rest more) is cut

place_read : (line : Line) (l : Vec ℕ Global) (later place : ℕ) → line ≡ Some l
    → MatchOption line (Unit {0}) (λ l. later ≡ place + length l.items + 1) → later ≡ place + length l.items + 1
place_read line l later place is ends = subst (λ (o : Line). MatchOption o (Unit {0}) (λ l. later ≡ place + length l.items + 1)) is ends

-- what is left, by the place that was reached in it
left_is : (old new : List ℕ) (place end : ℕ) → new ≡ old → place ≡ end → drop end new ≡ drop place old
left_is old new place end same is = ap (λ (s : List ℕ). drop end s) same ∙ ap (λ (n : ℕ). drop n old) (sym is)

on_disk : (old new : List ℕ) (before now : List ℕ → Type 0) → Only old before → new ≡ old → NoMore before now → Only new now
on_disk old new before now durable same no_more = λ c left. durable c (no_more c left) ∙ sym same

pub returns-in_default-clause-row : goal.returns-in_default-clause-row
returns-in_default-clause-row g c = λ h.
    let seen = g.D.LogFile.seen in
    let old = c.args.self.now in
    let at = c.requires (c.in_ok-gate.ensures.honest h) in
    let rest = rest_of seen old.pieces in
    ap rows_in (left_is (seen old.pieces.file) (seen c.line.new.self.file) old.pieces.window.place old.end c.line.ensures.file.same at.place)
    ∙ no_row-none rest (none_read rest (rest_of seen c.line.new.self) c.in_ok-gate.field-0 c.in_default.is (c.in_ok-gate.ensures.line h))

pub returns-then-not-is_empty-clause-row : goal.returns-then-not-is_empty-clause-row
returns-then-not-is_empty-clause-row g c = λ h.
    let seen = g.D.LogFile.seen in
    let old = c.args.self.now in
    let at = c.requires (c.in_ok-gate.ensures.honest h) in
    let gate = c.in-Some.gate in
    let rest = rest_of seen old.pieces in
    let behind = rest_of seen c.line.new.self in
    let some : 0 < length gate.items = grind (arith, nat_tests, c.is_empty.ensures, c.if-not-is_empty.true, gate.ok) in
    ap rows_in (left_is (seen old.pieces.file) (seen c.line.new.self.file) old.pieces.window.place old.end c.line.ensures.file.same at.place)
    ∙ no_row-shut rest gate.items behind (line_read rest behind c.in_ok-gate.field-0 gate c.in-Some.is (c.in_ok-gate.ensures.line h)) some

pub returns-in_default-2-clause-row : goal.returns-in_default-2-clause-row
returns-in_default-2-clause-row g c = λ h2.
    let h1 = c.in_ok-row.ensures.honest h2 in
    let seen = g.D.LogFile.seen in
    let old = c.args.self.now in
    let at = c.requires (c.in_ok-gate.ensures.honest h1) in
    let gate = c.in-Some.gate in
    let rest = rest_of seen old.pieces in
    let behind = rest_of seen c.line.new.self in
    let none : length gate.items ≡ 0 = grind (arith, nat_tests, c.is_empty.ensures, c.if-not-is_empty.false, gate.ok) in
    ap rows_in (left_is (seen old.pieces.file) (seen c.line-2.new.self.file) old.pieces.window.place old.end (c.line-2.ensures.file.same
    ∙ c.line.ensures.file.same) at.place)
    ∙ no_row-begun rest gate.items behind (line_read rest behind c.in_ok-gate.field-0 gate c.in-Some.is (c.in_ok-gate.ensures.line h1)) none
    (none_read behind (rest_of seen c.line-2.new.self) c.in_ok-row.field-0 c.in_default-2.is (c.in_ok-row.ensures.line h2))

pub returns-clause-row : goal.returns-clause-row
returns-clause-row g c = λ h2.
    let h1 = c.in_ok-row.ensures.honest h2 in
    let seen = g.D.LogFile.seen in
    let old = c.args.self.now in
    let new = c.line-2.new.self in
    let file = seen old.pieces.file in
    let at = c.requires (c.in_ok-gate.ensures.honest h1) in
    let gate = c.in-Some.gate in
    let row = c.in-Some-2.row in
    let rest = rest_of seen old.pieces in
    let behind = rest_of seen c.line.new.self in
    let more = rest_of seen new in
    let same = c.line-2.ensures.file.same ∙ c.line.ensures.file.same in
    let none : length gate.items ≡ 0 = grind (arith, nat_tests, c.is_empty.ensures, c.if-not-is_empty.false, gate.ok) in
    let next = next_row rest gate.items behind row.items more (line_read rest behind c.in_ok-gate.field-0 gate c.in-Some.is (c.in_ok-gate.ensures.line h1)) none
    (line_read behind more c.in_ok-row.field-0 row c.in-Some-2.is (c.in_ok-row.ensures.line h2)) in
    let ends : new.window.place ≡ old.end + length row.items + 2 =
    omega (
      arith,
      none,
      at.place,
      place_read c.in_ok-gate.field-0 gate _ _ c.in-Some.is c.in_ok-gate.ensures.place,
      place_read c.in_ok-row.field-0 row _ _ c.in-Some-2.is c.in_ok-row.ensures.place,
    ) in
    let begins : rest ≡ drop old.end file = ap (λ (n : ℕ). drop n file) at.place in
    let read = read_on file old.end new.window.place row.items more at.has_read.front at.has_read.within
    (subst (λ (l : List ℕ). Next l row.items more) begins next) ends in (
      ap rows_in (sym begins) ∙ next.rows,
      ap (λ (s : List ℕ). rows_in (take new.window.place s)) same ∙ read.rows,
      record {
        has_read = record {
          front = subst (λ (s : List ℕ). take new.window.place s ≡ rows_text (rows_in (take new.window.place s))) (sym same) read.front;
          within = subst (λ (s : List ℕ). new.window.place ≤ length s) (sym same) read.within;
          durable = on_disk file (seen new.file) _ _ at.has_read.durable same (λ f left. c.line.ensures.file.crash f (c.line-2.ensures.file.crash f left));
        };
        place = refl;
        ahead = c.in_ok-row.ensures.ahead h2;
      },
    )

pub returns-clause-has_read : goal.returns-clause-has_read
returns-clause-has_read g c = λ h2. (returns-clause-row g c h2).2.has_read
