use Rattle.std.proofs.Common.{◌≡◌, ◌+◌, ◌++◌, ℕ, List, length, take, drop, Some, None, sym, ◌∙◌, ap, subst, arith, length-append}
use Rattle.std.proofs.lemmas.List.{drop-drop}
use Rattle.model.specs.Lines.{cut_at}
use Rattle.journal.specs.Windows.{at_hand}
use Rattle.journal.specs.Pieces.{rest_of}
use Rattle.journal.proofs.LineLemmas.{behind, taken_line, line_fits, line_goes_on, ahead_after}
use Rattle.journal.proofs.Moments.{reads_join}
use Rattle.journal.proofs.pieces.Pieces.line.Goals as goal

pub take-requires : goal.take-requires
take-requires g c =
    let cut = subst (λ (s : List ℕ). cut_at 10 s ≡ Some (c.in-Some.last.now, c.in-Some.field-0-1.now)) c.at_hand-ahead.ensures c.in-Some.ensures in
    line_fits (at_hand c.fill.new.self.window) c.in-Some.last.now c.in-Some.field-0-1.now cut

-- the rest of a file behind some more bytes
rest_after : (place later n : ℕ) (file : List ℕ) → later ≡ place + n → drop later file ≡ drop n (drop place file)
rest_after place later n file is = ap (λ (m : ℕ). drop m file) is ∙ sym (drop-drop n place file)

-- the rest of a file that was read
rest_same : (place later : ℕ) (file read : List ℕ) → later ≡ place → read ≡ file → drop later read ≡ drop place file
rest_same place later file read is same = ap (λ (m : ℕ). drop m read) is ∙ ap (λ (l : List ℕ). drop place l) same

pub returns-in-Some-clause-line : goal.returns-in-Some-clause-line
returns-in-Some-clause-line g c = λ h.
    let inv = c.loop-line.invariant in
    let seen = g.D.LogFile.seen in
    let last = c.in-Some.last.now in
    let hand = at_hand c.fill.new.self.window in
    let rest = rest_of seen c.fill.new.self in
    let was = c.in_ok-fill.ensures.honest h in
    let cut = subst (λ (s : List ℕ). cut_at 10 s ≡ Some (last, c.in-Some.field-0-1.now)) c.at_hand-ahead.ensures c.in-Some.ensures in
    let found = taken_line hand rest last c.in-Some.field-0-1.now (c.in_ok-fill.ensures.ahead h (inv.ahead was)) cut in
    let same = rest_same c.loop-line.self.window.place c.fill.new.self.window.place (seen c.loop-line.self.file)
    (seen c.fill.new.self.file) c.fill.ensures.place c.fill.ensures.file.same in
    inv.cut was ∙ ap (λ (l : List ℕ). behind c.loop-line.line.items (cut_at 10 l)) (sym same) ∙ ap (behind c.loop-line.line.items) found
    ∙ ap (λ (l : List ℕ). Some (l, drop (length last + 1) rest)) (sym c.in_ok-extend_from_slice-in-Some.ensures.items)
    ∙ ap (λ (l : List ℕ). Some (c.extend_from_slice.new.self.items, l))
    (sym (rest_after c.fill.new.self.window.place c.take.new.self.place (length last + 1) (seen c.fill.new.self.file) c.take.ensures.place))

pub returns-in-Some-clause-ahead : goal.returns-in-Some-clause-ahead
returns-in-Some-clause-ahead g c = λ h.
    let seen = g.D.LogFile.seen in
    let hand = at_hand c.fill.new.self.window in
    let rest = rest_of seen c.fill.new.self in
    let n = length c.in-Some.last.now + 1 in
    let ahead = ahead_after n hand rest (c.in_ok-fill.ensures.ahead h (c.loop-line.invariant.ahead (c.in_ok-fill.ensures.honest h))) in
    c.take.ensures.at_hand ∙ ahead ∙ ap (λ (l : List ℕ). take (length l) (drop n rest)) (sym c.take.ensures.at_hand)
    ∙ ap (λ (l : List ℕ). take (length (at_hand c.take.new.self)) l)
    (sym (rest_after c.fill.new.self.window.place c.take.new.self.place n (seen c.fill.new.self.file) c.take.ensures.place))

pub loop-line-preserved : goal.loop-line-preserved
loop-line-preserved g c =
    let inv = c.loop-line.invariant in
    let seen = g.D.LogFile.seen in
    let ahead_now = c.at_hand-ahead.result.now in
    let hand = at_hand c.fill.new.self.window in
    let n = length ahead_now in
    let place = c.fill.new.self.window.place in
    let rest = rest_of seen c.fill.new.self in
    let step = rest_after place c.take-in-loop-line.new.self.place n (seen c.fill.new.self.file) c.take-in-loop-line.ensures.place in
    let same = rest_same c.loop-line.self.window.place c.fill.new.self.window.place (seen c.loop-line.self.file)
    (seen c.fill.new.self.file) c.fill.ensures.place c.fill.ensures.file.same in
    let items = c.in_ok-extend_from_slice.ensures.items in
    record {
      honest = λ h. inv.honest (c.in_ok-fill.ensures.honest h);
      ahead = λ h.
          let ahead = ahead_after n hand rest (c.in_ok-fill.ensures.ahead h (inv.ahead (c.in_ok-fill.ensures.honest h))) in
          c.take-in-loop-line.ensures.at_hand ∙ ahead ∙ ap (λ (l : List ℕ). take (length l) (drop n rest)) (sym c.take-in-loop-line.ensures.at_hand)
          ∙ ap (λ (l : List ℕ). take (length (at_hand c.take-in-loop-line.new.self)) l) (sym step);
      cut = λ h.
          let was = c.in_ok-fill.ensures.honest h in
          let none = subst (λ (s : List ℕ). cut_at 10 s ≡ None) c.at_hand-ahead.ensures c.in-None.ensures in
          let so_far = inv.cut was ∙ ap (λ (l : List ℕ). behind c.loop-line.line.items (cut_at 10 l)) (sym same) in
          let on = line_goes_on hand rest c.loop-line.line.items (cut_at 10 (rest_of seen c.args.self.now))
          (c.in_ok-fill.ensures.ahead h (inv.ahead was)) none so_far in
          on ∙ ap (λ (l : List ℕ). behind (c.loop-line.line.items ++ l) (cut_at 10 (drop (length l) rest))) (sym c.at_hand-ahead.ensures)
          ∙ ap (λ (l : List ℕ). behind l (cut_at 10 (drop n rest))) (sym items)
          ∙ ap (λ (l : List ℕ). behind c.extend_from_slice-in-loop-line.new.self.items (cut_at 10 l)) (sym step);
      place = omega (
        arith,
        c.take-in-loop-line.ensures.place,
        c.fill.ensures.place,
        inv.place,
        ap length items,
        length-append c.loop-line.line.items ahead_now,
      );
      file = reads_join seen g.D.LogFile.may_leave g.D.LogFile.moment g.D.LogFile.left_since _ _ _ inv.file c.fill.ensures.file;
      later = omega (arith, inv.later, c.fill.ensures.later);
    }
