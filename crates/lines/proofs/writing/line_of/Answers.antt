use Rattle.std.proofs.Common.{◌≡◌, ◌++◌, ◌∙◌, ℕ, List, length, sym, ap, arith}
use Rattle.events.specs.Terms.{event_of}
use Rattle.lines.specs.Writing.{event_text}
use Rattle.lines.proofs.RowLemmas.{read_as, line_is_printable}
use Rattle.lines.proofs.writing.line_of.Goals as goal

pub returns-then-len-le-LONGEST_LINE-clause-read : goal.returns-then-len-le-LONGEST_LINE-clause-read
returns-then-len-le-LONGEST_LINE-clause-read c =
    let e = event_of c.args.event.now in
    let text : c.add_event.new.text.items ≡ event_text e = c.in_ok-add_event.ensures ∙ ap (λ (l : List ℕ). l ++ event_text e) c.new-line.ensures.items in
    read_as e c.add_event.new.text.items c.sound.ensures (record {
      is = text;
      acts = sym c.may_act.ensures ∙ c.if-not-may_act.false;
      may = sym c.may_stand.ensures ∙ c.if-not-may_stand.false;
      fits = omega (arith, c.if-len-le-LONGEST_LINE.true, c.len.ensures, ap length text);
    })

pub returns-then-len-le-LONGEST_LINE-clause-printable : goal.returns-then-len-le-LONGEST_LINE-clause-printable
returns-then-len-le-LONGEST_LINE-clause-printable c =
    let e = event_of c.args.event.now in
    let text : c.add_event.new.text.items ≡ event_text e = c.in_ok-add_event.ensures ∙ ap (λ (l : List ℕ). l ++ event_text e) c.new-line.ensures.items in
    line_is_printable e c.add_event.new.text.items c.sound.ensures (record {
      is = text;
      acts = sym c.may_act.ensures ∙ c.if-not-may_act.false;
      may = sym c.may_stand.ensures ∙ c.if-not-may_stand.false;
      fits = omega (arith, c.if-len-le-LONGEST_LINE.true, c.len.ensures, ap length text);
    })
