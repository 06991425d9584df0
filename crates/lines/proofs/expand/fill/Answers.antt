use Rattle.std.proofs.Common.{◌∙◌, ap, sym, Some}
use Rattle.model.specs.Lines.{joined_texts, expanded_piece}
use Rattle.lines.proofs.FillLemmas.{fill-plain, fill-start, fill-step, fill-stop, fill-last, text-of_test, none-of_test}
use Rattle.lines.proofs.expand.fill.Goals as goal

pub returns-in_default : goal.returns-in_default
returns-in_default c = ap Some c.in_ok-from_slice.ensures.items ∙ sym (fill-plain c.args.told.now c.args.line.now c.in_default.ensures.parts)

pub loop-piece-init : goal.loop-piece-init
loop-piece-init c = rw c.in_ok-text.ensures.items (fill-start c.args.told.now c.args.line.now c.in-Some.first.now c.in-Some.pieces.now c.in-Some.ensures.parts)

pub returns-then-not-branch : goal.returns-then-not-branch
returns-then-not-branch c =
    let told = c.args.told.now in
    let old = c.loop-piece.text.items in
    let piece = c.in-Some-cut.piece.now in
    let none = none-of_test c.in_ok-add_piece.field-0 c.add_piece.new.text.items
    (joined_texts (Some old) (expanded_piece told piece)) c.if-not-branch.true c.in_ok-add_piece.ensures in
    fill-stop told old c.loop-piece.rest.now piece c.in-Some-cut.others.now c.in-Some-cut.ensures.parts none ∙ c.loop-piece.invariant

pub loop-piece-preserved : goal.loop-piece-preserved
loop-piece-preserved c =
    let told = c.args.told.now in
    let old = c.loop-piece.text.items in
    let new = c.add_piece.new.text.items in
    let piece = c.in-Some-cut.piece.now in
    let text = text-of_test c.in_ok-add_piece.field-0 new (joined_texts (Some old) (expanded_piece told piece)) c.if-not-branch.false c.in_ok-add_piece.ensures in
    fill-step told old new c.loop-piece.rest.now piece c.in-Some-cut.others.now c.in-Some-cut.ensures.parts text ∙ c.loop-piece.invariant

pub returns-then-branch : goal.returns-then-branch
returns-then-branch c =
    let told = c.args.told.now in
    let old = c.loop-piece.text.items in
    let rest = c.loop-piece.rest.now in
    text-of_test c.in_ok-add_piece-2.field-0 c.add_piece-2.new.text.items
    (joined_texts (Some old) (expanded_piece told rest)) c.if-branch.true c.in_ok-add_piece-2.ensures
    ∙ fill-last told old rest c.in_default-cut.ensures.parts ∙ c.loop-piece.invariant

pub returns-else-branch : goal.returns-else-branch
returns-else-branch c =
    let told = c.args.told.now in
    let old = c.loop-piece.text.items in
    let rest = c.loop-piece.rest.now in
    none-of_test c.in_ok-add_piece-2.field-0 c.add_piece-2.new.text.items
    (joined_texts (Some old) (expanded_piece told rest)) c.if-branch.false c.in_ok-add_piece-2.ensures
    ∙ fill-last told old rest c.in_default-cut.ensures.parts ∙ c.loop-piece.invariant
