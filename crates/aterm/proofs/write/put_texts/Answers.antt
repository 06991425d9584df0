use Rattle.std.proofs.Common.{rules, ◌≡◌, ◌++◌, codes}
use Rattle.aterm.specs.Writing.{between}
use Rattle.aterm.proofs.ListTexts.{last_write, list_next, list_ends}
use Rattle.aterm.proofs.write.put_texts.Goals as goal

pub loop-text-preserved : goal.loop-text-preserved
loop-text-preserved c =
    let f = between c.args.opening.now c.args.closing.now in
    let written : c.put_member.new.out.items ≡ c.loop-text.out.items ++ c.loop-text.separator.now ++ f c.text-item.result = search rules in
    list_next f c.args.texts.now c.loop-text.text-index c.text-item.result _ _ c.loop-text.separator.now _
    c.loop-text-test.true c.text-item.is written c.loop-text.invariant

pub returns : goal.returns
returns c =
    let f = between c.args.opening.now c.args.closing.now in
    last_write c.extend_from_slice-2.result c.loop-text.out.items (codes "]") c.extend_from_slice-2.new.self.items _ c.extend_from_slice-2.ensures.items
    (list_ends f c.args.texts.now c.loop-text.text-index _ _ _ c.loop-text.separator.now
    c.loop-text-test.false c.in_ok-extend_from_slice.ensures.items c.loop-text.invariant)
