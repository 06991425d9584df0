use Rattle.std.proofs.Common.{rules, ◌≡◌, ◌++◌, codes}
use Rattle.aterm.specs.Writing.{between}
use Rattle.aterm.proofs.ListTexts.{last_write, list_next, list_ends}
use Rattle.aterm.proofs.write.put_paths.Goals as goal

pub loop-path-preserved : goal.loop-path-preserved
loop-path-preserved c =
    let f = between c.args.opening.now c.args.closing.now in
    let written : c.put_member.new.out.items ≡ c.loop-path.out.items ++ c.loop-path.separator.now ++ f c.path-item.result = search rules in
    list_next f c.args.paths.now c.loop-path.path-index c.path-item.result _ _ c.loop-path.separator.now _
    c.loop-path-test.true c.path-item.is written c.loop-path.invariant

pub returns : goal.returns
returns c =
    let f = between c.args.opening.now c.args.closing.now in
    last_write c.extend_from_slice-2.result c.loop-path.out.items (codes "]") c.extend_from_slice-2.new.self.items _ c.extend_from_slice-2.ensures.items
    (list_ends f c.args.paths.now c.loop-path.path-index _ _ _ c.loop-path.separator.now
    c.loop-path-test.false c.in_ok-extend_from_slice.ensures.items c.loop-path.invariant)
