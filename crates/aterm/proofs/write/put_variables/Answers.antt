use Rattle.std.proofs.Common.{rules, ◌≡◌, ◌++◌, codes}
use Rattle.model.specs.Derivations.{variable_text}
use Rattle.aterm.proofs.ListTexts.{last_write, list_next, list_ends}
use Rattle.aterm.proofs.write.put_variables.Goals as goal

pub loop-key-preserved : goal.loop-key-preserved
loop-key-preserved c =
    let written : c.put_variable.new.out.items ≡ c.loop-key.out.items ++ c.loop-key.separator.now ++ variable_text c.loop-key-item.result = search rules in
    list_next variable_text c.args.environment.now c.loop-key.key-index c.loop-key-item.result _ _ c.loop-key.separator.now _
    c.loop-key-test.true c.loop-key-item.is written c.loop-key.invariant

pub returns : goal.returns
returns c =
    last_write c.extend_from_slice-2.result c.loop-key.out.items (codes "]") c.extend_from_slice-2.new.self.items _ c.extend_from_slice-2.ensures.items
    (list_ends variable_text c.args.environment.now c.loop-key.key-index _ _ _ c.loop-key.separator.now
    c.loop-key-test.false c.in_ok-extend_from_slice.ensures.items c.loop-key.invariant)
