use Rattle.std.proofs.Common.{◌≡◌, ◌++◌, [], map, drop}
use Rattle.model.specs.Derivations.{listed, variable_text}
use Rattle.aterm.proofs.write.put_variables.Given as goal

abbrev pub invariant-loop-key : goal.invariant-loop-key
invariant-loop-key l =
    l.out.items ++ listed l.separator (map variable_text (drop l.key-index l.environment))
    ≡ l.initial.out.items ++ listed [] (map variable_text l.environment)
