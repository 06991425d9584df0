use Rattle.std.proofs.Common.{◌≡◌, ◌++◌, [], map, drop}
use Rattle.model.specs.Derivations.{listed}
use Rattle.aterm.specs.Writing.{between}
use Rattle.aterm.proofs.write.put_texts.Given as goal

abbrev pub invariant-loop-text : goal.invariant-loop-text
invariant-loop-text l =
    l.out.items ++ listed l.separator (map (between l.opening l.closing) (drop l.text-index l.texts))
    ≡ l.initial.out.items ++ listed [] (map (between l.opening l.closing) l.texts)
