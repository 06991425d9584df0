use Rattle.std.proofs.Common.{ℕ, List, [], ◌++◌, subst, sym, append-nil}
use Rattle.model.specs.Archives.{nar}
use Rattle.hashmod.specs.Hashing.{HasTaken}
use Rattle.nar.proofs.digest.nar_digest.Goals as goal

pub returns-clause-digest : goal.returns-clause-digest
returns-clause-digest c =
    let empty = c.new-hasher.result in
    let none : (m : List ℕ) → HasTaken empty m → HasTaken empty (m ++ []) = λ m holds. subst (HasTaken empty) (sym (append-nil m)) holds in
    c.finish.ensures (nar c.args.tree.now) (c.hand_archive.ensures.archive empty [] none [] c.new-hasher.ensures)
