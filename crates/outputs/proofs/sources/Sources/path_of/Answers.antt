use Rattle.std.proofs.lemmas.List.Elements.{Contains-push}
use Rattle.outputs.proofs.sources.Sources.path_of.Goals as goal

pub returns-clause-kept : goal.returns-clause-kept
returns-clause-kept c =
    let made = c.in_ok-made.made in
    record {
      one = made;
      among = rw c.in_ok-push.ensures.items (Contains-push c.args.self.now.placed.items made);
      name_is = c.in_ok-made.ensures.name;
      tree_is = c.in_ok-made.ensures.tree;
    }
