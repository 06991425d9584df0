use Rattle.std.proofs.Common.{ap}
use Rattle.std.proofs.lemmas.List.Elements.{Contains-push}
use Rattle.outputs.specs.declared.input.Input.{Input}
use Rattle.outputs.proofs.settlements.Settlements.settle.Goals as goal

pub returns-clause-kept : goal.returns-clause-kept
returns-clause-kept c =
    let made = c.in_ok-made.made in
    let same = c.in_ok-made.ensures.input in
    record {
      one = made;
      among = rw c.in_ok-push.ensures.items (Contains-push c.args.self.now.settled.items made);
      input_is = record {
        own = ap (λ (i : Input). i.own) same;
        paths = record { sources = ap (λ (i : Input). i.sources) same; others = ap (λ (i : Input). i.others.items) same };
        name = ap (λ (i : Input). i.name) same;
      };
      tree_is = c.in_ok-made.ensures.tree;
    }
