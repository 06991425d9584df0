use Rattle.std.proofs.Common.{rules, sym, subst}
use Rattle.std.specs.Prelude.{Contains}
use Rattle.std.proofs.lemmas.List.Elements.{Contains-get_or}
use Rattle.outputs.proofs.sources.found.Goals as goal

pub returns-in-Some-clause-has : goal.returns-in-Some-clause-has
returns-in-Some-clause-has c = record {
  one = c.one-item.result;
  among = subst (Contains c.args.placed.now) (sym c.one-item.is)
      (Contains-get_or c.args.placed.now c.loop-one.one-index c.one-item.result c.loop-one-test.true);
  name_is = search rules;
  tree_is = search rules;
}
