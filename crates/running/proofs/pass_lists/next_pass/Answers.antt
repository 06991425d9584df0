use Rattle.running.proofs.ServedSessionLemmas.{first_last}
use Rattle.running.proofs.pass_lists.next_pass.Goals as goal

pub returns-in-Some-clause-pass : goal.returns-in-Some-clause-pass
returns-in-Some-clause-pass g c = (first_last c.args.passes.now.items c.pop.new.self.items c.in-Some.pass c.in-Some.ensures.items c.requires).1

pub returns-in-Some-clause-left : goal.returns-in-Some-clause-left
returns-in-Some-clause-left g c = (first_last c.args.passes.now.items c.pop.new.self.items c.in-Some.pass c.in-Some.ensures.items c.requires).2
