use Rattle.teams.proofs.waiting.do_task.Goals as goal

pub returns-in-Build-clause-met : goal.returns-in-Build-clause-met
returns-in-Build-clause-met g c = g.met.S.Meet.met_none c.args.store.now
