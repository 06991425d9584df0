use Rattle.std.proofs.Common.{rules, refl, [], ◌∷◌}
use Rattle.builder.specs.Outputs.{bytes_of}
use Rattle.builder.specs.Working.{asking, ending as ending_of}
use Rattle.builder.proofs.WorkLemmas.{ends_one}
use Rattle.builder.proofs.tasks.end.Goals as goal

pub returns : goal.returns
returns g c = (
  (asking c.args.leader c.in-Ok.request, c.call-reply.result) ∷ [],
  ends_one g.S.Store.called c.args.leader (ending_of c.args.number (bytes_of c.args.given)) c.args.leader c.in-Ok.request c.call-reply.result c.args.store.now c.call-reply.new.self c.met_by.result
      (search rules) refl c.call-reply.ensures c.met_by.ensures,
)
