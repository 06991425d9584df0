use Rattle.running.proofs.ToldLemmas.{told_read}
use Rattle.running.proofs.shared.read.Goals as goal

pub returns : goal.returns
returns g c =
    told_read g.J.FrontId.setup c.args.pass.now c.read-reply.new.self c.args.query c.read-reply.result c.read-reply.ensures.read c.read-reply.ensures.seen
    c.read-reply.ensures.same c.read-reply.ensures.going
    (record { seen = c.sure_rows_are_seen.ensures; rows = c.rows_are_counted.ensures })
    (record { seen = c.sure_rows_are_seen-2.ensures; rows = c.rows_are_counted-2.ensures })
