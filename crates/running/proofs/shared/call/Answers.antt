use Rattle.running.proofs.ToldLemmas.{told_called}
use Rattle.running.proofs.shared.call.Goals as goal

pub returns : goal.returns
returns g c =
    told_called g.J.FrontId.setup c.args.pass.now c.call-reply.new.pass c.args.event c.call-reply.result c.requires c.call-reply.ensures.called.answered
    c.call-reply.ensures.called.memory c.call-reply.ensures.called.stopped c.call-reply.ensures.remains c.call-reply.ensures.called.no_stop
    c.call-reply.ensures.called.seen
    (record { seen = c.sure_rows_are_seen.ensures; rows = c.rows_are_counted.ensures })
    (record { seen = c.sure_rows_are_seen-2.ensures; rows = c.rows_are_counted-2.ensures })
