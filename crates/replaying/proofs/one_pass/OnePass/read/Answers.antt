use Rattle.replaying.proofs.OnlyPassLemmas.{only_read, only_unread}
use Rattle.replaying.proofs.one_pass.OnePass.read.Goals.{then-is_sure_of_all, else-is_sure_of_all}
use Rattle.replaying.proofs.one_pass.OnePass.read.Goals as goal

pub returns : goal.returns
returns g c = elim c.if-is_sure_of_all.branch [
  | then-is_sure_of_all w ↦
      rw (← c.self.view_is, w.result-is)
      (only_read _ c.self.inside.pass c.read-reply.new.self _ c.args.query c.read-reply.ensures.same c.read-reply.result c.read-reply.ensures.read
      c.read-reply.ensures.going
      (rw w.if-is_sure_of_all.true at c.is_sure_of_all.ensures))
  | else-is_sure_of_all w ↦ rw (← c.self.view_is, w.result-is) (only_unread _ c.self.inside.pass c.read-reply.new.self _ c.args.query c.read-reply.ensures.same)
]
