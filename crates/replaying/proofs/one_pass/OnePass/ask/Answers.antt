use Rattle.std.proofs.Common.{sym, ◌∙◌}
use Rattle.std.proofs.lemmas.Bool.{true≢false}
use Rattle.replaying.proofs.OnlyPassLemmas.{IsCalled, only_answer}
use Rattle.replaying.proofs.one_pass.OnePass.ask.Goals.{else-is_unrecorded-via-then-is_unrecorded+else-not-self, else-is_unrecorded-via-else-is_unrecorded}
use Rattle.replaying.proofs.one_pass.OnePass.ask.Goals as goal

pub returns : goal.returns
returns g c =
    let called : IsCalled g.J.FrontId.setup c.self.inside.pass c.call-reply.new.pass c.args.event c.call-reply.result = record {
      answered = c.call-reply.ensures.called.answered;
      alone = λ some. c.call-reply.ensures.called.alone some c.self.invariant.0;
      memory = c.call-reply.ensures.called.memory;
      stopped = c.call-reply.ensures.called.stopped;
      remains = c.call-reply.ensures.remains;
    } in
    elim c.else-is_unrecorded.branch [
      | else-is_unrecorded-via-then-is_unrecorded+else-not-self w ↦
          rw (← c.self.view_is, w.self-is)
          (only_answer _ _ _ _ c.args.event c.call-reply.result called c.self.invariant.1 c.requires (λ gave. w.if-not-self.false))
      | else-is_unrecorded-via-else-is_unrecorded w ↦
          rw (← c.self.view_is, w.self-is)
          (only_answer _ _ _ _ c.args.event c.call-reply.result called c.self.invariant.1 c.requires
          (λ gave. absurd (true≢false (sym gave ∙ (sym c.is_unrecorded.ensures ∙ w.if-is_unrecorded.false)))))
    ]
