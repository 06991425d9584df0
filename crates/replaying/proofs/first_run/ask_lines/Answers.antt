use Rattle.std.proofs.Common.{ap, map, subst}
use Rattle.model.specs.Lines.{lines_of}
use Rattle.events.specs.Terms.{event_of}
use Rattle.replaying.specs.Recording.{RunSoFar}
use Rattle.replaying.proofs.RecordingLemmas.{runs_on}
use Rattle.replaying.proofs.first_run.ask_lines.Goals as goal

pub loop-init : goal.loop-init
loop-init g c = (c.requires, λ user all rest known s. (rest, known, s))

pub returns-in_default-clause-out : goal.returns-in_default-clause-out
returns-in_default-clause-out g c = λ user all rest known s.
    let i = c.loop.invariant.1 user all rest known s in
    let none = rw c.in_default.is at (c.in_ok-line.ensures.line i.0 i.1) in
    subst (λ t. RunSoFar g.J.FrontId.setup user all t c.loop.notes c.loop.recorder.store (map event_of c.loop.recorder.events.items)) (ap lines_of none) i.2

pub loop-preserved : goal.loop-preserved
loop-preserved g c = (
  c.in_ok-ask_numbered.ensures.kept,
  λ user all rest known s.
      let i = c.loop.invariant.1 user all rest known s in
      let cut = rw c.in-Some.is at (c.in_ok-line.ensures.line i.0 i.1) in
      runs_on g.J.FrontId.setup user all i.0 c.in-Some.line.items _ _ _ _ _ _ _ cut i.2 c.in_ok-ask_numbered.ensures.asked,
)
