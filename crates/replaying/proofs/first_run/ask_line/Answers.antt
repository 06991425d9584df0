use Rattle.std.proofs.Common.{rules, sym, map}
use Rattle.events.specs.Terms.{event_of}
use Rattle.session.proofs.SessionLemmas.{row-gets}
use Rattle.replaying.proofs.RecordingLemmas.{link_at, his_at, bad_row}
use Rattle.replaying.proofs.first_run.ask_line.Goals as goal

pub returns-clause-asked : goal.returns-clause-asked
returns-clause-asked g c =
    let h = c.in_ok-answer.ensures.ok in
    let k = link_at c.args.recorder.now c.answer.new.answer g.J.FrontId.setup (λ r. r.store) (λ r. map event_of r.events.items) (λ r. r.has_lost)
    h.0 h.4 c.if-recorder.false in
    record {
      row = h.0;
      gets = rw c.as_slice.ensures.value at (row-gets c.args.session.now.goals _ c.in_ok-reading.reading h.0 c.in_ok-reading.ensures.read h.1);
      seen_is = h.2;
      going = sym c.if-is_refused.ensures;
      link = k.0;
      events_are = k.1;
      his_is =
          his_at c.args.user.now c.args.recorder.now.events.items c.answer.new.answer.events.items c.as_slice-2.result.now c.len-before.result h.0
          c.is_next_of-is_his.result c.as_slice-2.ensures.value (search rules) k.1 c.is_next_of-is_his.ensures;
      bad_is = bad_row c.args.session.now.goals c.in_ok-reading.reading h.0 _ h.1 c.is_bad-is_bad.ensures;
    }
