use Rattle.std.proofs.Common.{arith, true}
use Rattle.teams.proofs.WaitLemmas.{among_item, puts_none, puts_one}
use Rattle.teams.proofs.builders.put_ticket.Goals as goal

pub returns-then-put_one : goal.returns-then-put_one
returns-then-put_one g c =
    let goals = c.args.goals.now in
    let inside = c.if-place-goals.false in
    puts_one goals c.index-goals-place.result c.put_one.result c.args.queue.now c.args.queue.now c.put_one.new.queue
    (among_item goals c.in-Some.place c.index-goals-place.result (omega (arith, inside)) c.index-goals-place.is)
    (puts_none goals c.args.queue.now) c.put_one.ensures.put c.put_one.ensures.none
