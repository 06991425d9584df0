use Rattle.std.proofs.Common.{rules, arith}
use Rattle.jobs.proofs.PlaceLemmas.{found_there, not_there_at_all}
use Rattle.jobs.proofs.ascending.place_of.Goals as goal
use Rattle.jobs.proofs.ascending.place_of.Goals.{else-place-list-via-then-place-list+else-list-place, else-place-list-via-else-place-list}

pub returns-then-list-place : goal.returns-then-list-place
returns-then-list-place c =
    found_there c.args.number c.place_from-place.result c.args.list.now c.place_from-place.ensures c.if-place-list.true (search rules)

pub returns-else-place-list : goal.returns-else-place-list
returns-else-place-list c =
    not_there_at_all c.args.number c.place_from-place.result c.args.list.now c.requires c.place_from-place.ensures
    (elim c.else-place-list.branch [
      | else-place-list-via-then-place-list+else-list-place w ↦ λ below. w.if-list-place.false
      | else-place-list-via-else-place-list w ↦ λ below. (let past = w.if-place-list.false in absurd (omega (arith, below, past)))
    ])
