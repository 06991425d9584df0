use Rattle.std.proofs.Common.{rules, ◌≡◌, ◌<◌, length, arith, ap, refl, ◌∙◌, slice_index, true, false}
use Rattle.board.specs.Stages.{goal_at, hangs_on, is_under_way}
use Rattle.board.specs.Chains.{once_more}
use Rattle.board.proofs.ChainLemmas.{from_step, followed_step, begins_still}
use Rattle.board.proofs.goals.Goals.follow.Goals as goal

pub loop-next-preserved : goal.loop-next-preserved
loop-next-preserved c =
    let b = c.args.self.now in
    let p = slice_index c.places-next-items.result.now c.loop-next.next-index in
    let e : c.add.new.self.places ≡ once_more p c.loop-next.chain.places = ap (λ v. v.places) c.in_ok-add.ensures.added in
    let size : c.add.new.self.size ≡ length b.goals = ap (λ v. v.size) c.in_ok-add.ensures.added ∙ c.loop-next.invariant.size in
    let goals = ap (λ v. v.goals) c.self.view_is in
    let waiting = ap (λ v. v.waiting) c.self.view_is in
    let hangs : hangs_on (goal_at b.goals c.args.place) (goal_at b.goals p) ≡ true = search rules in
    let within : p < length b.goals = search rules in
    let rests : is_under_way b.waiting (goal_at b.goals p) ≡ false = search rules in
    record {
      size = size;
      from = rw e (from_step b.goals c.args.place p c.args.chain.now.places c.loop-next.chain.places (
        c.requires.place,
        within,
        hangs,
      ) c.loop-next.invariant.from);
      kept = rw e (begins_still p c.args.chain.now.places c.loop-next.chain.places c.loop-next.invariant.kept);
      all = rw e (followed_step b.goals b.waiting c.places-next-items.result.now c.loop-next.chain.places c.args.place
          p c.loop-next.next-index (omega arith) refl rests c.loop-next.invariant.all);
    }
