use Rattle.std.proofs.Common.{arith}
use Rattle.repair.specs.Keeping.{size_of, same_key}
use Rattle.repair.proofs.KeepingLemmas.{put_counts}
use Rattle.repair.proofs.kept.Kept.keep.Goals as goal

pub overflow_sub-self : goal.overflow_sub-self
overflow_sub-self c =
    let kept = c.make_room.new.self in
    let valid = c.len-count.ensures.valid in
    let old = rw c.in-Ok-Some.field-0-is at c.in-Ok-Some.ensures.old in
    let put = put_counts size_of same_key kept.records c.push.new.self c.args.key c.args.made _ valid.1 valid.2 old c.in-Ok-Some.ensures.entries in
    omega (arith, put, kept.counted, c.size.ensures, c.size-size.ensures, c.if-size-from.false, c.from.ensures)

pub invariant_of-self : goal.invariant_of-self
invariant_of-self c =
    let kept = c.make_room.new.self in
    let valid = c.len-count.ensures.valid in
    let old = rw c.in-Ok-Some.field-0-is at c.in-Ok-Some.ensures.old in
    let put = put_counts size_of same_key kept.records c.push.new.self c.args.key c.args.made _ valid.1 valid.2 old c.in-Ok-Some.ensures.entries in
    record {
      counted = omega (arith, put, kept.counted, c.size.ensures, c.size-size.ensures, c.if-size-from.false, c.from.ensures);
      bounded = omega (arith, c.make_room.ensures.room);
    }

pub invariant_of-self-in-Ok-None : goal.invariant_of-self-in-Ok-None
invariant_of-self-in-Ok-None c =
    let kept = c.make_room.new.self in
    let valid = c.len-count.ensures.valid in
    let old = rw c.in-Ok-None.field-0-is at c.in-Ok-None.ensures.old in
    let put = put_counts size_of same_key kept.records c.push.new.self c.args.key c.args.made _ valid.1 valid.2 old c.in-Ok-None.ensures.entries in
    record {
      counted = omega (arith, put, kept.counted, c.size-size.ensures, c.if-size-from.false, c.from.ensures);
      bounded = omega (arith, c.make_room.ensures.room);
    }
