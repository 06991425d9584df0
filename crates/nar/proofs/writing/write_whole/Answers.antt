use Rattle.std.proofs.Common.{rules, ◌++◌, take}
use Rattle.nar.proofs.WritingLemmas.{appends-more, appends-none, on_err, text-step, front-written}
use Rattle.nar.proofs.writing.write_whole.Goals as goal

pub loop-preserved : goal.loop-preserved
loop-preserved g c =
    let i = c.loop.invariant in
    let n = c.in_ok-n.n in (
      i.0 ++ take n c.loop.rest.now,
      rw c.split_at.ensures.back (text-step c.args.text.now i.0 c.loop.rest.now n i.1),
      appends-more _ _ _ _ _ i.2 c.in_ok-n.ensures.ok.1,
    )

pub returns-in_err-n-clause-err : goal.returns-in_err-n-clause-err
returns-in_err-n-clause-err g c =
    let i = c.loop.invariant in
    on_err _ (front-written _ _ _ _ i.0 _ i.1 (search rules) i.2 c.in_err-n.ensures.err)

pub returns-clause-err : goal.returns-clause-err
returns-clause-err g c =
    let i = c.loop.invariant in
    front-written _ _ _ _ i.0 _ i.1 (search rules) i.2 (appends-none _)
