use Rattle.std.proofs.Common.{rules, arith}
use Rattle.nb.proofs.InputLemmas.{input_read, no_path, no_archive, shorter}
use Rattle.nb.proofs.inputs.paths_in.Goals as goal

pub returns-in_err-path : goal.returns-in_err-path
returns-in_err-path c =
    let none = no_path c.args.bytes.now c.loop-rest.paths.items c.loop-rest.rest.now (search rules) (search rules) c.loop-rest.invariant c.in_err-path.ensures.exact.1 in
    search rules

pub returns-in_err-_archive : goal.returns-in_err-_archive
returns-in_err-_archive c =
    let none = no_archive c.args.bytes.now c.loop-rest.paths.items c.loop-rest.rest.now c.in_ok-path.path.now c.in_ok-path.behind.now (search rules) (search rules) c.loop-rest.invariant c.in_ok-path.ensures.begins c.in_ok-path.ensures.exact c.in_err-_archive.ensures.exact.1 in
    search rules

pub loop-rest-smaller : goal.loop-rest-smaller
loop-rest-smaller c =
    omega (arith, shorter c.in_ok-path.path.now c.in_ok-path.behind.now c.loop-rest.rest.now c.in_ok-path.ensures.begins, shorter c.in_ok-_archive._archive.now c.in_ok-_archive.after.now c.in_ok-path.behind.now c.in_ok-_archive.ensures.begins)

pub loop-rest-preserved : goal.loop-rest-preserved
loop-rest-preserved c =
    rw (c.in_ok-push.ensures.items, c.in_ok-extend_from_slice.ensures.items)
    (input_read c.args.bytes.now c.loop-rest.paths.items c.loop-rest.rest.now c.in_ok-path.path.now c.in_ok-path.behind.now c.in_ok-_archive._archive.now c.in_ok-_archive.after.now (search rules) (search rules) c.loop-rest.invariant c.in_ok-path.ensures.begins c.in_ok-path.ensures.exact c.in_ok-_archive.ensures.begins c.in_ok-_archive.ensures.exact)
