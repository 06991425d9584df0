use Rattle.std.proofs.Common.{◌∙◌, sym, ap, refl}
use Rattle.std.specs.Option.{option_copied}
use Rattle.rewrite.specs.Tables.{with_first}
use Rattle.resolving.proofs.ServedPathLemmas.{paths_put, paths_skip}
use Rattle.resolving.proofs.served.paths_by_class.Goals as goal
use Rattle.resolving.proofs.served.paths_by_class.Goals.{in-Some+in_ok-put_first, in_default}

pub loop-entry-preserved : goal.loop-entry-preserved
loop-entry-preserved c =
    let table = c.loop-entry.paths.entries in
    let e = c.entry-item.result in
    elim c.match-class.branch [
      | in-Some+in_ok-put_first w ↦
          let class = w.in-Some.class.now in
          rw w.paths-is (paths_put table w.put_first.new.paths.entries c.args.entries.now c.loop-entry.entry-index e class
          c.loop-entry-test.true c.entry-item.is
          (sym c.class.ensures ∙ ap option_copied w.in-Some.is)
          (w.in_ok-put_first.ensures ∙ ap (λ k. with_first table k w.path-in-Some.result.now) w.path.ensures
          ∙ ap (with_first table class.path) w.path-in-Some.ensures)
          c.loop-entry.invariant)
      | in_default w ↦
          rw w.paths-is (paths_skip table table c.args.entries.now c.loop-entry.entry-index e c.loop-entry-test.true c.entry-item.is
          (sym c.class.ensures ∙ ap option_copied w.in_default.is) refl c.loop-entry.invariant)
    ]
