use Rattle.std.proofs.Common.{◌≡◌, ◌<◌, List, length, Some, inl, arith, refl, rules, sym, ◌∙◌, ap, subst}
use Rattle.std.specs.Prelude.{map}
use Rattle.std.specs.Option.{option_copied}
use Rattle.std.proofs.lemmas.Result.{err_from_is_err_and}
use Rattle.model.specs.Worlds.{Goal, Status}
use Rattle.model.specs.Goals.{goal_at}
use Rattle.handlers.specs.Parts.{goals_of}
use Rattle.events.specs.Statuses.{status_of}
use Rattle.trust.specs.Trusting.{trusts}
use Rattle.store.specs.Stored.{put_all, sources_of, AreThere}
use Rattle.endings.specs.DeskDeltas.{last_status, status_at}
use Rattle.endings.specs.Committing.{Delivered, trees_gained, statuses_for, statuses_delivered, AreToAdd}
use Rattle.endings.proofs.CommitLemmas.{statuses_there}
use Rattle.endings.proofs.AllBuiltLemmas.{only_memory}
use Rattle.endings.proofs.finishing.prepare.Goals as goal

pub returns-in_err-delivered : goal.returns-in_err-delivered
returns-in_err-delivered c =
    let p = err_from_is_err_and c.from_residual.result c.from_residual.ensures.1 in
    rw (p.1, p.2) (record { prepared = tt; refused = c.in_err-delivered.ensures.refused })

pub returns-in_err-gained_by_all : goal.returns-in_err-gained_by_all
returns-in_err-gained_by_all c =
    let p = err_from_is_err_and c.from_residual-in_err-gained_by_all.result c.from_residual-in_err-gained_by_all.ensures.1 in
    rw (p.1, p.2) (record { prepared = tt; refused = inl c.in_err-gained_by_all.ensures })

pub returns-in_err-trees-clause-refused : goal.returns-in_err-trees-clause-refused
returns-in_err-trees-clause-refused c =
    let p = err_from_is_err_and c.from_residual-in_err-trees.result c.from_residual-in_err-trees.ensures.1 in
    let are : c.in_ok-gained_by_all.field-0.items ≡ trees_gained c.in_ok-delivered.delivered.items =
    c.in_ok-gained_by_all.ensures ∙ ap trees_gained c.deref.ensures.value in
    rw (p.1, p.2) (inl (only_memory (trusts c.args.state.now.trust) c.args.end.leader c.args.state.now.limits.charge c.args.end.job.now
    c.args.state.now.desks.items c.args.state.now.jobs.goals
    c.args.state.now.table.sources (option_copied c.args.end.tree) c.in_ok-delivered.delivered.items c.in_ok-delivered.ensures.delivered c.in_err-trees.field-0.0
    c.in_ok-gained_by_all.field-0.items are c.in_err-trees.ensures.refused))

pub returns-in_err-additions : goal.returns-in_err-additions
returns-in_err-additions c =
    let p = err_from_is_err_and c.from_residual-in_err-additions.result c.from_residual-in_err-additions.ensures.1 in
    rw (p.1, p.2) (record { prepared = tt; refused = inl c.in_err-additions.ensures })

pub returns-in_err-told : goal.returns-in_err-told
returns-in_err-told c =
    let p = err_from_is_err_and c.from_residual-in_err-told.result c.from_residual-in_err-told.ensures.1 in
    rw (p.1, p.2) (record { prepared = tt; refused = inl refl })

pub returns-clause-prepared : goal.returns-clause-prepared
returns-clause-prepared c =
    let delivered : List Delivered = c.in_ok-delivered.delivered.items in
    let are : c.in_ok-gained_by_all.field-0.items ≡ trees_gained delivered = c.in_ok-gained_by_all.ensures ∙ ap trees_gained c.deref.ensures.value in
    let within : c.args.end.leader < length delivered = (let count = c.in_ok-delivered.ensures.count in let below = c.requires.of_run in
    let paired = c.args.state.now.run.paired in omega (arith, count, below, paired)) in
    record {
      made = c.in_ok-delivered.ensures.delivered;
      count = c.in_ok-delivered.ensures.count;
      additions = subst (λ (hs : List Delivered). AreToAdd hs c.in_ok-additions.additions.items) c.deref-2.ensures.value c.in_ok-additions.ensures;
      all = sym (ap (λ ts. put_all (sources_of ts) c.args.state.now.table.sources) are) ∙ c.in_ok-trees.ensures.all;
      new = c.in_ok-trees.ensures.new;
      there = subst (AreThere c.args.state.now.table.sources) are c.in_ok-trees.ensures.there;
      told = λ g is.
          let same : g ≡ c.unwrap-goal.result.now =
          (let some : option_copied c.get.result ≡ Some c.unwrap-goal.result.now = search rules in let own = sym is
          ∙ ap (λ k. goal_at k (goals_of c.args.state.now.jobs.goals c.args.end.leader)) (sym c.number-number.ensures) ∙ sym c.get.ensures ∙ some in cc) in
          let statuses : map status_at c.as_slice.result.now ≡ statuses_for delivered c.args.end.leader =
          ap (map status_at) c.as_slice.ensures.value ∙ ap (λ (h : Delivered). statuses_delivered h) c.index.ensures
          ∙ statuses_there delivered c.args.end.leader c.index.result.now within in
          let status : status_of c.status.result.now ≡ g.status = c.status.ensures ∙ ap (λ (x : Goal). x.status) (sym same) in
          c.in_ok-told.ensures ∙ ap (λ (s : Status). last_status c.number-number.result s (map status_at c.as_slice.result.now)) status
          ∙ ap (last_status c.number-number.result g.status) statuses
          ∙ ap (λ k. last_status k g.status (statuses_for delivered c.args.end.leader)) c.number-number.ensures;
    }
