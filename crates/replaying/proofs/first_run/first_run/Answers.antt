use Rattle.std.proofs.Common.{◌≡◌, rules, refl, true, sym, ap, ◌∙◌, subst, List, [], ℕ, map}
use Rattle.std.specs.List.{each_same}
use Rattle.model.specs.Lines.{lines_of}
use Rattle.model.specs.Worlds.{Setup}
use Rattle.events.specs.Terms.{event_of}
use Rattle.schedule.specs.Standing.{setup_of}
use Rattle.replaying.specs.Recording.{RunSoFar}
use Rattle.replaying.proofs.RecordingLemmas.{run_begins, first_of}
use Rattle.model.specs.Worlds.{are_users}
use Rattle.session.proofs.RowLemmas.{err-is}
use Rattle.replaying.proofs.UnnamedLemmas.{by_others, by_store, names_others, named_well}
use Rattle.replaying.proofs.first_run.first_run.Goals as goal

pub returns-clause-run : goal.returns-clause-run
returns-clause-run g c = λ all known.
    let n = c.in_ok-named.ensures.named all known in
    let user = rw c.as_slice.ensures.value at c.in_ok-user.ensures.user in
    let users = c.in_ok-named.named.users.items in
    let same : c.in_ok-copied.copied.items ≡ users = each_same users c.in_ok-copied.copied.items c.in_ok-copied.ensures.cases.0 in
    let setup : Setup = record { users = users; charge = c.args.settings.limits.charge } in
    let setup_is : setup_of c.in_ok-core.core ≡ setup =
    c.in_ok-core.ensures.setup ∙ ap (λ (u : List (List ℕ)). record { users = u; charge = c.args.settings.limits.charge }) same in
    let begins =
    run_begins (setup_of c.in_ok-core.core) c.args.name.now (lines_of all) (lines_of n.rest) users _ _ _ (ap (λ (s : Setup). s.users) setup_is)
    n.begins refl refl (search rules) user.0 in
    let out = c.in_ok-events.ensures.asked c.args.name.now (lines_of all) n.rest n.left_is begins in
    first_of c.args.settings.limits.charge c.args.name.now (lines_of all) _ c.ask_core.new.notes out.0 user.1 refl refl
    (subst (λ (s : Setup). RunSoFar s c.args.name.now (lines_of all) [] c.ask_core.new.notes out.0 (map event_of c.in_ok-events.events.items)) setup_is out.1)

pub returns-in_err-named-clause-why : goal.returns-in_err-named-clause-why
returns-in_err-named-clause-why g c = err-is _ _ _ c.from_residual.ensures.1 (c.in_err-named.ensures.why c.args.name.now)

pub returns-in_err-user-clause-why : goal.returns-in_err-user-clause-why
returns-in_err-user-clause-why g c = err-is _ _ _ c.from_residual-in_err-user.ensures.1
    (by_others _ _ _ c.in_ok-named.named.users.items (rw c.as_slice.ensures.value at c.in_err-user.ensures.unknown) (λ all known unlisted.
    names_others all _ c.in_ok-named.named c.args.name.now (c.in_ok-named.ensures.named all known) unlisted))

pub returns-in_err-core-clause-why : goal.returns-in_err-core-clause-why
returns-in_err-core-clause-why g c =
    let users = c.in_ok-named.named.users.items in
    let same : c.in_ok-copied.copied.items ≡ users = each_same users c.in_ok-copied.copied.items c.in_ok-copied.ensures.cases.0 in
    err-is _ _ _ c.from_residual-in_err-core.ensures.1
    (by_store _ _ _ c.in_ok-copied.copied.items c.in_err-core.ensures.refused (λ all known.
    subst (λ (us : List (List ℕ)). are_users us ≡ true) (sym same) (named_well _ _ c.in_ok-named.named (c.in_ok-named.ensures.named all known))))
