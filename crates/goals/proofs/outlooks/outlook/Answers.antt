use Rattle.std.proofs.Common.{◌≡◌, ℕ, ◌<◌, Bool, ◌∙◌, ap, arith, rules, None, Some}
use Rattle.std.specs.Option.{option_copied}
use Rattle.std.proofs.lemmas.Result.{err_from_is_err_and}
use Rattle.model.specs.Classes.{known_at}
use Rattle.model.specs.Worlds.{Goal}
use Rattle.model.specs.Goals.{goal_at, as_seen}
use Rattle.events.specs.Statuses.{status_of}
use Rattle.trust.specs.Trusting.{holds}
use Rattle.trust.specs.Naming.{names}
use Rattle.realise.specs.Holdings.{Holdings}
use Rattle.jobs.specs.Owned.{goals_at}
use Rattle.handlers.specs.Viewing.{desk_at}
use Rattle.goals.proofs.StateLemmas.{few_of, own_desk}
use Rattle.goals.proofs.OutlookLemmas.{no_goal, untold, told}
use Rattle.goals.proofs.outlooks.outlook.Goals as goal

pub returns-in_default : goal.returns-in_default
returns-in_default c =
    let none : goal_at c.args.number (goals_at c.args.place c.args.state.now.jobs) ≡ None = search rules in
    no_goal c.args.state.now c.args.place c.requires c.args.number none

pub closure-reached-requires : goal.closure-reached-requires
closure-reached-requires c = let few = few_of c.args.state.now in let below : c.args.place < _ = c.requires in omega (arith, few, below)

pub returns-in_err-status : goal.returns-in_err-status
returns-in_err-status c =
    let there : goal_at c.args.number (goals_at c.args.place c.args.state.now.jobs) ≡ Some c.in-Some.goal.now = search rules in
    let p = err_from_is_err_and c.from_residual.result c.from_residual.ensures.1 in
    rw (p.1, p.2) (untold c.args.state.now c.args.place c.requires c.args.number c.in-Some.goal.now there _ c.in_err-status.ensures.memory)

pub returns-in_err-class : goal.returns-in_err-class
returns-in_err-class c =
    let there : goal_at c.args.number (goals_at c.args.place c.args.state.now.jobs) ≡ Some c.in-Some.goal.now = search rules in
    let p = err_from_is_err_and c.from_residual-in_err-class.result c.from_residual-in_err-class.ensures.1 in
    rw (p.1, p.2) (untold c.args.state.now c.args.place c.requires c.args.number c.in-Some.goal.now there _ c.in_err-class.ensures.memory)

pub returns-in_err-next : goal.returns-in_err-next
returns-in_err-next c =
    let there : goal_at c.args.number (goals_at c.args.place c.args.state.now.jobs) ≡ Some c.in-Some.goal.now = search rules in
    let p = err_from_is_err_and c.from_residual-in_err-next.result c.from_residual-in_err-next.ensures.1 in
    rw (p.1, p.2) (untold c.args.state.now c.args.place c.requires c.args.number c.in-Some.goal.now there _ c.in_err-next.ensures.memory)

pub returns : goal.returns
returns c =
    let s = c.args.state.now in
    let place = c.args.place in
    let g : Goal = c.in-Some.goal.now in
    let there : goal_at c.args.number (goals_at place s.jobs) ≡ Some g = search rules in
    let reached : ℕ → Bool = holds c.closure-reached.result in
    let desk : c.index.result.now ≡ desk_at s.desks.items place = c.index.ensures ∙ own_desk s place c.requires c.index.result.now in
    let known : option_copied c.derivation-known.result ≡ known_at (desk_at s.desks.items place).known g.derivation =
    c.derivation-known.ensures ∙ ap (λ (d : Holdings). known_at d.known c.derivation.result.now) desk
    ∙ ap (known_at (desk_at s.desks.items place).known) c.derivation.ensures in
    let status : status_of c.in_ok-status.status ≡ as_seen (names s.users reached) g.status =
    c.in_ok-status.ensures.value ∙ ap (as_seen (names s.users reached)) c.status.ensures in
    told s place c.requires c.args.number g there (option_copied c.derivation-known.result) (status_of c.in_ok-status.status) _ c.closure-reached.ensures
    known status c.in_ok-class.ensures.value c.in_ok-next.ensures.value
