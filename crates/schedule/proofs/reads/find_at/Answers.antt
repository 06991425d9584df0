use Rattle.std.proofs.Common.{◌≡◌, List, get_or, sym, subst, Result}
use Rattle.std.proofs.lemmas.List.{set-get_or}
use Rattle.trust.specs.Trusting.{trusts}
use Rattle.realise.specs.Holdings.{Holdings}
use Rattle.handlers.specs.Viewing.{bare, desk_at}
use Rattle.handlers.specs.Handling.{IsHandled, IsHandledByDesk}
use Rattle.handlers.specs.States.{parts_of}
use Rattle.handlers.proofs.RunLemmas.{by_own_desk, by_observation_of}
use Rattle.model.specs.declared.refusal.Refusal.{Refusal}
use Rattle.model.specs.Events.{Event}
use Rattle.events.specs.declared.reply.Reply.{Reply}
use Rattle.events.specs.Terms.{request_of}
use Rattle.handlers.proofs.ClosureLemmas.{handled_of_plan}
use Rattle.schedule.specs.Queries.{request_in}
use Rattle.schedule.proofs.reads.find_at.Goals as goal

pub returns-in-Status : goal.returns-in-Status
returns-in-Status c given gives actor found =
    let parts = parts_of c.args.state.now in
    let event : Event = record { actor = actor; request = request_of (request_in c.args.question.now) } in
    subst (λ (o : Result Reply Refusal). IsHandled parts event o parts) (sym (c.told.ensures given gives)) (rw c.in-Status.is (c.status.ensures actor found))

pub returns-in-Closure : goal.returns-in-Closure
returns-in-Closure c given gives =
    let state = c.args.state.now in
    let place = c.args.place in
    by_observation_of (parts_of state) place _ given state.table.sources (desk_at state.desks.items place) state.desks.items state.run
    (sym (set-get_or state.desks.items place bare))
    (rw c.in-Closure.is
    (handled_of_plan (trusts state.trust) state.limits.charge state.table.sources state.desks.items place _ c.plan_for.result given
    c.plan_for.ensures.planned (c.planned.ensures given gives)))

pub returns-in-Fetch : goal.returns-in-Fetch
returns-in-Fetch c given gives actor found =
    let state = c.args.state.now in
    let parts = parts_of state in
    let event : Event = record { actor = actor; request = request_of (request_in c.args.question.now) } in
    let d : Holdings = c.index.result.now in
    let here : d ≡ get_or state.desks.items c.args.place d = c.index.ensures in
    subst (λ (o : Result Reply Refusal). IsHandled parts event o parts) (sym (c.told-in-Fetch.ensures given gives))
    (subst (λ (ds : List Holdings). IsHandled parts event c.fetch.result (record parts { desks = ds })) (set-get_or state.desks.items c.args.place d)
    (by_own_desk parts c.args.place d event.request c.fetch.result (get_or state.desks.items c.args.place d) state.run here
    (subst (λ (x : Holdings). IsHandledByDesk state.table.sources d event.request c.fetch.result x) here (rw c.in-Fetch.is c.fetch.ensures)) actor found))
