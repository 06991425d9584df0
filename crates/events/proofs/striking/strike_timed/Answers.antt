use Rattle.std.proofs.Common.{◌≡◌, ◌∙◌, ap, sym, subst}
use Rattle.std.specs.Prelude.{map}
use Rattle.model.specs.Timed.{strike_timed}
use Rattle.trust.specs.Trusting.{trusts}
use Rattle.trust.proofs.PlaceLemmas.{name_found}
use Rattle.events.specs.Terms.{event_of}
use Rattle.events.specs.Ever.{run_of}
use Rattle.events.specs.Undoing.{nobody, AreUndone}
use Rattle.events.proofs.EverLemmas.{told_where, stranger_untold}
use Rattle.events.proofs.striking.strike_timed.Goals as goal

pub returns-in_default-clause-refused : goal.returns-in_default-clause-refused
returns-in_default-clause-refused c = stranger_untold c.args.users.now c.args.user.now (sym c.if-not-are_users.ensures) (sym c.in_default.ensures)

pub returns-clause-value : goal.returns-clause-value
returns-clause-value c charge =
    let users = c.args.users.now in
    let all = map event_of c.args.events.items in
    let nothing_yet : trusts c.new-trust.result ≡ nobody = c.new-trust.ensures in
    let undone : AreUndone users nobody all (map event_of c.exchange_all.new.events.items) (trusts c.exchange_all.new.trust) =
    subst (λ t. AreUndone users t all (map event_of c.exchange_all.new.events.items) (trusts c.exchange_all.new.trust)) nothing_yet
    (subst (λ es. AreUndone users (trusts c.new-trust.result) (map event_of es) (map event_of c.exchange_all.new.events.items) (trusts c.exchange_all.new.trust))
    c.from-events.ensures.0 c.exchange_all.ensures) in
    ap (map event_of) c.from.ensures.0 ∙ c.keep_near.ensures all charge undone
    ∙ ap (λ n. strike_timed (run_of users charge) n all) (name_found users c.args.user.now c.in-Some.place (sym c.in-Some.ensures)).1

pub returns-clause-ok : goal.returns-clause-ok
returns-clause-ok c = told_where c.args.users.now c.args.user.now c.in-Some.place (sym c.if-not-are_users.ensures) (sym c.in-Some.ensures)
