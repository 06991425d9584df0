use Rattle.std.proofs.Common.{◌≡◌, ◌∙◌, List, ℕ, None, Some, false, true, sym}
use Rattle.trust.proofs.FirstPlaceLemmas.{no_place}
use Rattle.trust.specs.Naming.{place_of}
use Rattle.schedule.specs.Standing.{setup_of}
use Rattle.schedule.proofs.state.Core.need.Goals as goal

pub returns-in_default-clause-need : goal.returns-in_default-clause-need
unfolding setup_of
returns-in_default-clause-need c ready made =
    let core = c.args.self.now in
    let user : List ℕ = c.args.preparation.event.now.actor in
    let none : place_of core.state.users user ≡ None = sym c.in_default.ensures in
    record {
      path = made.path;
      admission = λ among. let bad : true ≡ false = sym among ∙ no_place core.state.users user none in cc;
      outcome = λ among. let bad : true ≡ false = sym among ∙ no_place core.state.users user none in cc;
      repaired = λ among. let bad : true ≡ false = sym among ∙ no_place core.state.users user none in cc;
    }

pub returns-clause-need : goal.returns-clause-need
returns-clause-need c ready made =
    let core = c.args.self.now in
    let user : List ℕ = c.args.preparation.event.now.actor in
    let found : place_of core.state.users user ≡ Some c.in-Some.place = sym c.in-Some.ensures in
    record {
      path = made.path;
      admission = λ among. c.in_ok-admission.ensures.needed user found ready.work.admissions made.admission;
      outcome = λ among. c.in_ok-input.ensures.needed user found ready.work.settlements made.output;
      repaired = λ among. c.in_ok-plan.ensures.needed user found ready.work.cache made.repaired;
    }
