use Rattle.std.proofs.Common.{◌≡◌, ◌∙◌, ℕ, List, Some, None, sym, ap, rules}
use Rattle.std.specs.Prelude.{option_copied, slice_get}
use Rattle.model.specs.Worlds.{Goal}
use Rattle.model.specs.Goals.{goal_at}
use Rattle.jobs.specs.Owned.{Owned}
use Rattle.jobs.specs.Numbers.{numbers, is_built_under, first_built}
use Rattle.jobs.proofs.NumberLemmas.{resolved_of, none_built, one_built}
use Rattle.jobs.proofs.goals.Goals.first_built.Goals as goal

pub returns-in_err-number : goal.returns-in_err-number
returns-in_err-number c =
    let path : List ℕ = c.args.path.now in
    let gs : List Goal = c.self.inside.goals.items in
    let listed : c.built_under.result.now ≡ numbers (is_built_under path) 1 gs = c.built_under.ensures ∙ c.self.invariant.1.of_built path in
    let none : slice_get (numbers (is_built_under path) 1 gs) 0 ≡ None =
    ap (λ (ns : List ℕ). slice_get ns 0) (sym listed) ∙ sym c.in_err-number.ensures.value in
    let given : option_copied c.from_residual.result ≡ None = search rules in
    given ∙ none_built path gs none ∙ ap (λ (v : Owned). first_built path v.goals) c.self.view_is

pub returns-in_err-get : goal.returns-in_err-get
returns-in_err-get c =
    let path : List ℕ = c.args.path.now in
    let gs : List Goal = c.self.inside.goals.items in
    let n : ℕ = c.in_ok-number.number.now in
    let listed : c.built_under.result.now ≡ numbers (is_built_under path) 1 gs = c.built_under.ensures ∙ c.self.invariant.1.of_built path in
    let one : slice_get (numbers (is_built_under path) 1 gs) 0 ≡ Some n =
    ap (λ (ns : List ℕ). slice_get ns 0) (sym listed) ∙ sym c.in_ok-number.ensures.value in
    let given : option_copied c.from_residual-in_err-get.result ≡ None = search rules in
    given ∙ ap resolved_of c.in_err-get.ensures ∙ ap (λ (v : Owned). resolved_of (goal_at n v.goals)) (sym c.self.view_is)
    ∙ one_built path gs n one ∙ ap (λ (v : Owned). first_built path v.goals) c.self.view_is

pub returns : goal.returns
returns c =
    let path : List ℕ = c.args.path.now in
    let gs : List Goal = c.self.inside.goals.items in
    let n : ℕ = c.in_ok-number.number.now in
    let listed : c.built_under.result.now ≡ numbers (is_built_under path) 1 gs = c.built_under.ensures ∙ c.self.invariant.1.of_built path in
    let one : slice_get (numbers (is_built_under path) 1 gs) 0 ≡ Some n =
    ap (λ (ns : List ℕ). slice_get ns 0) (sym listed) ∙ sym c.in_ok-number.ensures.value in
    c.resolved.ensures ∙ ap resolved_of c.in_ok-get.ensures ∙ ap (λ (v : Owned). resolved_of (goal_at n v.goals)) (sym c.self.view_is)
    ∙ one_built path gs n one ∙ ap (λ (v : Owned). first_built path v.goals) c.self.view_is
