use Rattle.std.proofs.Common.{◌≡◌, ℕ, List, ap, sym, ◌∙◌, arith}
use Rattle.std.specs.Prelude.{bytes_eq, is_some, unwrap_or}
use Rattle.std.proofs.lemmas.Map.Made.{is_some-lookup}
use Rattle.realise.specs.Held.{bytes_held, bytes_at}
use Rattle.realise.proofs.ForgettingLemmas.{bytes_without}
use Rattle.realise.proofs.holding.Holding.remove.Goals as goal

pub overflow_sub-self : goal.overflow_sub-self
overflow_sub-self c =
    let held : List (List ℕ × ℕ) = c.self.inside.archives.entries in
    let all = bytes_without c.args.path.now held in
    let own : bytes_at c.args.path.now held ≡ c.in-Some.archive = ap (λ o. unwrap_or o 0) (sym c.swap_remove.ensures.value ∙ c.in-Some.is) in
    omega (arith, c.self.invariant, all, own)

pub invariant_of-self : goal.invariant_of-self
invariant_of-self c =
    let held : List (List ℕ × ℕ) = c.self.inside.archives.entries in
    let all = bytes_without c.args.path.now held in
    let own : bytes_at c.args.path.now held ≡ c.in-Some.archive = ap (λ o. unwrap_or o 0) (sym c.swap_remove.ensures.value ∙ c.in-Some.is) in
    let left = ap bytes_held c.swap_remove.ensures.entries in
    omega (arith, c.self.invariant, all, own, left)

pub returns-in-Some-clause-gone : goal.returns-in-Some-clause-gone
returns-in-Some-clause-gone c =
    sym (is_some-lookup (bytes_eq c.args.path.now) c.swap_remove.new.self.entries) ∙ ap is_some c.swap_remove.ensures.updates.1

pub returns-in_default-clause-gone : goal.returns-in_default-clause-gone
returns-in_default-clause-gone c =
    sym (is_some-lookup (bytes_eq c.args.path.now) c.swap_remove.new.self.entries) ∙ ap is_some c.swap_remove.ensures.updates.1
