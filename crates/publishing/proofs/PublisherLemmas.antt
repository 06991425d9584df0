-- What is published at first.
use Rattle.std.proofs.Common.{◌≡◌, ℕ, zero, suc, true, true≢false, [], ◌∷◌, sym, ap, ◌∙◌, subst}
use mathlib.Core.Option.{some}
use lib.ListN.{get_elem?}
use Rattle.history.specs.Histories.{IsLegal}
use Rattle.history.proofs.HistoryLemmas.{legal_none}
use Rattle.publishing.specs.declared.law.Shown.{Shown}
use Rattle.publishing.specs.declared.law.KnownName.{KnownName}
use Rattle.publishing.specs.FrontNames.{setup_in}
use Rattle.publishing.specs.Tied.{stranger, Tied}

-- where nothing is shown yet, and nobody knows anything, the rule holds
pub tied_first : (x : Shown) → x.seen ≡ [] → Tied x (stranger ∷ [])
tied_first x none = (subst (IsLegal (setup_in x.name)) (sym none) (legal_none (setup_in x.name)), nobody)
  where
    nobody : (seat : ℕ) (v : KnownName) → get_elem? (stranger ∷ []) seat ≡ some v → v.knows ≡ true → v.name ≡ x.name
    nobody zero v is knows = (let same : stranger ≡ v = cc in absurd (true≢false (sym knows ∙ sym (ap (λ (u : KnownName). u.knows) same))))
    nobody (suc k) v is knows = absurd (cc)
