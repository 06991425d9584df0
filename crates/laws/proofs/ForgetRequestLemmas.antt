-- The cases of forgetting what was built, and what becomes of goals.
use Rattle.std.proofs.Common.{ℕ, refl, List, [], ◌∷◌, map, Err}
use Rattle.std.specs.Prelude.{All, Bool, ◌&&◌, not}
use Rattle.std.specs.List.{list_any}
use Rattle.std.proofs.lemmas.Bool.{cond_both}
use Rattle.std.proofs.lemmas.List.Elements.{All-nil, All-cons, All-head, All-tail}
use Rattle.model.specs.declared.refusal.Refusal.TheVariants.{NotHeld, InUse}
use Rattle.model.specs.Worlds.{Waiting, Goal}
use Rattle.model.specs.Goals.{in_status, is_building}
use Rattle.model.specs.FinishedBuilds.{is_record_at}
use Rattle.model.specs.Replies as replies
use Rattle.model.specs.Outcomes.{Observation, Outcome, becomes, check}
use Rattle.model.specs.ForgetRequests.{is_built_from, let_go, without_records, is_in_use, forget}
use Rattle.laws.proofs.OutcomeLemmas.{checked}
use Rattle.laws.proofs.GoalLemmas.{Under}

module _ (P : Outcome → Type 0) (s : Observation) (class path : List ℕ) where
  -- the records are taken out, or are not there, or are in use
  pub forget_cases : P (becomes (without_records class path s.desk) replies.Ok) → P (Err NotHeld) → P (Err InUse) → P (forget s class path)
  forget_cases gone absent used =
      let done : Outcome = becomes (without_records class path s.desk) replies.Ok in
      checked P NotHeld (list_any (is_record_at class path) s.desk.records) (check InUse (not (is_in_use s class path)) done)
      (λ held. checked P InUse (not (is_in_use s class path)) done (λ free. gone) (λ needed. used)) (λ none. absent)

-- goals that wait are built under nobody
pub under_let_go : (set : List ℕ → Bool) (class path : List ℕ) (goals : List Goal) → All (Under set) goals → All (Under set) (map (let_go class path) goals)
under_let_go set class path [] all = All-nil (Under set)
under_let_go set class path (g ∷ goals) all =
    All-cons (Under set) (let_go class path g) (map (let_go class path) goals)
    (cond_both (is_building g.status && is_built_from class path g.resolved) (in_status Waiting g) g (Under set) (λ waits. refl) (λ stays. All-head (Under set) g goals all))
    (under_let_go set class path goals (All-tail (Under set) g goals all))
