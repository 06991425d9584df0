-- What a pass knows after a call.
use Rattle.std.proofs.Common.{◌≡◌, ℕ, true, false, inl, inr, List, [], ◌∷◌, ◌++◌, length, refl, sym, ap, ◌∙◌, subst, Result, Ok, Err}
use Rattle.std.specs.Prelude.{◌≢◌, MatchBool}
use Rattle.model.proofs.BoolLemmas.{either}
use mathlib.Core.List.{IsPrefix}
use Rattle.model.specs.declared.refusal.Refusal.{Refusal}
use Rattle.model.specs.Goals.{Running}
use Rattle.model.specs.declared.refusal.Refusal.TheVariants.{Memory, Stopped}
use Rattle.events.specs.declared.reply.Reply.{Reply}
use Rattle.events.specs.declared.reply.Reply.TheVariants.{Refused}
use Rattle.history.specs.declared.row.Row.{Row}
use Rattle.history.specs.Callers.{Caller, answered, told_stopped}
use Rattle.history.specs.Histories.{unrecorded}
use Rattle.history.proofs.Prefixes.{prefix_self, prefix_push, prefix_trans}

-- the sure rows stay where a call has no row
pub sure_stays : (old new : Caller) (reply : Reply) → unrecorded reply ≡ true → (reply ≡ Refused Memory → new ≡ old)
    → (reply ≡ Refused Stopped → new ≡ told_stopped old) → new.sure ≡ old.sure
sure_stays old new (Refused Memory) none memory told = ap (λ (p : Caller). p.sure) (memory refl)
sure_stays old new (Refused Stopped) none memory told = ap (λ (p : Caller). p.sure) (told refl)
sure_stays old new (Refused why) none memory told = cc
sure_stays old new reply none memory told = cc

-- they are among all rows then
pub sure_then : (old new : Caller) (before rows : List Row) → new.sure ≡ old.sure → rows ≡ before → IsPrefix old.sure before → IsPrefix new.sure rows
sure_then old new before rows stays same begins = subst (λ (x : List Row × List Row). IsPrefix x.0 x.1) (λ i. (sym stays i, sym same i)) begins

-- and are all rows where it has one
pub sure_of_rows : (old new : Caller) (rows seen : List Row) → new ≡ answered old rows → seen ≡ rows → IsPrefix new.sure seen
sure_of_rows old new rows seen counted same =
    subst (λ (x : List Row × List Row). IsPrefix x.0 x.1) (λ i. (sym (ap (λ (p : Caller). p.sure) counted) i, sym same i)) (prefix_self rows)

-- what a call tells of what a pass is sure of, and has seen then
module _ (old new : Caller) (reply : Reply) (before rows : List Row) (counted : unrecorded reply ≡ false → new ≡ answered old rows)
    (memory : reply ≡ Refused Memory → new ≡ old) (told : reply ≡ Refused Stopped → new ≡ told_stopped old) where
  -- its sure rows are among all rows
  pub sure_seen : (unrecorded reply ≡ true → rows ≡ before) → IsPrefix old.sure before → IsPrefix new.sure rows
  sure_seen stays begins = elim (either (unrecorded reply)) [
    | inl t ↦ sure_then old new before rows (sure_stays old new reply t memory told) (stays t) begins
    | inr f ↦ sure_of_rows old new rows rows (counted f) refl
  ]

  -- and are so many
  pub sure_counted : (count all now : ℕ) → count ≡ length old.sure → all ≡ length rows → MatchBool (unrecorded reply) (now ≡ count) (now ≡ all)
      → now ≡ length new.sure
  sure_counted count all now is_count is_all is = elim (either (unrecorded reply)) [
    | inl t ↦ (rw t at is) ∙ (is_count ∙ ap length (sym (sure_stays old new reply t memory told)))
    | inr f ↦ (rw f at is) ∙ (is_all ∙ ap (λ (p : Caller). length p.sure) (sym (counted f)))
  ]

-- what it has seen is only lengthened
pub seen_grows : (reply : Reply) (seen before rows : List Row) (r : Row) → (unrecorded reply ≡ false → rows ≡ before ++ r ∷ [])
    → (unrecorded reply ≡ true → rows ≡ before)
    → IsPrefix seen before → IsPrefix seen rows
seen_grows reply seen before rows r added stays begins = elim (either (unrecorded reply)) [
  | inl t ↦ subst (IsPrefix seen) (sym (stays t)) begins
  | inr f ↦ subst (IsPrefix seen) (sym (added f)) (prefix_trans seen before (before ++ r ∷ []) begins (prefix_push before r))
]

-- they stay where a pass asks for a job
pub sure_asked : (old new : Caller) (told : Result Running Refusal) → (told ≢ Err Stopped → new ≡ old) → (told ≡ Err Stopped → new ≡ told_stopped old)
    → new.sure ≡ old.sure
sure_asked old new (Ok job) going stopped = ap (λ (p : Caller). p.sure) (going (λ is. cc))
sure_asked old new (Err Stopped) going stopped = ap (λ (p : Caller). p.sure) (stopped refl)
sure_asked old new (Err why) going stopped = ap (λ (p : Caller). p.sure) (going (λ is. cc))
