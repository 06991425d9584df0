-- How an end is told once all that was written is flushed.
use Rattle.std.proofs.Common.{◌≡◌, ◌⊎◌, ℕ, inl, inr, sym, subst}
use Rattle.std.specs.Prelude.{Result, Ok, Err, IfErr, OnOk}
use Rattle.model.specs.declared.refusal.Refusal.{Refusal}
use Rattle.model.specs.declared.refusal.Refusal.TheVariants.{OutputFault}
use Rattle.session.specs.Serving.{IsFault, IsUnwritten, TellsEnd}

-- what an error is after such an end: that the flush failed, or the end as it is told
abbrev pub Told : (e : Result (Unit {0}) Refusal) (old new : ℕ) (input output : Type 0) → Refusal → Type 0
Told e old new input output why = IsFault OutputFault old new why ⊎ ((first : Refusal) × (e ≡ Err first) × TellsEnd first input output why)

-- a want of memory or a failure of the writer is told as one of them
still_unwritten : (first why : Refusal) (input output : Type 0) → TellsEnd first input output why → IsUnwritten first → IsUnwritten why
still_unwritten first why input output h (inl o) = elim (subst (λ x. TellsEnd x input output why) o h) [ inl f ↦ inl f.0 | inr m ↦ inr m.0 ]
still_unwritten first why input output h (inr m) = elim (subst (λ x. TellsEnd x input output why) m h) [ inl f ↦ inl f.0 | inr m' ↦ inr m'.0 ]

-- what an end is told as, where all was printed, or nothing or a beginning
pub early_after : (old new : ℕ) (input output : Type 0) (r e : Result (Unit {0}) Refusal) (P : Type 0) (Q S : Refusal → Type 0)
    → IfErr r (Told e old new input output) → OnOk e P → IfErr e Q → (P → S OutputFault)
    → ((first why : Refusal) → (IsUnwritten first → IsUnwritten why) → Q first → S why) → IfErr r S
early_after old new input output (Ok u) e P Q S is p q unshown later = tt
early_after old new input output (Err why) (Ok v) P Q S (inl f) p q unshown later = subst S (sym f.0) (unshown p)
early_after old new input output (Err why) (Err first) P Q S (inl f) p q unshown later = later first why (λ u. inl f.0) q
early_after old new input output (Err why) (Ok v) P Q S (inr t) p q unshown later = let bad : Ok v ≡ Err t.0 = t.1 in cc
early_after old new input output (Err why) (Err first) P Q S (inr t) p q unshown later =
    let is : first ≡ t.0 = let e : Err first ≡ Err t.0 = t.1 in cc in
    let tells : TellsEnd first input output why = subst (λ x. TellsEnd x input output why) (sym is) t.2 in
    later first why (still_unwritten first why input output tells) q
