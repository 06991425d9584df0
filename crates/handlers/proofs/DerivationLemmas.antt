-- What the model says of a derivation that is added to a desk.
use Rattle.std.proofs.Common.{◌≡◌, ℕ, ◌+◌, ◌⊎◌, inl, inr, Bool, true, false, List, length, refl, ◌∙◌, ap, Result, Ok, Err, Some, None}
use Rattle.std.specs.Prelude.{nat_le, if◌then◌else◌, IfOk, IfErr}
use Rattle.model.specs.declared.refusal.Refusal.{Refusal}
use Rattle.model.specs.declared.refusal.Refusal.TheVariants.{Memory, MissingInput, RankTooHigh, TooLarge, BadDerivation, Quota}
use Rattle.model.specs.Derivations.{Derivation}
use Rattle.model.specs.DerivationTexts.{derivation_of_text}
use Rattle.model.specs.Classes.{Admission, Known, known_at, derivation_path, class_of, has_all, admission_of, admit}
use Rattle.model.specs.Limits.{greatest_rank}
use Rattle.model.specs.Limits.{most_derivations}
use Rattle.model.specs.Worlds.{Source, Setup, Desk}
use Rattle.model.specs.Limits.{most_derivation_bytes}
use Rattle.model.specs.Outcomes.{Outcome, becomes}
use Rattle.model.specs.DerivationRequests.{told_of_derivation, admitted, admit_new, add_derivation}
use Rattle.aterm.specs.Refused.{IsNotRead}
use Rattle.events.specs.declared.reply.Reply.{Reply}
use Rattle.realise.specs.Holdings.{Holdings, holds_derivation}
use Rattle.handlers.specs.Sound.{desk_of, IsSound, Beside}
use Rattle.model.specs.Replies.{is_clash_refusal, is_refused}
use Rattle.events.specs.Terms.{reply_of}
use Rattle.handlers.specs.Handling.{Fits, AddsDerivation, HasAddedDerivation, is_fault}
use Rattle.handlers.proofs.DeskLemmas.{known_of-desk_of, is_within-derivation}

-- ---- admission

given_by : (a b : Bool) (x y : Admission) → (if a then (if b then Ok x else Err RankTooHigh) else Err MissingInput) ≡ Ok y → y ≡ x
given_by true true x y h = cc
given_by true false x y h = cc
given_by false b x y h = cc

-- what is admitted has the derivation's path
pub admitted_path : (known : Known) (d : Derivation) (a : Admission) → admit known d ≡ Ok a → a.path ≡ derivation_path d
unfolding admit
admitted_path known d a h = ap (λ x. x.path) (given_by (has_all known d) (nat_le (class_of known d).rank greatest_rank) (admission_of known d) a h)

-- ---- a derivation that is not there yet

module _ (users : List (List ℕ)) (beside : Beside) (table : List Source) (limit : ℕ) (d : Holdings) (derivation : Derivation) where
  abbrev pub new_outcome : Outcome
  new_outcome = admit_new (record { users = users; charge = limit }) (desk_of beside table d) derivation (known_at d.known (derivation_path derivation))

  is_new : (answer : Result Admission Refusal) → known_at d.known (derivation_path derivation) ≡ None → admit d.known derivation ≡ answer
      → new_outcome ≡ admitted (record { users = users; charge = limit }) (desk_of beside table d) answer
  is_new answer none is =
      let K : Known → Outcome = λ known. admitted (record { users = users; charge = limit }) (desk_of beside table d) (admit known derivation) in
      rw none (ap K (known_of-desk_of beside table d) ∙ ap (admitted (record { users = users; charge = limit }) (desk_of beside table d)) is)

  pub refused_fits : (e : Refusal) → known_at d.known (derivation_path derivation) ≡ None → (e ≡ Memory) ⊎ (admit d.known derivation ≡ Err e)
      → is_fault e ≡ false → new_outcome ≡ Err e
  refused_fits e none (inl h) own = let wrong = rw h at own in cc
  refused_fits e none (inr h) own = is_new (Err e) none h

  pub over_fits : (a : Admission) → IsSound table limit d → known_at d.known (derivation_path derivation) ≡ None → admit d.known derivation ≡ Ok a
      → nat_le (length d.known.derivations + 1) most_derivations ≡ false → new_outcome ≡ Err Quota
  over_fits a sound none ok over = is_new (Ok a) none ok ∙ rw (is_within-derivation users beside table limit d a sound, over) refl

  pub added_fits : (a : Admission) → IsSound table limit d → known_at d.known (derivation_path derivation) ≡ None → admit d.known derivation ≡ Ok a
      → nat_le (length d.known.derivations + 1) most_derivations ≡ true
      → new_outcome ≡ becomes (desk_of beside table (holds_derivation a d)) (told_of_derivation a)
  added_fits a sound none ok within = is_new (Ok a) none ok ∙ rw (is_within-derivation users beside table limit d a sound, within) refl

-- a refusal, which leaves the desk as it was
pub refused_added : (d : Holdings) (derivation : Derivation) (result : Result Reply Refusal) (e : Refusal) → result ≡ Err e → is_clash_refusal e ≡ false
    → ((table : List Source) (limit : ℕ) → IsSound table limit d → AddsDerivation limit table d derivation (Err e) d)
    → HasAddedDerivation d derivation result d
refused_added d derivation result e is clash adds =
    rw is (record {
      adds = adds;
      sound = λ table limit sound. sound;
      answered = tt;
      gains = λ path class there. there;
      kept = refl;
      no_clash = clash;
    })

-- a derivation that the desk has is only told
pub had_added : (d : Holdings) (derivation : Derivation) (a : Admission) (result : Result Reply Refusal)
    → known_at d.known (derivation_path derivation) ≡ Some a
    → IfOk result (λ r. reply_of r ≡ told_of_derivation a) → IfOk result (λ r. is_refused (reply_of r) ≡ false) → IfErr result (λ e. e ≡ Memory)
    → HasAddedDerivation d derivation result d
had_added d derivation a (Ok r) known told answered memory = record {
  adds = λ table limit sound users beside. rw (known, told) refl;
  sound = λ table limit sound. sound;
  answered = answered;
  gains = λ path class there. there;
  kept = tt;
  no_clash = tt;
}
had_added d derivation a (Err e) known told answered memory =
    refused_added d derivation (Err e) e refl (rw memory refl) (λ table limit sound users beside own. (let wrong = rw memory at own in cc))

-- ---- a text

pub too_large : (setup : Setup) (d : Desk) (text : List ℕ) → nat_le (length text) most_derivation_bytes ≡ false → add_derivation setup d text ≡ Err TooLarge
too_large setup d text over = rw over refl

pub no_derivation : (setup : Setup) (d : Desk) (text : List ℕ) → nat_le (length text) most_derivation_bytes ≡ true → derivation_of_text text ≡ None
    → add_derivation setup d text ≡ Err BadDerivation
no_derivation setup d text within none = rw (within, none) refl

pub derivation_read : (users : List (List ℕ)) (beside : Beside) (table : List Source) (limit : ℕ) (d : Holdings) (text : List ℕ) (derivation : Derivation)
    → nat_le (length text) most_derivation_bytes ≡ true → derivation_of_text text ≡ Some derivation
    → add_derivation (record { users = users; charge = limit }) (desk_of beside table d) text ≡ new_outcome users beside table limit d derivation
derivation_read users beside table limit d text derivation within is =
    let K : Known → Outcome = λ known. admit_new (record { users = users; charge = limit }) (desk_of beside table d) derivation (known_at known (derivation_path derivation)) in
    rw (within, is) (ap K (known_of-desk_of beside table d))

-- a refusal to read a text fits
pub unread_fits : (setup : Setup) (d new : Desk) (text : List ℕ) (e : Refusal) → nat_le (length text) most_derivation_bytes ≡ true → IsNotRead text e
    → Fits (add_derivation setup d text) new (Err e)
unread_fits setup d new text BadDerivation within none = λ own. no_derivation setup d text within none
unread_fits setup d new text Memory within none = λ own. cc
unread_fits setup d new text e within none = absurd none

pub unread_no_clash : (text : List ℕ) (e : Refusal) → IsNotRead text e → is_clash_refusal e ≡ false
unread_no_clash text BadDerivation none = refl
unread_no_clash text Memory none = refl
unread_no_clash text e none = absurd none
