-- The derivation of a text is the one that passes the test and has that text.
use Rattle.std.proofs.Common.{◌≡◌, ℕ, true, List, refl, ap, sym, subst, ◌∙◌}
use Rattle.std.specs.Prelude.{Option, Some, None, Result, Ok, Err, MatchResult}
use Rattle.model.specs.Derivations.{Derivation, IsDerivation, is_derivation, derivation_text, HasNoDerivation}
use Rattle.model.specs.DerivationTexts.{derivation_at, only_sound, derivation_of_text}
use Rattle.model.specs.declared.refusal.Refusal.{Refusal}
use Rattle.model.specs.declared.refusal.Refusal.TheVariants.{BadDerivation, Memory}
use Rattle.model.proofs.ReadingLemmas.{if_true, some_same}
use Rattle.aterm.specs.Laws.{DerivationsPass, ReadingIsExact}
use Rattle.aterm.specs.Refused.{IsRefused, IsNotRead}
use Rattle.aterm.proofs.Tests.{derivation_passes, derivation_from_test}
use Rattle.aterm.proofs.Sound.{bind_some}
use Rattle.aterm.proofs.SoundWhole.{derivation_sound}
use Rattle.aterm.proofs.Refusing.{read_again}

pub derivations_pass : DerivationsPass
derivations_pass d = (derivation_from_test d, derivation_passes d)

-- ---- the derivation of a text

pub its_text : (d : Derivation) → is_derivation d ≡ true → derivation_of_text (derivation_text d) ≡ Some d
unfolding derivation_of_text
its_text d h = rw (read_again d (derivation_from_test d h), h) refl

pub has_text : (text : List ℕ) (d : Derivation) → derivation_of_text text ≡ Some d → (is_derivation d ≡ true) × (derivation_text d ≡ text)
unfolding derivation_of_text
has_text text d h =
    let found = bind_some (derivation_at text) only_sound d h in
    let sound = if_true (is_derivation found.0) (Some found.0) d found.2 in
    let is : found.0 ≡ d = some_same found.0 d sound.1 in
    (subst (λ x. is_derivation x ≡ true) is sound.0, sym (ap derivation_text is) ∙ derivation_sound text found.0 found.1)

pub reading_is_exact : ReadingIsExact
reading_is_exact = (its_text, has_text)

-- ---- what is read

none_given : (text : List ℕ) (read : Option Derivation) → derivation_of_text text ≡ read → HasNoDerivation text → read ≡ None
none_given text None e h = refl
none_given text (Some d) e h =
    let found = has_text text d e in
    absurd (h d (derivation_from_test d found.0) found.1)

not_read : (text : List ℕ) (r : Refusal) → IsRefused text r → IsNotRead text r
not_read text BadDerivation h = none_given text (derivation_of_text text) refl h
not_read text Memory h = tt
not_read text _ h = h

-- what is answered is the derivation of the text
pub given_from_read : (text : List ℕ) (result : Result Derivation Refusal)
    → MatchResult result (λ d. IsDerivation d × (derivation_text d ≡ text)) (IsRefused text)
    → MatchResult result (λ d. derivation_of_text text ≡ Some d) (IsNotRead text)
given_from_read text (Ok d) h = ap derivation_of_text (sym h.1) ∙ its_text d (derivation_passes d h.0)
given_from_read text (Err r) h = not_read text r h
