-- Which texts are no derivation's.
use Rattle.std.proofs.Common.{◌≡◌, ℕ, List, ap, sym, subst, ◌∙◌}
use Rattle.std.specs.Prelude.{Some, None, Result, Ok, Err, MatchResult, IfOk, IsErrAnd}
use Rattle.model.specs.Derivations.{Derivation, IsDerivation, derivation_text, HasNoDerivation, IsOnlyDerivation}
use Rattle.model.specs.declared.refusal.Refusal.{Refusal}
use Rattle.model.specs.declared.refusal.Refusal.TheVariants.{BadDerivation}
use Rattle.model.specs.DerivationTexts.{derivation_at}
use Rattle.model.proofs.ReadingLemmas.{some_same}
use Rattle.model.specs.ReadOutcomes.{Fails}
use Rattle.aterm.specs.Parts.{derivation_of}
use Rattle.aterm.specs.declared.derivation.Parts.{Parts}
use Rattle.aterm.specs.Refused.{HasNoPaths, IsRefused, IsUnread}
use Rattle.model.specs.declared.read_error.ReadError.{ReadError}
use Rattle.model.specs.declared.read_error.ReadError.TheVariants.{Memory, Malformed}
use Rattle.aterm.proofs.SoundWhole.{derivation_sound}
use Rattle.aterm.proofs.Complete.{derivation_again}
use Rattle.aterm.proofs.PathTexts.{paths_are_texts}

pub read_again : (d : Derivation) → IsDerivation d → derivation_at (derivation_text d) ≡ Some d
read_again d h = derivation_again d (paths_are_texts d.inputs h.inputs) (paths_are_texts d.sources h.sources) h.texts

-- what was read is all that the text can be
pub only_read : (text : List ℕ) (d : Derivation) → derivation_at text ≡ Some d → IsOnlyDerivation text d
only_read text d h other valid e = some_same other d (sym (read_again other valid) ∙ ap derivation_at e ∙ h)

-- nothing was read
pub none_read : (text : List ℕ) → derivation_at text ≡ None → HasNoDerivation text
none_read text h d valid e =
    let found = sym (read_again d valid) ∙ ap derivation_at e ∙ h in
    cc found

-- what was read is no derivation of the store
pub other_read : (text : List ℕ) (d : Derivation) → derivation_at text ≡ Some d → (IsDerivation d → ⊥) → HasNoDerivation text
other_read text d h none other valid e = none (subst IsDerivation (only_read text d h other valid e) valid)

-- its strings, or its paths, were not read
unread_strings : (text : List ℕ) (e : ReadError) → Fails e (derivation_at text) → IsUnread text e
unread_strings text Memory h = tt
unread_strings text Malformed h = none_read text h

unread_paths : (text : List ℕ) (d : Derivation) (e : ReadError) → derivation_at text ≡ Some d → HasNoPaths d e → IsUnread text e
unread_paths text d Memory found h = tt
unread_paths text d Malformed found h = other_read text d found (λ valid. h (valid.inputs, valid.sources))

pub no_strings : (text : List ℕ) (e : ReadError) (r : Result Parts ReadError) → IsErrAnd r (λ f. f ≡ e) → Fails e (derivation_at text)
    → MatchResult r (λ parts. derivation_at text ≡ Some (derivation_of parts)) (IsUnread text)
no_strings text e (Ok parts) is h = absurd is
no_strings text e (Err f) is h = subst (IsUnread text) (sym is) (unread_strings text e h)

pub parts_read : (text : List ℕ) (d : Derivation) (r : Result Parts ReadError) → derivation_at text ≡ Some d
    → MatchResult r (λ parts. derivation_of parts ≡ d) (HasNoPaths d) → MatchResult r (λ parts. derivation_at text ≡ Some (derivation_of parts)) (IsUnread text)
parts_read text d (Ok parts) found h = found ∙ ap Some (sym h)
parts_read text d (Err e) found h = unread_paths text d e found h

pub made_or_refused : (text : List ℕ) (d : Derivation) (result : Result Derivation Refusal) → derivation_at text ≡ Some d
    → MatchResult result (λ r. (r ≡ d) × IsDerivation d) (λ e. (e ≡ BadDerivation) × (IsDerivation d → ⊥))
    → MatchResult result (λ r. IsDerivation r × (derivation_text r ≡ text)) (IsRefused text)
made_or_refused text d (Ok r) found h =
    (subst IsDerivation (sym h.0) h.1, ap derivation_text h.0 ∙ derivation_sound text d found)
made_or_refused text d (Err e) found h = subst (IsRefused text) (sym h.0) (other_read text d found h.1)

pub made_only : (text : List ℕ) (d : Derivation) (result : Result Derivation Refusal) → derivation_at text ≡ Some d
    → MatchResult result (λ r. (r ≡ d) × IsDerivation d) (λ e. (e ≡ BadDerivation) × (IsDerivation d → ⊥)) → IfOk result (IsOnlyDerivation text)
made_only text d (Ok r) found h = subst (IsOnlyDerivation text) (sym h.0) (only_read text d found)
made_only text d (Err e) found h = tt
