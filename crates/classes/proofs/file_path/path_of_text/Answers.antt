use Rattle.std.proofs.Common.{◌≡◌, ◌++◌, List, ℕ, not, ap, ◌∙◌}
use Rattle.std.proofs.lemmas.Result.{MatchResult-from_both, IfOk-weaker}
use Rattle.sha2.specs.Sha256.{sha256}
use Rattle.model.specs.Paths.{DerivationFile, store_path}
use Rattle.model.specs.Derivations.{derivation_text}
use Rattle.model.specs.Classes.{is_one_of, sorted, file_references, derivation_path}
use Rattle.std.specs.Prelude.{filter}
use Rattle.aterm.specs.Parts.{derivation_of}
use Rattle.classes.proofs.file_path.path_of_text.Goals as goal

pub returns : goal.returns
returns c =
    let d = c.args.derivation.now in
    let is : derivation_of c.parts-parts.result.now ≡ d = c.parts-parts.ensures.parts in
    let order = λ (inputs sources : List (List ℕ)). sorted (inputs ++ filter (λ path. not (is_one_of inputs path)) sources) in
    let listed : c.in_ok-references.references.items ≡ file_references (derivation_of c.parts-parts.result.now) =
    c.in_ok-references.ensures ∙ ap (λ inputs. order inputs c.deref-2.result.now) c.deref.ensures.value
    ∙ ap (order c.parts-parts.result.now.inputs.items) c.deref-2.ensures.value in
    let paths : c.deref-3.result.now ≡ file_references d = c.deref-3.ensures.value ∙ listed ∙ ap file_references is in
    let digest : c.sha256-digest.result ≡ sha256 (derivation_text d) = c.sha256-digest.ensures ∙ ap sha256 c.requires.text in
    let made = λ (paths : List (List ℕ)) (digest name : List ℕ). store_path (DerivationFile paths) digest name in
    let whole : made c.deref-3.result.now c.sha256-digest.result c.in_ok-name.name ≡ derivation_path d =
    ap (λ x. made x c.sha256-digest.result c.in_ok-name.name) paths ∙ ap (λ x. made (file_references d) x c.in_ok-name.name) digest ∙ ap (λ x. made (file_references d) (sha256 (derivation_text d)) x) c.in_ok-name.ensures in
    MatchResult-from_both c.make_path.result _ _ (IfOk-weaker c.make_path.result _ _ (λ x h. h ∙ whole) c.make_path.ensures.made) c.make_path.ensures.error
