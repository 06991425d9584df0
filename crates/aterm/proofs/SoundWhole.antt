-- The text from which a derivation was read is that derivation's.
use Rattle.std.proofs.Common.{◌≡◌, ℕ, List, [], ◌++◌, codes, ap, sym, subst, ◌∙◌}
use Rattle.std.specs.Prelude.{Option, Some, None, bytes_eq, if◌then◌else◌}
use Rattle.std.specs.Cmp.Lexicographic.{same_text}
use Rattle.model.specs.Derivations.{Derivation, derivation_text}
use Rattle.aterm.proofs.Texts.{head, closed, members_text, variables_text, text_is}
use Rattle.aterm.proofs.Sound.{bind_some, string_sound, members_sound, variables_sound}
use Rattle.model.specs.Results.{◌>>=◌}
use Rattle.model.specs.DerivationTexts.{quoted_at, members_at, variables_at, derivation_at}
use Rattle.model.proofs.ReadingLemmas.{if_true, some_same}

-- what is read, with what was read before it
abbrev made : List (List ℕ) → List (List ℕ) → List ℕ → List ℕ → List (List ℕ) → List (List ℕ × List ℕ) → Derivation
made inputs sources platform builder arguments environment =
    record { inputs = inputs; sources = sources; platform = platform; builder = builder; arguments = arguments; environment = environment }

abbrev end_at : List (List ℕ) → List (List ℕ) → List ℕ → List ℕ → List (List ℕ) → List (List ℕ × List ℕ) × List ℕ → Option Derivation
end_at i s p b a v = if bytes_eq v.1 (codes ")") then Some (made i s p b a v.0) else None

abbrev environment_at : List (List ℕ) → List (List ℕ) → List ℕ → List ℕ → List (List ℕ) × List ℕ → Option Derivation
environment_at i s p b a = variables_at (codes ",[") a.1 >>= end_at i s p b a.0

abbrev arguments_at : List (List ℕ) → List (List ℕ) → List ℕ → List ℕ × List ℕ → Option Derivation
arguments_at i s p b = members_at (codes ",[") (codes "\"") [] b.1 >>= environment_at i s p b.0

abbrev builder_at : List (List ℕ) → List (List ℕ) → List ℕ × List ℕ → Option Derivation
builder_at i s p = quoted_at (codes ",\"") p.1 >>= arguments_at i s p.0

abbrev platform_at : List (List ℕ) → List (List ℕ) × List ℕ → Option Derivation
platform_at i s = quoted_at (codes ",\"") s.1 >>= builder_at i s.0

abbrev sources_at : List (List ℕ) × List ℕ → Option Derivation
sources_at i = members_at (codes ",[") (codes "\"") [] i.1 >>= platform_at i.0

pub derivation_sound : (bytes : List ℕ) (d : Derivation) → derivation_at bytes ≡ Some d → derivation_text d ≡ bytes
unfolding derivation_at
derivation_sound bytes d h =
    let i = bind_some (members_at head (codes "(\"") (codes ",[\"out\"])") bytes) sources_at d h in
    let s = bind_some (members_at (codes ",[") (codes "\"") [] i.0.1) (platform_at i.0.0) d i.2 in
    let p = bind_some (quoted_at (codes ",\"") s.0.1) (builder_at i.0.0 s.0.0) d s.2 in
    let b = bind_some (quoted_at (codes ",\"") p.0.1) (arguments_at i.0.0 s.0.0 p.0.0) d p.2 in
    let a = bind_some (members_at (codes ",[") (codes "\"") [] b.0.1) (environment_at i.0.0 s.0.0 p.0.0 b.0.0) d b.2 in
    let v = bind_some (variables_at (codes ",[") a.0.1) (end_at i.0.0 s.0.0 p.0.0 b.0.0 a.0.0) d a.2 in
    let e = if_true (bytes_eq v.0.1 (codes ")")) (Some (made i.0.0 s.0.0 p.0.0 b.0.0 a.0.0 v.0.0)) d v.2 in
    let is : made i.0.0 s.0.0 p.0.0 b.0.0 a.0.0 v.0.0 ≡ d = some_same (made i.0.0 s.0.0 p.0.0 b.0.0 a.0.0 v.0.0) d e.1 in
    let inputs = members_sound head (codes "(\"") (codes ",[\"out\"])") bytes i.0.1 i.0.0 i.1 in
    let sources = members_sound (codes ",[") (codes "\"") [] i.0.1 s.0.1 s.0.0 s.1 in
    let platform = string_sound (codes ",\"") s.0.1 p.0.1 p.0.0 p.1 in
    let builder = string_sound (codes ",\"") p.0.1 b.0.1 b.0.0 b.1 in
    let arguments = members_sound (codes ",[") (codes "\"") [] b.0.1 a.0.1 a.0.0 a.1 in
    let environment = variables_sound (codes ",[") a.0.1 v.0.1 v.0.0 v.1 in
    let end : v.0.1 ≡ codes ")" = same_text v.0.1 (codes ")") (sym e.0) in
    let whole : bytes ≡ derivation_text (made i.0.0 s.0.0 p.0.0 b.0.0 a.0.0 v.0.0) =
    inputs
    ∙ ap (λ r. head ++ (members_text (codes "(\"") (codes ",[\"out\"])") [] i.0.0 ++ r))
    (sources ∙ ap (λ r. codes ",[" ++ (members_text (codes "\"") [] [] s.0.0 ++ r))
    (platform ∙ ap (λ r. codes ",\"" ++ (closed p.0.0 ++ r))
    (builder ∙ ap (λ r. codes ",\"" ++ (closed b.0.0 ++ r))
    (arguments ∙ ap (λ r. codes ",[" ++ (members_text (codes "\"") [] [] a.0.0 ++ r))
    (environment ∙ ap (λ r. codes ",[" ++ (variables_text [] v.0.0 ++ r)) end)))))
    ∙ sym (text_is (made i.0.0 s.0.0 p.0.0 b.0.0 a.0.0 v.0.0)) in
    let Sound : Derivation → Type 0 = λ x. derivation_text x ≡ bytes in
    subst Sound is (sym whole)
