-- Aids of proofs: how the prover tells settled trees apart, and where a tree with its path comes from. No definition rests on them.
use Rattle.std.specs.Prelude.{◌≡◌, ℕ, List, All, Contains, Ok, refl}
use Rattle.std.specs.Coded.{Coded, code_by, coded×, coded_ℕ, coded_list}
use Rattle.model.specs.TreeCode.{tree_code}
use Rattle.model.specs.Archives.{Tree, IsTree, nar}
use Rattle.model.specs.Paths.{Source, with_fingerprint, IsPath}
use Rattle.model.specs.Occurrences.{IsHashPart}
use Rattle.model.specs.Settling.{Settled, settled, given, settling_texts}

-- by which the prover tells settled trees apart
abbrev pub settled_code : Coded Settled
settled_code =
    code_by (List ℕ × (Tree × (List (List ℕ) × List ℕ)))
    (coded× (coded_list coded_ℕ) (coded× tree_code (coded× (coded_list (coded_list coded_ℕ)) (coded_list coded_ℕ))))
    (λ s. (s.path, (s.tree, (s.references, s.self_offsets))))
    (λ p. record { path = p.0; tree = p.1.0; references = p.1.1.0; self_offsets = p.1.1.1 }) (λ _. refl)

-- a tree with its path: one that was settled, or a source
pub data IsNamed (value : Settled) : Type 0 where
  Built : (tree : Tree) → (self_part : List ℕ) → (candidates : List (List ℕ)) → (name : List ℕ)
      → IsTree tree → settled tree self_part candidates name ≡ Ok value → IsNamed value
  Given : (tree : Tree) → (name : List ℕ) → IsTree tree → value ≡ given tree name → IsNamed value

-- a tree with its path, which was made by texts that are all among these
pub data IsMade (texts : List (List ℕ)) (value : Settled) : Type 0 where
  MadeOutput : (tree : Tree) → (self_part : List ℕ) → (candidates : List (List ℕ)) → (name : List ℕ)
      → IsTree tree → IsHashPart self_part → All IsPath candidates
      → settled tree self_part candidates name ≡ Ok value → All (Contains texts) (settling_texts tree self_part candidates name) → IsMade texts value
  MadeSource : (tree : Tree) → (name : List ℕ) → IsTree tree → value ≡ given tree name
      → All (Contains texts) (with_fingerprint Source (nar tree) name) → IsMade texts value
