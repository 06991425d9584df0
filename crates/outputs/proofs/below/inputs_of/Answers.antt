use Rattle.std.proofs.Common.{◌≡◌, ◌||◌, [], ◌∷◌, refl, ◌∙◌, ap}
use Rattle.std.specs.Prelude.{bytes_eq, filter_map, Some, None, Option, List, ℕ}
use Rattle.std.specs.List.{list_any}
use Rattle.model.specs.Classes.{Admission, Known, known_at, is_one_of}
use Rattle.model.specs.References.{is_class_of}
use Rattle.model.specs.Resolutions.{class_at}
use Rattle.std.proofs.lemmas.Result.{MatchResult-weaker}
use Rattle.outputs.proofs.below.inputs_of.Goals as goal

-- one input more
among_more : (known : Known) (path : List ℕ) (inputs : List (List ℕ)) (class : List ℕ) (found : Option Admission) → known_at known path ≡ found
    → is_one_of (filter_map (class_at known) inputs) class ≡ list_any (λ p. is_class_of class (known_at known p)) inputs
    → is_one_of (filter_map (class_at known) (path ∷ inputs)) class ≡ list_any (λ p. is_class_of class (known_at known p)) (path ∷ inputs)
among_more known path inputs class None is rest = rw is rest
among_more known path inputs class (Some a) is rest = rw is (ap (λ b. bytes_eq a.class.path class || b) rest)

-- a class is among those of the inputs where an input is of this class
among_classes : (known : Known) (inputs : List (List ℕ)) (class : List ℕ)
    → is_one_of (filter_map (class_at known) inputs) class ≡ list_any (λ p. is_class_of class (known_at known p)) inputs
among_classes known [] class = refl
among_classes known (path ∷ inputs) class = among_more known path inputs class (known_at known path) refl (among_classes known inputs class)

pub returns : goal.returns
returns c =
    let known = c.args.known.now in
    let d = c.args.derivation.now in
    let classes = c.deref.ensures.value ∙ c.in_ok-input_classes.ensures in
    MatchResult-weaker c.set_of.result c.set_of.ensures
    (λ set is class. is class ∙ ap (λ cs. is_one_of cs class) classes ∙ among_classes known d.inputs class) (λ e memory. memory)
