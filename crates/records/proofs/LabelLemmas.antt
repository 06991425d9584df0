-- What holds of labels holds of them in order.
use Rattle.std.proofs.Common.{Bool, true, false, List, [], ◌∷◌}
use Rattle.std.specs.Prelude.{All, bytes_eq, if◌then◌else◌}
use Rattle.std.proofs.lemmas.List.Elements.{All-nil, All-cons, All-head, All-tail}
use Rattle.model.specs.Archives.{bytes_before}
use Rattle.model.specs.Worlds.{Label}
use Rattle.model.specs.References.{class_before, least_label, with_label, labels_in_order}

pub whichever : {X : Type 0} (P : X → Type 0) (b : Bool) (x y : X) → P x → P y → P (if b then x else y)
whichever P true x y p q = p
whichever P false x y p q = q

module _ (P : Label → Type 0) where
  all_with : (l : Label) (ls : List Label) → P l → All P ls → All P (with_label l ls)
  all_with l [] one all = All-cons P l [] one all
  all_with l (first ∷ others) one all =
      let front : P first = All-head P first others all in
      let back : All P others = All-tail P first others all in
      whichever (All P) (bytes_before first.path l.path) (first ∷ with_label l others) _
      (All-cons P first (with_label l others) front (all_with l others one back))
      (whichever (All P) (bytes_eq first.path l.path) (least_label first l ∷ others) (l ∷ first ∷ others)
      (All-cons P (least_label first l) others (whichever P (class_before l.class first.class) l first one front) back) (All-cons P l (first ∷ others) one all))

  pub all_in_order : (ls : List Label) → All P ls → All P (labels_in_order ls)
  all_in_order [] all = All-nil P
  all_in_order (l ∷ ls) all = all_with l (labels_in_order ls) (All-head P l ls all) (all_in_order ls (All-tail P l ls all))
