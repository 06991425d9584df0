-- What is built for a goal names what is on its user's desk.
use Rattle.std.proofs.Common.{◌≡◌, ◌∙◌, ℕ, ap, sym, subst, List, [], ◌∷◌, ◌++◌, Option, Some, Result, Ok, Err}
use Rattle.std.specs.Prelude.{All, map}
use Rattle.std.proofs.lemmas.List.{map_push}
use Rattle.std.proofs.lemmas.List.Elements.{All-filter, All-map, All-push}
use Rattle.model.specs.declared.refusal.Refusal.{Refusal}
use Rattle.model.specs.declared.refusal.RewriteFault.{RewriteFault}
use Rattle.model.specs.Archives.{Tree, IsTree}
use Rattle.model.specs.Paths.{IsPath}
use Rattle.model.specs.Occurrences.{IsHashPart}
use Rattle.model.specs.Settling as settling
use Rattle.model.specs.Settling.{hash_part_in}
use Rattle.model.specs.Classes.{Admission, Known, is_one_of}
use Rattle.model.specs.Worlds.{Label, Record, Resolved, Goal}
use Rattle.model.specs.Goals.{goal_at}
use Rattle.model.specs.References.{paths_of_labels, labels_of}
use Rattle.model.specs.Outputs.{settled_under, record_for}
use Rattle.model.specs.Endings.{labels_from, label_of_entry}
use Rattle.model.specs.Results.{then_do, unless_rewrite_refused}
use Rattle.records.specs.Recorded.{Recorded, with_tree}
use Rattle.realise.specs.Holdings.{Holdings}
use Rattle.endings.specs.Built.{built_of, record_under, IsOn, IsClosedBuilt, HasInput, HasInputFrom, HasInputOf, HaveInputs, numbered, built_output, built_at}
use Rattle.records.proofs.LabelLemmas.{all_in_order}

-- ---- what it refers to

labels_on : (d : Holdings) (r : Resolved) → All (λ e. IsOn d (label_of_entry e)) r.closure → All (IsOn d) (labels_from r)
labels_on d r on = all_in_order (IsOn d) (map label_of_entry r.closure) (All-map (IsOn d) label_of_entry r.closure on)

-- the record of one tree
one_closed : (d : Holdings) (labels : List Label) (a : Admission) (settled : Result settling.Settled RewriteFault) (b : Recorded × Tree) → All (IsOn d) labels
    → Ok (with_tree b.1 b.0) ≡ then_do (unless_rewrite_refused settled) (λ s. Ok (record_for labels a s)) → All (IsOn d) b.0.labels
one_closed d labels a (Err why) b on is = cc
one_closed d labels a (Ok s) b on is =
    let same : with_tree b.1 b.0 ≡ record_for labels a s = cc in
    let own : b.0.labels ≡ labels_of s.references labels = ap (λ (q : Record). q.labels) same in
    rw own (All-filter (λ l. is_one_of s.references l.path) (IsOn d) labels on)

pub built_closed : (d : Holdings) (r : Resolved) (a : Admission) (path : List ℕ) (labels : List Label) (tree : Tree) (built : Result (Recorded × Tree) Refusal)
    → labels ≡ labels_from r → built_of built ≡ record_under path labels a tree → All (λ e. IsOn d (label_of_entry e)) r.closure → IsClosedBuilt d built
built_closed d r a path labels tree (Err why) are is on = tt
built_closed d r a path labels tree (Ok b) are is on =
    one_closed d labels a (settled_under path labels a tree) b (subst (All (IsOn d)) (sym are) (labels_on d r on)) is

-- ---- what is hashed

pub has_input : (tree : Tree) (r : Resolved) (built : Result (Recorded × Tree) Refusal) → IsTree tree → IsHashPart (hash_part_in r.scratch)
    → All IsPath (paths_of_labels (labels_from r)) → HasInput tree (Some r) built
has_input tree r (Err why) sound own paths = tt
has_input tree r (Ok b) sound own paths = (sound, (own, paths))

-- one more at the end
pub inputs_more : (output : Option Tree) (goals : List Goal) (number : ℕ) (g : Goal) (built : Result (Recorded × Tree) Refusal)
    (old new : List (ℕ × Result (Recorded × Tree) Refusal)) → new ≡ old ++ (number, built) ∷ [] → goal_at number goals ≡ Some g
    → HasInputFrom output g.resolved built → HaveInputs output goals old → HaveInputs output goals new
inputs_more output goals number g built old new is there input before =
    let own : HasInputOf output (goal_at number goals) built = subst (λ o. HasInputOf output o built) (sym there) input in
    rw is (All-push (λ x. HasInputOf output (goal_at x.0 goals) x.1) old (number, built) before own)

-- ---- for one goal after another

module _ (known : Known) (output : Option Tree) where
  -- one more at the end
  pub built_more : (number : ℕ) (goal : Option Goal) (g : Goal) (built : Result (Recorded × Tree) Refusal)
      (old new : List (ℕ × Result (Recorded × Tree) Refusal)) → goal ≡ Some g → new ≡ old ++ (number, built) ∷ []
      → built_of built ≡ built_output known output g → map numbered new ≡ map numbered old ++ built_at known output number goal
  built_more number goal g built old new some is own =
      ap (map numbered) is ∙ map_push numbered old (number, built) ∙ ap (λ b. map numbered old ++ (number, b) ∷ []) own
      ∙ ap (λ o. map numbered old ++ built_at known output number o) (sym some)
