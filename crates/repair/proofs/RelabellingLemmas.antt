-- How the labels of a record are replaced.
use Rattle.std.proofs.Common.{◌≡◌, ◌⊎◌, ℕ, ◌+◌, ◌<◌, true, false, inl, inr, refl, sym, ◌∙◌, ap, subst, List, [], ◌∷◌, length, get_or, take, Option, None, Some, Result, Ok, Err}
use Rattle.std.specs.Prelude.{All, MatchResult, IfOk, IfErr, IfSome}
use Rattle.std.specs.List.{list_any}
use Rattle.std.proofs.lemmas.List.{map_push}
use Rattle.std.proofs.lemmas.List.Elements.{All-nil, All-cons, All-head, All-tail, All-push}
use Rattle.model.specs.declared.refusal.Refusal.{Refusal}
use Rattle.model.specs.declared.refusal.Refusal.TheVariants.{RewriteRefused, Memory}
use Rattle.model.specs.declared.refusal.RewriteFault.TheVariants.{InName, Overlap, Accidental}
use Rattle.model.specs.Results.{unless_rewrite_refused}
use Rattle.model.specs.Archives.{Tree}
use Rattle.model.specs.Paths.{IsPath}
use Rattle.model.specs.Occurrences.{among, fault}
use Rattle.model.specs.Substitutions.{Images, keys_of, put, is_true_put}
use Rattle.model.specs.Settling.{Settled, hash_part_in}
use Rattle.model.specs.Worlds.{Label, Record}
use Rattle.model.specs.References.{paths_of_labels}
use Rattle.model.specs.Repairs.{Replacement, changes_path, is_replaced_by, images_of, put_unless, substituted, rewritten, new_labels, resettled, repaired, relabelled}
use Rattle.scan.specs.Refusing.{IsFault}
use Rattle.rewrite.specs.Refusing.{IsAccident}
use Rattle.rewrite.proofs.StepLemmas.{take_next}
use Rattle.repair.specs.Relabelling.{IsRefused, IsRewritten, IsNotRewritten, resettled_with, settled_as}

-- ---- labels

-- one label more has a path that is one
pub paths_step : (labels : List Label) (k : ℕ) (l : Label) → k < length labels → l ≡ get_or labels k l → All IsPath (paths_of_labels (take k labels))
    → IsPath l.path
    → All IsPath (paths_of_labels (take (k + 1) labels))
paths_step labels k l lt is all path =
    subst (All IsPath) (sym (ap paths_of_labels (take_next labels k l lt is) ∙ map_push (λ (m : Label). m.path) (take k labels) l))
    (All-push IsPath (paths_of_labels (take k labels)) l.path all path)

-- the paths of all labels are paths
pub label_paths : (labels : List Label) → All IsPath (paths_of_labels labels) → All (λ l. IsPath l.path) labels
label_paths [] all = All-nil (λ (l : Label). IsPath l.path)
label_paths (l ∷ ls) all =
    All-cons (λ (l : Label). IsPath l.path) l ls (All-head IsPath l.path (paths_of_labels ls) all) (label_paths ls (All-tail IsPath l.path (paths_of_labels ls) all))

-- what holds at any rate holds where a result is given
pub if_any : {X E : Type 0} (o : Result X E) (P : Type 0) → P → IfOk o (λ x. P)
if_any (Ok x) P p = p
if_any (Err e) P p = tt

-- and what follows from what is said of a value, where there is one
pub if_some : {X : Type 0} (o : Option X) (P Q : Type 0) → (P → Q) → IfSome o (λ _. P) → IfSome o (λ _. Q)
if_some None P Q f h = tt
if_some (Some x) P Q f h = f h

-- ---- a tree with its hash parts put anew

substituted_ok : (images : Images) (tree new : Tree) → fault (among (keys_of images)) tree ≡ None → is_true_put images tree ≡ true → new ≡ put images tree
    → substituted images tree ≡ Ok new
unfolding substituted
substituted_ok images tree new sound truly is = rw (sound, truly) (ap Ok (sym is))

substituted_accident : (images : Images) (tree : Tree) (why : Refusal) → fault (among (keys_of images)) tree ≡ None
    → IsAccident (is_true_put images tree ≡ false) why
    → IsRefused (substituted images tree) why
unfolding substituted
substituted_accident images tree (RewriteRefused Accidental) sound is = inr (rw (sound, is) refl)
substituted_accident images tree (RewriteRefused InName) sound is = absurd is
substituted_accident images tree (RewriteRefused Overlap) sound is = absurd is
substituted_accident images tree Memory sound is = inl refl
substituted_accident images tree why sound is = absurd is

substituted_fault : (images : Images) (tree : Tree) (why : Refusal) → IsFault (fault (among (keys_of images)) tree) why
    → IsRefused (substituted images tree) why
unfolding substituted
substituted_fault images tree (RewriteRefused why) is = inr (ap (λ f. unless_rewrite_refused (put_unless f images tree)) is)
substituted_fault images tree Memory is = inl refl
substituted_fault images tree why is = absurd is

is_rewritten : (r : Record) (replacements : List Replacement) (images : Images) (tree : Tree) → images ≡ images_of (hash_part_in r.path) replacements
    → tree ≡ r.tree
    → substituted images tree ≡ rewritten r replacements
is_rewritten r replacements images tree i t = λ j. substituted (i j) (t j)

-- by a substitution where no fault was found
pub rewritten_by : (r : Record) (replacements : List Replacement) (images : Images) (tree : Tree) (o : Result Tree Refusal)
    → images ≡ images_of (hash_part_in r.path) replacements
    → tree ≡ r.tree → fault (among (keys_of images)) tree ≡ None → IfOk o (λ new. new ≡ put images tree) → IfOk o (λ _. is_true_put images tree ≡ true)
    → IfErr o (IsAccident (is_true_put images tree ≡ false)) → MatchResult o (IsRewritten r replacements) (IsNotRewritten r replacements)
rewritten_by r replacements images tree (Ok new) i t sound is truly why = sym (is_rewritten r replacements images tree i t) ∙ substituted_ok images tree new sound truly is
rewritten_by r replacements images tree (Err e) i t sound is truly why =
    subst (λ o. IsRefused o e) (is_rewritten r replacements images tree i t) (substituted_accident images tree e sound why)

-- where one was found
pub rewritten_fault : (r : Record) (replacements : List Replacement) (images : Images) (tree : Tree) (keys : List (List ℕ)) (why : Refusal)
    → images ≡ images_of (hash_part_in r.path) replacements → tree ≡ r.tree → keys ≡ keys_of images → IsFault (fault (among keys) tree) why
    → IsNotRewritten r replacements why
rewritten_fault r replacements images tree keys why i t k is =
    subst (λ o. IsRefused o why) (is_rewritten r replacements images tree i t)
    (substituted_fault images tree why (subst (λ ks. IsFault (fault (among ks) tree) why) k is))

-- ---- a record whose labels are replaced

-- which is repaired by what its tree was rewritten to and then settled as
pub repaired_by : (r : Record) (replacements : List Replacement) (labels : List Label) (tree : Tree) (s : Settled) (o : Result Record Refusal)
    → rewritten r replacements ≡ Ok tree
    → labels ≡ new_labels replacements → resettled_with r labels tree ≡ Ok s → MatchResult o (λ made. made ≡ settled_as r labels s) (λ e. e ≡ Memory)
    → MatchResult o (λ made. repaired r replacements ≡ Ok made) (λ e. (e ≡ Memory) ⊎ (repaired r replacements ≡ Err e))
repaired_by r replacements labels tree s (Ok made) new are settled is =
    let done : resettled r replacements tree ≡ Ok s = ap (λ ls. resettled_with r ls tree) (sym are) ∙ settled in
    rw (new, done) (ap Ok (sym (is ∙ ap (λ ls. settled_as r ls s) are)))
repaired_by r replacements labels tree s (Err e) new are settled is = inl is

pub relabelled_not : (r copy : Record) (replacements : List Replacement) → false ≡ list_any changes_path replacements → copy ≡ r
    → relabelled r replacements ≡ Ok copy
unfolding relabelled
relabelled_not r copy replacements f c = rw (← f) (ap Ok (sym c))

pub relabelled_own : (r : Record) (replacements : List Replacement) → true ≡ list_any changes_path replacements
    → true ≡ list_any (is_replaced_by r.path) replacements
    → relabelled r replacements ≡ Err (RewriteRefused Accidental)
unfolding relabelled
relabelled_own r replacements t u = rw (← t, ← u) refl

pub relabelled_by : (r : Record) (replacements : List Replacement) → true ≡ list_any changes_path replacements
    → false ≡ list_any (is_replaced_by r.path) replacements → relabelled r replacements ≡ repaired r replacements
unfolding relabelled
relabelled_by r replacements t f = rw (← t, ← f) refl
