-- Trees that are put into the table one after another.
use Rattle.std.proofs.Common.{ℕ, List, [], ◌∷◌, ◌++◌, refl, map, subst}
use Rattle.std.specs.Prelude.{All}
use Rattle.std.proofs.lemmas.List.Elements.{All-nil, All-cons, All-head, All-tail}
use Rattle.model.specs.Worlds.{Source}
use Rattle.store.specs.Stored.{put_once, put_all}
use Rattle.store.proofs.TableLemmas.{put_once-All, found_holds}
use Rattle.handlers.specs.Stored.{AreTaken}
use Rattle.handlers.specs.Sound.{IsHashed, Clashes}

pub put_all-All : (P : Source → Type 0) (more old : List Source) → All P old → All P more → All P (put_all more old)
put_all-All P [] old all own = all
put_all-All P (s ∷ more) old all own =
    put_all-All P more (put_once s old) (put_once-All P s old all (All-head P s more own)) (All-tail P s more own)

-- what holds of all holds of those in front
pub all_front : {X : Type 0} (P : X → Type 0) (xs ys : List X) → All P (xs ++ ys) → All P xs
all_front P [] ys all = All-nil P
all_front P (x ∷ xs) ys all = All-cons P x xs (All-head P x (xs ++ ys) all) (all_front P xs ys (All-tail P x (xs ++ ys) all))

pub all_before : (P : Source → Type 0) (xs : List Source) (y : Source) (zs : List Source) → All P (xs ++ y ∷ zs) → All P xs
all_before P xs y zs all = all_front P xs (y ∷ zs) all

pub all_between : (P : Source → Type 0) (xs : List Source) (y : Source) (zs : List Source) → All P (xs ++ y ∷ zs) → P y
all_between P [] y zs all = All-head P y zs all
all_between P (x ∷ xs) y zs all = all_between P xs y zs (All-tail P x (xs ++ y ∷ zs) all)

-- what holds of images holds of what they are of
pub unmapped : {X Y : Type 0} (P : Y → Type 0) (f : X → Y) (xs : List X) → All P (map f xs) → All (λ x. P (f x)) xs
unmapped P f [] all = All-nil (λ x. P (f x))
unmapped P f (x ∷ xs) all = All-cons (λ x. P (f x)) x xs (All-head P (f x) (map f xs) all) (unmapped P f xs (All-tail P (f x) (map f xs) all))

-- where one of these comes to a path where another tree is, two trees have one path
pub taken_clash : (texts : List (List ℕ)) (old more : List Source) → All (IsHashed texts) old → All (IsHashed texts) more → AreTaken old more → Clashes texts
taken_clash texts old more hashed own are =
    let s : Source = are.source in
    let all : All (IsHashed texts) (are.before ++ s ∷ are.behind) = subst (All (IsHashed texts)) are.parts own in
    record {
      one = record { path = s.path; tree = are.taken.had };
      other = s;
      one_hashed = found_holds (IsHashed texts) (put_all are.before old) s.path are.taken.had
          (put_all-All (IsHashed texts) are.before old hashed (all_before (IsHashed texts) are.before s are.behind all)) are.taken.there;
      other_hashed = all_between (IsHashed texts) are.before s are.behind all;
      one_path = refl;
      two_trees = are.taken.other;
    }
