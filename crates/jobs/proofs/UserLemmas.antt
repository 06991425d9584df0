-- The goals of one user among those of all.
use Rattle.std.proofs.Common.{◌≡◌, ℕ, ◌<◌, List, [], ◌∷◌, map, length, refl, sym, ◌∙◌, ap, get_or}
use Rattle.std.proofs.lemmas.List.{length-map}
use Rattle.std.specs.Prelude.{slice_set, slice_index_or, Result, Ok, Err, OnOk}
use Rattle.std.proofs.Math.Seq.{map-set_same}
use Rattle.std.proofs.lemmas.List.{map-set, get_or-map}
use Rattle.model.specs.Worlds.{Goal}
use Rattle.jobs.specs.Owned.{Owned, OwnedByAll, with_goals, goals_at, with_goals_at, all_of}

-- no goals, of each of these users
abbrev pub no_goals : List (List ℕ) → List Owned
no_goals users = map (λ u. record { owner = u; goals = [] }) users

pub all_without : (users : List (List ℕ)) → all_of (no_goals users) ≡ record { users = users; goals = map (λ u. []) users }
all_without users = λ i. record { users = owners users i; goals = nothing users i }
  where
    owners : (us : List (List ℕ)) → map (λ (o : Owned). o.owner) (no_goals us) ≡ us
    owners [] = refl
    owners (u ∷ us) = ap (λ r. u ∷ r) (owners us)

    nothing : (us : List (List ℕ)) → map (λ (o : Owned). o.goals) (no_goals us) ≡ map (λ u. []) us
    nothing [] = refl
    nothing (u ∷ us) = ap (λ r. [] ∷ r) (nothing us)

pub as_many : (all : OwnedByAll) (each : List Owned) → all_of each ≡ all → length all.goals ≡ length each
as_many all each same = ap (λ (v : OwnedByAll). length v.goals) (sym same) ∙ length-map each (λ (o : Owned). o.goals)

inside : (all : OwnedByAll) (each : List Owned) (place : ℕ) → all_of each ≡ all → place < length all.goals → place < length each
inside all each place same below = rw (as_many all each same) at below

-- the goals that are read
pub goals_read : (all : OwnedByAll) (each : List Owned) (place : ℕ) (x : Owned) → all_of each ≡ all → place < length all.goals → x ≡ slice_index_or each place x
    → goals_at place all ≡ x.goals
goals_read all each place x same below read =
    ap (goals_at place) (sym same) ∙ get_or-map (λ (o : Owned). o.goals) each place x [] (inside all each place same below)
    ∙ ap (λ (o : Owned). o.goals) (sym read)

pub owner_read : (all : OwnedByAll) (each : List Owned) (place : ℕ) (x : Owned) → all_of each ≡ all → place < length all.goals → x ≡ slice_index_or each place x
    → get_or all.users place [] ≡ x.owner
owner_read all each place x same below read =
    ap (λ (v : OwnedByAll). get_or v.users place []) (sym same) ∙ get_or-map (λ (o : Owned). o.owner) each place x [] (inside all each place same below)
    ∙ ap (λ (o : Owned). o.owner) (sym read)

-- the goals that are written
pub goals_written : (all : OwnedByAll) (each : List Owned) (place : ℕ) (x y : Owned) (f : List Goal → List Goal) → all_of each ≡ all → place < length all.goals
    → x ≡ slice_index_or each place x → y ≡ with_goals (f x.goals) x → all_of (slice_set each place y) ≡ with_goals_at place (f (goals_at place all)) all
goals_written all each place x y f same below read is =
    let owner : y.owner ≡ (get_or each place x).owner = ap (λ (o : Owned). o.owner) is ∙ ap (λ (o : Owned). o.owner) read in
    let users : map (λ (o : Owned). o.owner) (slice_set each place y) ≡ all.users =
    map-set_same (λ (o : Owned). o.owner) each place y x owner ∙ ap (λ (v : OwnedByAll). v.users) same in
    let value : y.goals ≡ f (goals_at place all) = ap (λ (o : Owned). o.goals) is ∙ ap f (sym (goals_read all each place x same below read)) in
    let goals : map (λ (o : Owned). o.goals) (slice_set each place y) ≡ slice_set all.goals place (f (goals_at place all)) =
    map-set (λ (o : Owned). o.goals) each place y ∙ (λ i. slice_set (ap (λ (v : OwnedByAll). v.goals) same i) place (value i)) in
    λ i. record { users = users i; goals = goals i }

pub on_ok : {A E P Q : Type 0} → (r : Result A E) → (P → Q) → OnOk r P → OnOk r Q
on_ok (Ok x) f h = f h
on_ok (Err e) f h = h
