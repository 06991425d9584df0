-- Distinct names, put into a set one after another.
use Rattle.std.proofs.Common.{◌≡◌, ◌≤◌, ℕ, Bool, true, false, refl, ap, sym, ◌∙◌, List, [], arith}
use Rattle.std.specs.Prelude.{◌∷◌, ◌++◌, ◌&&◌, ◌||◌, not, nat_lt, nat_le, length, bytes_eq}
use Rattle.std.specs.List.{list_any, list_all}
use Rattle.std.proofs.lemmas.Bool.{or_parts, not-true}
use Rattle.std.proofs.lemmas.Bool.Decides.{nat_tests}
use Rattle.std.proofs.lemmas.List.Folds.{list_any-append}
use Rattle.model.specs.Reach.{is_among}
use Rattle.model.specs.Worlds.{are_distinct, are_users, is_user_name}
use Rattle.model.proofs.BoolLemmas.{both_parts}
use Rattle.model.specs.Limits.{most_users}

-- a name behind others, in a list of distinct names, is none of them
pub not_before : (names : List (List ℕ)) (name : List ℕ) (rest : List (List ℕ)) → are_distinct (names ++ name ∷ rest) ≡ true
    → list_any (bytes_eq name) names ≡ false
unfolding are_distinct
not_before [] name rest distinct = refl
not_before (n ∷ ns) name rest distinct =
    let all : List (List ℕ) = ns ++ name ∷ rest in
    let parts = both_parts (not (is_among n all)) (are_distinct all) distinct in
    let absent : (is_among n ns || is_among n (name ∷ rest)) ≡ false =
    sym (list_any-append (λ m. bytes_eq m n) ns (name ∷ rest)) ∙ not-true (is_among n all) parts.0 in
    let other : bytes_eq name n ≡ false = (or_parts (bytes_eq name n) (is_among n rest) (or_parts (is_among n ns) (is_among n (name ∷ rest)) absent).1).0 in
    rw other (not_before ns name rest parts.1)

-- a list of users has at most 64, and none of them twice
pub distinct_users : (users : List (List ℕ)) → are_users users ≡ true → are_distinct users ≡ true
unfolding are_users
distinct_users users listed =
    let rest : Bool = list_all is_user_name users && are_distinct users in
    let named : rest ≡ true =
    (both_parts (nat_le (length users) most_users) rest (both_parts (nat_lt 0 (length users)) (nat_le (length users) most_users && rest) listed).1).1 in
    (both_parts (list_all is_user_name users) (are_distinct users) named).1

pub few_users : (users : List (List ℕ)) → are_users users ≡ true → length users ≤ most_users
unfolding are_users
few_users users listed =
    let rest : Bool = list_all is_user_name users && are_distinct users in
    let few : nat_le (length users) most_users ≡ true =
    (both_parts (nat_le (length users) most_users) rest (both_parts (nat_lt 0 (length users)) (nat_le (length users) most_users && rest) listed).1).0 in
    grind (arith, nat_tests, few)
