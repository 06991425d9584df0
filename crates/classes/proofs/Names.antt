-- The name of a derivation's file.
use Rattle.std.proofs.Common.{◌≡◌, ℕ, ◌+◌, true, not, ◌&&◌, List, [], ◌∷◌, ◌++◌, length, codes, refl, ap, ◌∙◌, arith, length-append}
use Rattle.std.specs.Prelude.{nat_lt, nat_le}
use Rattle.std.specs.List.{list_all}
use Rattle.std.proofs.lemmas.List.Folds.{list_all-append}
use Rattle.std.proofs.lemmas.Bool.Decides.{nat_tests}
use Rattle.std.proofs.lemmas.Bool.{and_from}
use Rattle.model.specs.Paths.{begins_with_dot, is_name, is_name_byte}
use Rattle.model.specs.Derivations.{is_derivation_name}
use Rattle.model.proofs.BoolLemmas.{both_parts}

first_stays : (name suffix : List ℕ) → nat_lt 0 (length name) ≡ true → begins_with_dot (name ++ suffix) ≡ begins_with_dot name
first_stays [] suffix h = cc
first_stays (b ∷ bs) suffix h = refl

-- it is one, since there is room for `.drv`
pub file_name_is : (name : List ℕ) → is_derivation_name name ≡ true → is_name (name ++ codes ".drv") ≡ true
unfolding is_name
file_name_is name h =
    let both = both_parts (is_name name) (nat_le (length name) 207) h in
    let some = both_parts (nat_lt 0 (length name)) (nat_le (length name) 211 && (not (begins_with_dot name) && list_all is_name_byte name)) both.0 in
    let short = both_parts (nat_le (length name) 211) (not (begins_with_dot name) && list_all is_name_byte name) some.1 in
    let bytes = both_parts (not (begins_with_dot name)) (list_all is_name_byte name) short.1 in
    let long : length (name ++ codes ".drv") ≡ length name + 4 = length-append name (codes ".drv") in
    let some' : nat_lt 0 (length (name ++ codes ".drv")) ≡ true = grind (arith, nat_tests) in
    let fits : nat_le (length (name ++ codes ".drv")) 211 ≡ true = grind (arith, nat_tests) in
    let no_dot : not (begins_with_dot (name ++ codes ".drv")) ≡ true = ap not (first_stays name (codes ".drv") some.0) ∙ bytes.0 in
    let are : list_all is_name_byte (name ++ codes ".drv") ≡ true = list_all-append is_name_byte name (codes ".drv") ∙ and_from (list_all is_name_byte name) true bytes.1 refl in
    and_from (nat_lt 0 (length (name ++ codes ".drv"))) (nat_le (length (name ++ codes ".drv")) 211 && (not (begins_with_dot (name ++ codes ".drv")) && list_all is_name_byte (name ++ codes ".drv"))) some'
    (and_from (nat_le (length (name ++ codes ".drv")) 211) (not (begins_with_dot (name ++ codes ".drv")) && list_all is_name_byte (name ++ codes ".drv")) fits
    (and_from (not (begins_with_dot (name ++ codes ".drv"))) (list_all is_name_byte (name ++ codes ".drv")) no_dot are))
