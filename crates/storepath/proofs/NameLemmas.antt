-- What a name is.
use Rattle.std.proofs.Common.{◌≡◌, ◌≢◌, ℕ, suc, ◌<◌, ◌≤◌, Bool, true, false, List, [], ◌∷◌, length, get_or, refl, arith}
use Rattle.std.specs.Prelude.{◌&&◌, not, nat_lt, nat_le, ◌==◌}
use Rattle.std.specs.List.{list_all}
use Rattle.std.specs.Str.{IsAscii}
use Rattle.std.proofs.lemmas.Bool.Decides.{nat_tests, Decides-ltb}
use Rattle.std.proofs.lemmas.Bool.{leb-true, and_parts}
use Rattle.std.proofs.lemmas.Str.Ascii.{IsAscii-nil, IsAscii-cons}
use Rattle.model.specs.Paths.{is_name, is_name_byte, begins_with_dot}

not_both : (a b : Bool) → (a && (b && false)) ≡ false
not_both true true = refl
not_both true false = refl
not_both false b = refl

pub is_name-empty : (text : List ℕ) → length text ≡ 0 → is_name text ≡ false
unfolding is_name
is_name-empty [] h = refl
is_name-empty (b ∷ bs) h = absurd (omega (arith, h))

pub is_name-long : (text : List ℕ) → 211 < length text → is_name text ≡ false
unfolding is_name
is_name-long [] h = refl
is_name-long (b ∷ bs) h = let over : nat_le (suc (length bs)) 211 ≡ false = grind (arith, nat_tests) in
    let some : nat_lt 0 (suc (length bs)) ≡ true = grind (arith, nat_tests) in rw (over, some) refl

pub is_name-dot : (text : List ℕ) → get_or text 0 0 ≡ 46 → is_name text ≡ false
unfolding is_name
is_name-dot [] h = refl
is_name-dot (b ∷ bs) h = let dot : (b == 46) ≡ true = grind (arith, nat_tests) in rw dot (not_both (nat_lt 0 (suc (length bs))) (nat_le (suc (length bs)) 211))

pub is_name-within : (text : List ℕ) → 0 < length text → length text ≤ 211 → get_or text 0 0 ≢ 46 → is_name text ≡ list_all is_name_byte text
unfolding is_name
is_name-within [] some short other = absurd (omega arith)
is_name-within (b ∷ bs) some short other =
    let under : nat_le (suc (length bs)) 211 ≡ true = grind (arith, nat_tests) in
    let no_dot : (b == 46) ≡ false = grind (arith, nat_tests) in
    let nonempty : nat_lt 0 (suc (length bs)) ≡ true = grind (arith, nat_tests) in
    rw (nonempty, under, no_dot) refl

pub is_name-parts : (text : List ℕ) → is_name text ≡ true → (0 < length text) × ((length text ≤ 211) × (list_all is_name_byte text ≡ true))
unfolding is_name
is_name-parts text h =
    let first = and_parts (nat_lt 0 (length text)) (nat_le (length text) 211 && (not (begins_with_dot text) && list_all is_name_byte text)) h in
    let second = and_parts (nat_le (length text) 211) (not (begins_with_dot text) && list_all is_name_byte text) first.1 in
    let third = and_parts (not (begins_with_dot text)) (list_all is_name_byte text) second.1 in
    ((Decides-ltb 0 (length text)).0 first.0, (leb-true (length text) 211 second.0, third.1))

name_byte_is_ascii : (b : ℕ) → is_name_byte b ≡ true → b < 128
name_byte_is_ascii b h = grind (arith, nat_tests)

name_bytes_are_ascii : (text : List ℕ) → list_all is_name_byte text ≡ true → IsAscii text
name_bytes_are_ascii [] h = IsAscii-nil
name_bytes_are_ascii (b ∷ bs) h =
    let parts = and_parts (is_name_byte b) (list_all is_name_byte bs) h in
    IsAscii-cons b bs (name_byte_is_ascii b parts.0) (name_bytes_are_ascii bs parts.1)

pub name_is_ascii : (text : List ℕ) → is_name text ≡ true → IsAscii text
name_is_ascii text h = name_bytes_are_ascii text (is_name-parts text h).1.1
