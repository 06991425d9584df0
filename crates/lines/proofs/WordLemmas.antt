-- Names of users, and how many words of a line are read.
use Rattle.std.proofs.Common.{cond, not, ◌||◌, ◌==◌, Option, Some, None, ◌≡◌, ℕ, zero, suc, ◌-◌, ◌<◌, Bool, true, false, ◌&&◌, leb, ltb, List, [], ◌∷◌, ◌++◌, ◌+◌, get_or, take, length, length-take, refl, sym, ap, ◌∙◌, arith, inl, inr}
use Rattle.std.specs.Prelude.{option_map}
use Rattle.std.specs.Global.{Vec}
use Rattle.std.specs.List.{list_all, list_any}
use Rattle.std.proofs.lemmas.List.{take_all, take_more}
use Rattle.std.proofs.lemmas.Bool.{cases_lt, eqb-true}
use Rattle.model.specs.declared.refusal.Refusal.TheVariants.{BadUsers}
use Rattle.model.specs.Worlds.{is_user_name, are_users, begins_with_letter}
use Rattle.model.specs.declared.verb.WordKind.{WordKind}
use Rattle.model.specs.declared.verb.WordKind.TheVariants as kind
use Rattle.model.specs.Lines.{split}
use Rattle.model.specs.ParsedLines.{Refuses, parsed_names, parsed_users, is_empty_word, is_rest_of_line, so_many, words_by}
use Rattle.lines.proofs.NumberLemmas.{leb-false}
use Rattle.model.specs.Limits.{most_users}

and-false : (a : Bool) → (a && false) ≡ false
and-false true = refl
and-false false = refl

pub long-user : (word : List ℕ) → 32 < length word → is_user_name word ≡ false
unfolding is_user_name
long-user word h = rw (leb-false (length word) 32 h) (and-false (begins_with_letter word))

list_all-false : (p : List ℕ → Bool) (xs : List (List ℕ)) (i : ℕ) → i < length xs → p (get_or xs i []) ≡ false → list_all p xs ≡ false
list_all-false p [] i h e = absurd (omega arith)
list_all-false p (x ∷ xs) zero h e = rw e refl
list_all-false p (x ∷ xs) (suc i) h e = rw (list_all-false p xs i (omega arith) e) (and-false (p x))

pub not_users : (words : List (List ℕ)) (i : ℕ) → i < length words → 32 < length (get_or words i []) → are_users words ≡ false
unfolding are_users
not_users words i h long =
    rw (list_all-false is_user_name words i h (long-user (get_or words i []) long), and-false (leb (length words) most_users)) (and-false (ltb 0 (length words)))

pub many_users : (words : List (List ℕ)) → most_users < length words → are_users words ≡ false
unfolding are_users
many_users words h = rw (leb-false (length words) most_users h) (and-false (ltb 0 (length words)))

too_many : (names : List (List ℕ)) → most_users < length names → parsed_names names ≡ Refuses BadUsers
too_many names h = rw (many_users names h) refl

parsed_names-take : (n : ℕ) (names : List (List ℕ)) → most_users < n → parsed_names (take n names) ≡ parsed_names names
parsed_names-take n names h = elim (cases_lt n (length names)) [
  | inl lt ↦ too_many (take n names) (omega (arith, length-take n names)) ∙ sym (too_many names (omega arith))
  | inr le ↦ ap parsed_names (take_all n names (omega arith))
]

parsed_users-take_more : (n : ℕ) (words : List (List ℕ)) → most_users < n → parsed_users (take (suc n) words) ≡ parsed_users words
parsed_users-take_more n [] h = refl
parsed_users-take_more n (word ∷ names) h = rw (parsed_names-take n names h) refl

-- a line of users is told by its first words
pub parsed_users-take : (n : ℕ) (words : List (List ℕ)) → 65 < n → parsed_users (take n words) ≡ parsed_users words
parsed_users-take n words h =
    let e : n ≡ suc (n - 1) = omega arith in
    ap (λ m. parsed_users (take m words)) e ∙ parsed_users-take_more (n - 1) words (omega arith)

some-of : {A : Type 0} (x y : A) → Some x ≡ Some y → x ≡ y
some-of x y h = cc h

count-kept : (a b : Bool) (words ws : List (List ℕ)) → cond (a || not b) None (Some words) ≡ Some ws → (b ≡ true) × (words ≡ ws)
count-kept true b words ws h = cc h
count-kept false true words ws h = (refl, some-of words ws h)
count-kept false false words ws h = cc h

so_many-length : (count : ℕ) (words ws : List (List ℕ)) → so_many count words ≡ Some ws → length ws ≡ count
so_many-length count words ws h =
    let kept = count-kept (list_any is_empty_word words) (length words == count) words ws h in
    sym (ap length kept.1) ∙ eqb-true (length words) count kept.0

text-one : (kinds : List WordKind) → is_rest_of_line kinds ≡ true → length kinds ≡ 1
text-one (kind.Text ∷ []) h = refl
text-one kinds h = cc h

by-text : (b : Bool) (kinds : List WordKind) (text : List ℕ) (ws : List (List ℕ)) → is_rest_of_line kinds ≡ b
    → cond b (Some (text ∷ [])) (so_many (length kinds) (split 32 text)) ≡ Some ws → length ws ≡ length kinds
by-text true kinds text ws e h = sym (ap length (some-of (text ∷ []) ws h)) ∙ sym (text-one kinds e)
by-text false kinds text ws e h = so_many-length (length kinds) (split 32 text) ws h

-- words by kinds are as many as these
pub words_by-length : (kinds kinds' : List WordKind) (text : List ℕ) (words : Option (Vec (List ℕ))) (ws : Vec (List ℕ))
    → option_map (λ w. w.items) words ≡ words_by kinds text → words ≡ Some ws → kinds ≡ kinds' → length ws.items ≡ length kinds'
words_by-length kinds kinds' text words ws h e k =
    by-text (is_rest_of_line kinds) kinds text ws.items refl (sym h ∙ ap (option_map (λ w. w.items)) e) ∙ ap length k

-- the first words and the next one
pub taken_next : (words : List (List ℕ)) (i : ℕ) (word user : List ℕ) (old new : List (List ℕ)) → i < length words → word ≡ get_or words i word → user ≡ word
    → new ≡ old ++ user ∷ [] → old ≡ take i words → new ≡ take (i + 1) words
taken_next words i word user old new lt here same made all =
    made ∙ (ap (λ (t : List (List ℕ)). t ++ user ∷ []) all ∙ (ap (λ (u : List ℕ). take i words ++ u ∷ []) (same ∙ here) ∙ sym (take_more words i word lt)))
