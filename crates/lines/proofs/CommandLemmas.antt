-- What the words of a command give.
use Rattle.std.proofs.Common.{◌≡◌, ◌⊎◌, inl, inr, ℕ, ◌+◌, ◌==◌, true, false, List, [], ◌∷◌, length, take, Some, None, refl, sym, ap, ◌∙◌, arith, length-take}
use Rattle.std.specs.List.{list_any}
use Rattle.std.proofs.lemmas.List.{take_all}
use Rattle.model.specs.declared.refusal.Refusal.{Refusal}
use Rattle.model.specs.declared.refusal.Refusal.TheVariants.{Memory, BadPath}
use Rattle.model.specs.declared.verb.WordKind.{WordKind}
use Rattle.model.specs.declared.verb.WordKind.TheVariants as kind
use Rattle.model.specs.Paths.{IsPath}
use Rattle.model.specs.Words.{IsWell, IsIll, FirstIll}
use Rattle.model.specs.Lines.{split}
use Rattle.model.specs.ParsedLines.{is_rest_of_line, is_empty_word, words_by}

-- a text is one word
pub by_text : (kinds : List WordKind) (text : List ℕ) (words : List (List ℕ)) → is_rest_of_line kinds ≡ true → words ≡ text ∷ []
    → Some words ≡ words_by kinds text
by_text kinds text words e w = rw e (ap Some w)

-- a text with an empty word is none
pub by_empty : (kinds : List WordKind) (text : List ℕ) → is_rest_of_line kinds ≡ false → list_any is_empty_word (split 32 text) ≡ true
    → None ≡ words_by kinds text
by_empty kinds text e any = rw (e, any) refl

-- the test of two numbers
count-same : (m n : ℕ) → m ≡ n → (m == n) ≡ true
count-same m n h = grind arith

count-other : (m n : ℕ) → (m ≡ n → ⊥) → (m == n) ≡ false
count-other m n h = grind arith

-- as many words as kinds are all that there are
pub by_many : (kinds : List WordKind) (text : List ℕ) (words : List (List ℕ)) → is_rest_of_line kinds ≡ false → list_any is_empty_word (split 32 text) ≡ false
    → words ≡ take (length kinds + 1) (split 32 text) → length words ≡ length kinds → Some words ≡ words_by kinds text
by_many kinds text words e any w n =
    let all = split 32 text in
    let m : length all ≡ length kinds = omega (arith, length-take (length kinds + 1) all, sym (ap length w) ∙ n) in
    rw (e, any, count-same (length all) (length kinds) m) (ap Some (w ∙ take_all (length kinds + 1) all (omega arith)))

-- with more or fewer words it is none
pub by_other : (kinds : List WordKind) (text : List ℕ) (words : List (List ℕ)) → is_rest_of_line kinds ≡ false → list_any is_empty_word (split 32 text) ≡ false
    → words ≡ take (length kinds + 1) (split 32 text) → (length words ≡ length kinds → ⊥) → None ≡ words_by kinds text
by_other kinds text words e any w n =
    let all = split 32 text in
    let m : length all ≡ length kinds → ⊥ = λ same. n (ap length w ∙ omega (arith, length-take (length kinds + 1) all, same)) in
    rw (e, any, count-other (length all) (length kinds) m) refl

-- a word that is no path, or memory that was refused
pub path_ill : (word : List ℕ) (why : Refusal) → (why ≡ BadPath) ⊎ (why ≡ Memory) → (why ≡ BadPath → IsPath word → ⊥)
    → (why ≡ Memory) ⊎ IsIll kind.Path word why
path_ill word why (inl bad) none = inr (none bad, bad)
path_ill word why (inr memory) none = inl memory

-- the first word of some is ill-formed
pub first_ill : (k : WordKind) (kinds : List WordKind) (word : List ℕ) (words : List (List ℕ)) (why : Refusal)
    → (why ≡ Memory) ⊎ IsIll k word why → (why ≡ Memory) ⊎ FirstIll (k ∷ kinds) (word ∷ words) why
first_ill k kinds word words why (inl memory) = inl memory
first_ill k kinds word words why (inr ill) = inr (inl ill)

-- a later one is, and the first is well-formed
pub later_ill : (k : WordKind) (kinds : List WordKind) (word : List ℕ) (words : List (List ℕ)) (why : Refusal)
    → IsWell k word → (why ≡ Memory) ⊎ FirstIll kinds words why → (why ≡ Memory) ⊎ FirstIll (k ∷ kinds) (word ∷ words) why
later_ill k kinds word words why well (inl memory) = inl memory
later_ill k kinds word words why well (inr ill) = inr (inr (well, ill))
