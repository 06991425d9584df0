-- A set that gets the paths of one after another.
use Rattle.std.proofs.Common.{◌≡◌, ℕ, ◌+◌, ◌<◌, ◌≤◌, Bool, true, false, List, [], ◌∷◌, length, drop, refl, sym, ◌∙◌, ap, subst}
use Rattle.std.specs.Prelude.{◌||◌, get_or, All}
use Rattle.std.specs.Prelude.{bytes_eq}
use Rattle.std.specs.List.{list_any}
use Rattle.std.proofs.lemmas.List.{drop_all}
use Rattle.std.proofs.lemmas.List.Elements.{All-nil, All-cons}
use Rattle.model.specs.Classes.{is_one_of}
use Rattle.model.proofs.BoolLemmas.{bytes_eq_sym}
use Rattle.records.proofs.LoopLemmas.{drop_next}
use Rattle.schedule.specs.Sweeping.{Holds}

-- the set has by now what it had, and what it is to get of those in front
abbrev pub Left : {X : Type 0} → (List ℕ → X → Bool) → List (List ℕ) → List (List ℕ) → List X → List X → Type 0
Left f old now all rest = (q : List ℕ) → (list_any (bytes_eq q) now || list_any (f q) rest) ≡ (list_any (bytes_eq q) old || list_any (f q) all)

or_nothing : (b : Bool) → b ≡ (b || false)
or_nothing true = refl
or_nothing false = refl

or_moved : (a b c : Bool) → ((a || b) || c) ≡ (a || (b || c))
or_moved true b c = refl
or_moved false b c = refl

module _ {X : Type 0} (f : List ℕ → X → Bool) (old now : List (List ℕ)) (all : List X) where
  -- one more
  pub left_next : (new : List (List ℕ)) (i : ℕ) (x : X) → i < length all → x ≡ get_or all i x → Left f old now all (drop i all)
      → Holds now (λ q. f q x) new → Left f old new all (drop (i + 1) all)
  left_next new i x below is left holds q =
      ap (λ b. b || list_any (f q) (drop (i + 1) all)) (holds q)
      ∙ or_moved (list_any (bytes_eq q) now) (f q x) (list_any (f q) (drop (i + 1) all))
      ∙ ap (λ xs. list_any (bytes_eq q) now || list_any (f q) xs) (sym (drop_next all i x below is)) ∙ left q

  -- all of them
  pub left_none : (i : ℕ) → length all ≤ i → Left f old now all (drop i all) → Holds old (λ q. list_any (f q) all) now
  left_none i past left q =
      or_nothing (list_any (bytes_eq q) now)
      ∙ ap (λ xs. list_any (bytes_eq q) now || list_any (f q) xs) (sym (drop_all i all past)) ∙ left q

-- where none is left in front
pub left_ends : {X : Type 0} (f : List ℕ → X → Bool) (old now : List (List ℕ)) (all rest : List X) → rest ≡ [] → Left f old now all rest
    → Holds old (λ q. list_any (f q) all) now
left_ends f old now all rest none left q = or_nothing (list_any (bytes_eq q) now) ∙ ap (λ xs. list_any (bytes_eq q) now || list_any (f q) xs) (sym none) ∙ left q

-- whether a path is one of a list, either way round
pub one_of_sym : (paths : List (List ℕ)) (p : List ℕ) → list_any (bytes_eq p) paths ≡ is_one_of paths p
one_of_sym [] p = refl
one_of_sym (q ∷ paths) p = ap (λ b. b || list_any (bytes_eq p) paths) (bytes_eq_sym p q) ∙ ap (λ b. bytes_eq q p || b) (one_of_sym paths p)

-- what passes two tests, one after the other
pub holds_both : (f g : List ℕ → Bool) (old now new : List (List ℕ)) → Holds old f now → Holds now g new → Holds old (λ q. f q || g q) new
holds_both f g old now new first second q =
    second q ∙ ap (λ b. b || g q) (first q) ∙ or_moved (list_any (bytes_eq q) old) (f q) (g q)

-- the same test by another name
pub holds_as : (f g : List ℕ → Bool) (old new : List (List ℕ)) → ((q : List ℕ) → f q ≡ g q) → Holds old f new → Holds old g new
holds_as f g old new same holds q = holds q ∙ ap (λ b. list_any (bytes_eq q) old || b) (same q)

-- what holds of those in front suffices for all
abbrev pub Suffices : {X : Type 0} → (X → Type 0) → List X → List X → Type 0
Suffices P all rest = All P rest → All P all

module _ {X : Type 0} (P : X → Type 0) (all : List X) where
  pub suffices_next : (i : ℕ) (x : X) → i < length all → x ≡ get_or all i x → P x → Suffices P all (drop i all) → Suffices P all (drop (i + 1) all)
  suffices_next i x below is own suffices rest =
      suffices (subst (All P) (sym (drop_next all i x below is)) (All-cons P x (drop (i + 1) all) own rest))

  pub suffices_none : (i : ℕ) → length all ≤ i → Suffices P all (drop i all) → All P all
  suffices_none i past suffices = suffices (subst (All P) (sym (drop_all i all past)) (All-nil P))
