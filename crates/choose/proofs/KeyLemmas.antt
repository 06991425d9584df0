-- The tables beside what is gathered: what is in them is there.
use Rattle.std.proofs.Common.{◌≡◌, ℕ, Bool, true, false, refl, sym, ◌∙◌, ap, List, [], ◌∷◌, ◌++◌, Option, Some}
use Rattle.std.specs.Prelude.{bytes_eq, map}
use Rattle.std.specs.List.{list_any}
use Rattle.indexmap.specs.IndexSet.{insert_key}
use Rattle.model.specs.Worlds.{Source, Record}
use Rattle.model.specs.Choices.{Plan}
use Rattle.model.proofs.BoolLemmas.{bytes_eq_sym}
use Rattle.choose.specs.Visible.{Visible, source_in}
use Rattle.choose.specs.Gathering.{has_class, with_class, has_source, with_source}

any_of : {X : Type 0} (f : X → List ℕ) (c : List ℕ) (xs : List X) → list_any (bytes_eq c) (map f xs) ≡ list_any (λ x. bytes_eq (f x) c) xs
any_of f c [] = refl
any_of f c (x ∷ xs) = rw (bytes_eq_sym c (f x), any_of f c xs) refl

-- what the table says is so
pub keyed : {X : Type 0} (f : X → List ℕ) (b : Bool) (c : List ℕ) (keys : List (List ℕ)) (xs : List X) → keys ≡ map f xs → b ≡ list_any (bytes_eq c) keys
    → list_any (λ x. bytes_eq (f x) c) xs ≡ b
keyed f b c keys xs k e = sym (e ∙ ap (list_any (bytes_eq c)) k ∙ any_of f c xs)

map-push : {X : Type 0} (f : X → List ℕ) (xs : List X) (x : X) → map f (xs ++ x ∷ []) ≡ map f xs ++ f x ∷ []
map-push f [] x = refl
map-push f (y ∷ xs) x = ap (λ rest. f y ∷ rest) (map-push f xs x)

-- both grow by one
pub keys_pushed : {X : Type 0} (f : X → List ℕ) (c k : List ℕ) (keys after : List (List ℕ)) (xs ys : List X) (x : X) → keys ≡ map f xs
    → false ≡ list_any (bytes_eq c) keys → k ≡ c → f x ≡ c → after ≡ insert_key bytes_eq keys k → ys ≡ xs ++ x ∷ [] → after ≡ map f ys
keys_pushed f c k keys after xs ys x e absent kc fc a y =
    let there : list_any (bytes_eq k) keys ≡ false = ap (λ q. list_any (bytes_eq q) keys) kc ∙ sym absent in
    let new : after ≡ keys ++ k ∷ [] = rw there at a in
    new ∙ (λ i. e i ++ (kc ∙ sym fc) i ∷ []) ∙ sym (map-push f xs x) ∙ ap (map f) (sym y)

pub class_there : (choice : List ℕ → Option Record) (c : List ℕ) (p : Plan) → has_class c p ≡ true → p ≡ with_class choice c p
class_there choice c p t = rw t refl

pub class_pushed : (choice : List ℕ → Option Record) (c : List ℕ) (p : Plan) (r : Record) → has_class c p ≡ false → Some r ≡ choice c
    → record { records = p.records ++ r ∷ []; sources = p.sources } ≡ with_class choice c p
class_pushed choice c p r f e = rw (f, ← e) refl

pub source_there : (view : Visible) (q : List ℕ) (p : Plan) → has_source q p ≡ true → p ≡ with_source view q p
source_there view q p t = rw t refl

pub source_pushed : (view : Visible) (q : List ℕ) (p : Plan) (s : Source) → has_source q p ≡ false → Some s ≡ source_in view q
    → record { records = p.records; sources = p.sources ++ s ∷ [] } ≡ with_source view q p
source_pushed view q p s f e = rw (f, ← e) refl
