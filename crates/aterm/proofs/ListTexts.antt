-- Lists as they are written, one member after another.
use Rattle.std.proofs.Common.{◌≡◌, ℕ, ◌+◌, ◌<◌, ◌≤◌, List, [], ◌∷◌, ◌++◌, map, codes, length, drop, get_or, sym, ap, ◌∙◌, append_assoc, add-one}
use Rattle.std.specs.Prelude.{Result, Ok, Err, IfOk, is_ok, if◌then◌else◌}
use Rattle.std.proofs.Math.Seq.{drop-cons}
use Rattle.std.proofs.lemmas.List.{drop_all}
use Rattle.model.specs.Derivations.{listed}

-- a last write, whose result is returned as it is
pub last_write : {T E : Type 0} (result : Result T E) (old bytes new whole : List ℕ) → new ≡ (if is_ok result then old ++ bytes else old)
    → old ++ bytes ≡ whole → IfOk result (λ _. new ≡ whole)
last_write (Ok value) old bytes new whole written e = written ∙ e
last_write (Err error) old bytes new whole written e = tt

-- what is left begins with the next member
pub next_left : {A : Type 0} (xs : List A) (k : ℕ) (x : A) → k < length xs → drop k xs ≡ get_or xs k x ∷ drop (k + 1) xs
next_left xs k x lt = rw add-one (drop-cons xs k x lt)

-- ---- lists

-- one member more is written, so that what is written and what is left are the same as before
pub list_next : {A : Type 0} (f : A → List ℕ) (xs : List A) (k : ℕ) (x : A) (out new separator whole : List ℕ) → k < length xs → x ≡ get_or xs k x
    → new ≡ out ++ separator ++ f x → out ++ listed separator (map f (drop k xs)) ≡ whole → new ++ listed (codes ",") (map f (drop (k + 1) xs)) ≡ whole
unfolding listed
list_next f xs k x out new separator whole lt is written before =
    let rest = listed (codes ",") (map f (drop (k + 1) xs)) in
    ap (λ n. n ++ rest) written
    ∙ joined out separator (f x) rest
    ∙ ap (λ y. out ++ (separator ++ f y ++ rest)) is
    ∙ ap (λ ys. out ++ listed separator (map f ys)) (sym (next_left xs k x lt))
    ∙ before
  where
    joined : (o s t r : List ℕ) → o ++ s ++ t ++ r ≡ o ++ (s ++ t ++ r)
    joined o s t r = simp append_assoc

-- all members are written, and then the bracket is
pub list_ends : {A : Type 0} (f : A → List ℕ) (xs : List A) (k : ℕ) (old begun out separator : List ℕ) → length xs ≤ k → begun ≡ old
    → out ++ listed separator (map f (drop k xs)) ≡ begun ++ listed [] (map f xs) → out ++ codes "]" ≡ old ++ listed [] (map f xs)
unfolding listed
list_ends f xs k old begun out separator le first so_far =
    ap (λ ys. out ++ listed separator (map f ys)) (sym (drop_all k xs le))
    ∙ so_far
    ∙ ap (λ o. o ++ listed [] (map f xs)) first
