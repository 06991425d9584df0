-- Texts that are written piece by piece.
use Rattle.std.proofs.Common.{◌≡◌, ℕ, zero, suc, ◌+◌, ◌<◌, ◌≤◌, List, [], ◌∷◌, ◌++◌, length, take, drop, refl, ap, sym, ◌∙◌, append_assoc, append-nil, arith, subst, None, Some, Option, length-append}
use Rattle.std.proofs.lemmas.List.{take-append-drop, take_at}
use Rattle.std.specs.Prelude.{Result, Ok, Err, OnErr, OnOk, IfErr, IsOk}
use Rattle.std.proofs.lemmas.Bool.{false≢true}
use Rattle.std.specs.Io.KnownBytes.{Appends}
use Rattle.nar.specs.Writing.{Begins, Wrote, IsUnwritten, MayBeFault}
use Rattle.model.specs.declared.refusal.Refusal.{Refusal}
use Rattle.model.specs.declared.refusal.Refusal.TheVariants.{OutputFault}

pub appends-none : (a : Option (List ℕ)) → Appends a a []
appends-none None = tt
appends-none (Some xs) = sym (append-nil xs)

pub appends-more : (a b c : Option (List ℕ)) (xs ys : List ℕ) → Appends a b xs → Appends b c ys → Appends a c (xs ++ ys)
appends-more None b c xs ys h k = tt
appends-more (Some u) None c xs ys h k = absurd h
appends-more (Some u) (Some v) None xs ys h k = absurd k
appends-more (Some u) (Some v) (Some w) xs ys h k = k ∙ ap (λ t. t ++ ys) h ∙ append_assoc u xs ys

pub take-seam : (a b : List ℕ) (n : ℕ) → take (length a + n) (a ++ b) ≡ a ++ take n b
take-seam [] b n = ap (λ k. take k b) (omega arith)
take-seam (x ∷ a) b n = let e : suc (length a) + n ≡ suc (length a + n) = omega arith in rw e (ap (λ t. x ∷ t) (take-seam a b n))

-- a beginning of a text is one of what the text begins
take-within : (xs ys : List ℕ) (n : ℕ) → n ≤ length xs → take n (xs ++ ys) ≡ take n xs
take-within xs ys zero h = refl
take-within [] ys (suc n) h = absurd (omega (arith, h))
take-within (x ∷ xs) ys (suc n) h = ap (λ t. x ∷ t) (take-within xs ys n (omega (arith, h)))

-- a text is written, and behind it a beginning of one more
pub begun-behind : (a b c : Option (List ℕ)) (xs ys : List ℕ) → Appends a b xs → Begins b c ys → Begins a c (xs ++ ys)
begun-behind a b c xs ys h k =
    let n : ℕ = k.0 in (
      length xs + n,
      omega (arith, length-append xs ys, k.1),
      subst (Appends a c) (sym (take-seam xs ys n)) (appends-more a b c xs (take n ys) h k.2),
    )

-- what is begun of a text is begun of a longer one
pub begun-longer : (a c : Option (List ℕ)) (xs ys : List ℕ) → Begins a c xs → Begins a c (xs ++ ys)
begun-longer a c xs ys k =
    let n : ℕ = k.0 in (
      n,
      omega (arith, length-append xs ys, k.1),
      subst (Appends a c) (sym (take-within xs ys n (omega (arith, k.1)))) k.2,
    )

pub text-step : (text front rest : List ℕ) (n : ℕ) → text ≡ front ++ rest → text ≡ (front ++ take n rest) ++ drop n rest
text-step text front rest n e = e ∙ ap (λ t. front ++ t) (sym (take-append-drop n rest)) ∙ sym (append_assoc front (take n rest) (drop n rest))

-- a front of a text, of which some is left, is written
pub front-written : (a b c : Option (List ℕ)) (text front rest : List ℕ) → text ≡ front ++ rest → 0 < length rest → Appends a b front → Appends b c []
    → Begins a c text
front-written a b c text front rest e some h k =
    let same : take (length front) text ≡ front ++ [] = ap (take (length front)) e ∙ take_at front rest (length front) refl ∙ sym (append-nil front) in (
      length front,
      omega (arith, ap length e, length-append front rest, some),
      subst (λ t. Appends a c t) (sym same) (appends-more a b c front [] h k),
    )

-- the error of a `?`
pub on_err : {T E P : Type 0} (r : Result T E) → P → OnErr r P
on_err (Ok x) p = tt
on_err (Err e) p = p

-- and what is said of it where it is `Ok`
pub on_ok : {T E P : Type 0} (r : Result T E) → P → OnOk r P
on_ok (Ok x) p = p
on_ok (Err e) p = tt

pub of_ok : {T E P : Type 0} (r : Result T E) → IsOk r → OnOk r P → P
of_ok (Ok x) is p = p
of_ok (Err e) is p = absurd (false≢true is)

abbrev Outcome : Type 0
Outcome = Result (Unit {0}) Refusal

-- a text is written, and what became of the next
pub wrote-more : (before f g : ℕ) (a b c : Option (List ℕ)) (so_far r : Outcome) (xs ys : List ℕ) → IsOk so_far → Wrote before a b f so_far xs
    → OnOk r (Appends b c ys) → OnErr r (Begins b c ys) → IfErr r IsUnwritten → IfErr r (MayBeFault OutputFault before g)
    → Wrote before a c g r (xs ++ ys)
wrote-more before f g a b c (Err why) r xs ys is wrote ok err errors fault = absurd (false≢true is)
wrote-more before f g a b c (Ok done) (Ok _) xs ys is wrote ok err errors fault = appends-more a b c xs ys wrote ok
wrote-more before f g a b c (Ok done) (Err why) xs ys is wrote ok err errors fault = (begun-behind a b c xs ys wrote err, errors, fault)

-- what became of a text that was not written is what becomes of a longer one
pub wrote-longer : (before f : ℕ) (a b : Option (List ℕ)) (so_far : Outcome) (xs ys : List ℕ) → ¬ IsOk so_far → Wrote before a b f so_far xs
    → Wrote before a b f so_far (xs ++ ys)
wrote-longer before f a b (Ok done) xs ys is wrote = absurd (is refl)
wrote-longer before f a b (Err why) xs ys is wrote = (begun-longer a b xs ys wrote.0, wrote.1, wrote.2)

pub wrote-ok : (before f : ℕ) (a b : Option (List ℕ)) (r : Outcome) (text : List ℕ) → Wrote before a b f r text → OnOk r (Appends a b text)
wrote-ok before f a b (Ok done) text wrote = wrote
wrote-ok before f a b (Err why) text wrote = tt

pub wrote-err : (before f : ℕ) (a b : Option (List ℕ)) (r : Outcome) (text : List ℕ) → Wrote before a b f r text → OnErr r (Begins a b text)
wrote-err before f a b (Ok done) text wrote = tt
wrote-err before f a b (Err why) text wrote = wrote.0

pub wrote-errors : (before f : ℕ) (a b : Option (List ℕ)) (r : Outcome) (text : List ℕ) → Wrote before a b f r text → IfErr r IsUnwritten
wrote-errors before f a b (Ok done) text wrote = tt
wrote-errors before f a b (Err why) text wrote = wrote.1

pub wrote-fault : (before f : ℕ) (a b : Option (List ℕ)) (r : Outcome) (text : List ℕ) → Wrote before a b f r text → IfErr r (MayBeFault OutputFault before f)
wrote-fault before f a b (Ok done) text wrote = tt
wrote-fault before f a b (Err why) text wrote = wrote.2
