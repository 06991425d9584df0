-- One more row.
use Rattle.std.proofs.Common.{◌≡◌, ℕ, suc, ◌+◌, List, [], ◌∷◌, ◌++◌, length, take, Option, None, Some, refl, sym, ap, ◌∙◌, subst, arith, append_assoc, length-append}
use Rattle.std.proofs.Common.{Result, Ok, Err, false}
use Rattle.std.specs.Result.{OnOk, IfErr, IsErrAnd}
use Rattle.std.proofs.lemmas.List.{append-nil}
use Rattle.std.specs.Io.KnownBytes.{Appends, Consumes, Keeps, prepend_known}
use Rattle.model.specs.Lines.{LineResult}
use Rattle.model.specs.Talk.{LineRow, Silent, Names, Refuses, Asks, Waits, Seen, GetsNext, seen_after, after_all, Talks, text_from, row_text}
use Rattle.session.specs.Serving.{Chain}
pub use Rattle.nar.proofs.WritingLemmas.{appends-none, appends-more, take-seam, on_err}

pub talks-more : (seen : Seen) (done : List (List ℕ)) (rows : List LineRow) (line : List ℕ) (row : LineRow) → Talks seen done rows
    → (after_all seen rows).refused ≡ false → GetsNext (after_all seen rows) line row → Talks seen (done ++ line ∷ []) (rows ++ row ∷ [])
talks-more seen [] [] line row t f g = (f, g, tt)
talks-more seen [] (r ∷ rows) line row t f g = absurd t
talks-more seen (l ∷ done) [] line row t f g = absurd t
talks-more seen (l ∷ done) (r ∷ rows) line row t f g = (t.0, t.1, talks-more (seen_after seen r) done rows line row t.2 f g)

pub after_all-more : (seen : Seen) (rows : List LineRow) (row : LineRow) → after_all seen (rows ++ row ∷ []) ≡ seen_after (after_all seen rows) row
after_all-more seen [] row = refl
after_all-more seen (r ∷ rows) row = after_all-more (seen_after seen r) rows row

pub chain-more : {A : Type 0} (L : A → LineRow → A → Type 0) (a : A) (rows : List LineRow) (b : A) (row : LineRow) (c : A) → Chain L a rows b
    → L b row c → Chain L a (rows ++ row ∷ []) c
chain-more L a [] b row c h l = (c, subst (λ x. L x row c) h l, refl)
chain-more L a (r ∷ rows) b row c h l = (h.0, h.1, chain-more L h.0 rows b row c h.2 l)

length-after : (seen : Seen) (row : LineRow) → length (seen_after seen row).told ≡ length seen.told + 1
length-after seen Silent = omega (arith, length-append {A = LineResult})
length-after seen (Names users) = omega (arith, length-append {A = LineResult})
length-after seen (Refuses why) = omega (arith, length-append {A = LineResult})
length-after seen (Asks event reply) = omega (arith, length-append {A = LineResult})
length-after seen (Waits goals reply) = omega (arith, length-append {A = LineResult})

pub length-after_all : (seen : Seen) (rows : List LineRow) → length (after_all seen rows).told ≡ length seen.told + length rows
length-after_all seen [] = omega arith
length-after_all seen (r ∷ rows) = omega (arith, length-after_all (seen_after seen r) rows, length-after seen r)

pub text-more : (n : ℕ) (rows : List LineRow) (row : LineRow) → text_from n (rows ++ row ∷ []) ≡ text_from n rows ++ row_text (n + length rows) row
text-more n [] row = append-nil _ ∙ ap (λ k. row_text k row) (omega arith)
text-more n (r ∷ rows) row =
    ap (λ t. row_text n r ++ t) (text-more (n + 1) rows row ∙ ap (λ k. text_from (n + 1) rows ++ row_text k row) (omega arith))
    ∙ sym (append_assoc (row_text n r) (text_from (n + 1) rows) (row_text (n + suc (length rows)) row))

pub appends-kept : (a b : Option (List ℕ)) → Keeps a b → Appends a b []
appends-kept None b h = tt
appends-kept (Some xs) None h = absurd h
appends-kept (Some xs) (Some ys) h = h ∙ sym (append-nil xs)

pub consumes-none : (a : Option (List ℕ)) → Consumes a a []
consumes-none None = tt
consumes-none (Some xs) = refl

pub consumes-kept : (a b : Option (List ℕ)) → Keeps a b → Consumes a b []
consumes-kept None b h = tt
consumes-kept (Some xs) None h = absurd h
consumes-kept (Some xs) (Some ys) h = sym h

pub consumes-more : (a b c : Option (List ℕ)) (xs ys : List ℕ) → Consumes a b xs → Consumes b c ys → Consumes a c (xs ++ ys)
consumes-more None b c xs ys h k = tt
consumes-more (Some u) None c xs ys h k = absurd h
consumes-more (Some u) (Some v) None xs ys h k = absurd k
consumes-more (Some u) (Some v) (Some w) xs ys h k = h ∙ ap (λ t. xs ++ t) k ∙ sym (append_assoc xs ys w)

pub consumes-end : (a b c : Option (List ℕ)) (xs ys : List ℕ) (n : ℕ) → n ≡ 0 → Consumes a b xs → Consumes b c (take n ys) → Consumes a c xs
consumes-end a b c xs ys n z h k =
    let e : xs ++ take n ys ≡ xs = ap (λ m. xs ++ take m ys) z ∙ append-nil xs in
    subst (λ t. Consumes a c t) e (consumes-more a b c xs (take n ys) h k)

-- behind bytes that were read before
pub consumes-behind : (bytes : List ℕ) (a b : Option (List ℕ)) (xs : List ℕ) → Consumes a b xs → Consumes (prepend_known bytes a) b (bytes ++ xs)
consumes-behind bytes None b xs h = tt
consumes-behind bytes (Some u) None xs h = absurd h
consumes-behind bytes (Some u) (Some v) xs h = ap (λ t. bytes ++ t) h ∙ sym (append_assoc bytes xs v)

pub appends-flushed : (a b c : Option (List ℕ)) (xs : List ℕ) → Appends a b xs → Appends b c [] → Appends a c xs
appends-flushed a b c xs h k = subst (λ t. Appends a c t) (append-nil xs) (appends-more a b c xs [] h k)

pub on_ok : {A E : Type 0} {P Q : Type 0} (r : Result A E) → (P → Q) → OnOk r P → OnOk r Q
on_ok (Ok x) f h = f h
on_ok (Err e) f h = h

pub if_err : {A E : Type 0} {P Q : E → Type 0} (r : Result A E) → ((e : E) → P e → Q e) → IfErr r P → IfErr r Q
if_err (Ok x) f h = h
if_err (Err e) f h = f e h

-- the error of a `?` is the one that it passes on
pub err-is : {T E : Type 0} (r : Result T E) (e : E) (P : E → Type 0) → IsErrAnd r (λ y. y ≡ e) → P e → IfErr r P
err-is (Ok x) e P h p = tt
err-is (Err y) e P h p = subst P (sym h) p
