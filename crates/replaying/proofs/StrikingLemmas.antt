-- What is printed for a user.
use Rattle.std.proofs.Common.{◌≡◌, ℕ, ◌+◌, Bool, true, false, List, [], ◌∷◌, ◌++◌, length, map, refl, sym, ap, ◌∙◌, arith, append_assoc}
use Rattle.std.specs.Prelude.{if◌then◌else◌, bytes_eq}
use Rattle.std.proofs.lemmas.List.{map-append}
use Rattle.model.specs.Events.{Event}
use Rattle.model.specs.Replies.{Reply, Answer}
use Rattle.model.specs.Steps.{replies_to}
use Rattle.model.specs.Talk.{LineRow, Silent, Names, Refuses, Asks, Waits, answer_text, asked_of, asked_in}
use Rattle.model.proofs.BoolLemmas.{same_bytes}
use Rattle.replaying.specs.BadLines.{numbers_where}
use Rattle.replaying.specs.Striking.{events_in, numbers_of, text_for, lines_under}

-- ---- one more line

number-step : (n : ℕ) (b : Bool) (rest rest' last : List ℕ) → rest ≡ rest' ++ last
    → (if b then n ∷ rest else rest) ≡ (if b then n ∷ rest' else rest') ++ last
number-step n true rest rest' last h = ap (λ t. n ∷ t) h
number-step n false rest rest' last h = h

pub numbers-more : (test : LineRow → Bool) (n : ℕ) (rows : List LineRow) (row : LineRow)
    → numbers_where test n (rows ++ row ∷ []) ≡ numbers_where test n rows ++ (if test row then (n + length rows) ∷ [] else [])
numbers-more test n [] row = ap (λ (k : ℕ). if test row then k ∷ [] else []) (omega arith)
numbers-more test n (r ∷ rows) row =
    let behind = numbers_where test (n + 1) rows in
    let last = λ (k : ℕ). if test row then k ∷ [] else [] in
    number-step n (test r) (numbers_where test (n + 1) (rows ++ row ∷ [])) behind (last (n + length (r ∷ rows)))
    (numbers-more test (n + 1) rows row ∙ ap (λ (k : ℕ). behind ++ last k) (omega arith))

asked-more : (rows : List LineRow) (row : LineRow) → asked_in (rows ++ row ∷ []) ≡ asked_in rows ++ asked_in (row ∷ [])
asked-more [] row = refl
asked-more (r ∷ rows) row =
    ap (λ t. asked_of r ++ t) (asked-more rows row) ∙ sym (append_assoc (asked_of r) (asked_in rows) (asked_in (row ∷ [])))

pub events-more : (rows : List LineRow) (row : LineRow) → events_in (rows ++ row ∷ []) ≡ events_in rows ++ events_in (row ∷ [])
events-more rows row =
    ap (λ (t : List (Event × Reply)). map (λ p. p.0) t) (asked-more rows row)
    ∙ map-append (λ (p : Event × Reply). p.0) (asked_in rows) (asked_in (row ∷ []))

-- ---- what is printed for a user's lines

-- the answers that the lines got
abbrev pub answer_to : Event × Reply → Answer
answer_to p = record { actor = p.0.actor; reply = p.1 }

asked-line : (user : List ℕ) (n : ℕ) (event : Event) (reply : Reply) (rest numbers : List ℕ) (replies : List Reply) (b : Bool)
    → bytes_eq event.actor user ≡ b → rest ≡ lines_under user numbers replies
    → (if b then answer_text n event.actor reply ++ rest else rest) ≡ lines_under user (if b then n ∷ numbers else numbers) (if b then reply ∷ replies else replies)
asked-line user n event reply rest numbers replies true is h =
    let same : event.actor ≡ user = same_bytes event.actor user is in
    ap (λ u. answer_text n u reply ++ rest) same ∙ ap (λ t. answer_text n user reply ++ t) h
asked-line user n event reply rest numbers replies false is h = h

-- the user's lines are his replies, each under its number
pub text-lines : (user : List ℕ) (n : ℕ) (rows : List LineRow)
    → text_for user n rows ≡ lines_under user (numbers_of user n rows) (replies_to user (map answer_to (asked_in rows)))
unfolding replies_to
text-lines user n [] = refl
text-lines user n (Silent ∷ rows) = text-lines user (n + 1) rows
text-lines user n (Names users ∷ rows) = text-lines user (n + 1) rows
text-lines user n (Refuses why ∷ rows) = text-lines user (n + 1) rows
text-lines user n (Waits goals reply ∷ rows) = text-lines user (n + 1) rows
text-lines user n (Asks event reply ∷ rows) =
    let replies = replies_to user (map answer_to (asked_in rows)) in
    asked-line user n event reply (text_for user (n + 1) rows) (numbers_of user (n + 1) rows) replies (bytes_eq event.actor user) refl
    (text-lines user (n + 1) rows)
