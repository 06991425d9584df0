-- A piece of the input, cut at its newlines.
use Rattle.std.proofs.Common.{◌≡◌, ℕ, eqb, cond, Bool, true, false, List, [], ◌∷◌, ◌++◌, Option, Some, None, option_map, refl, sym, ap, ◌∙◌, subst, append_assoc}
use Rattle.std.proofs.lemmas.Bool.{eqb-true}
use Rattle.model.specs.Lines.{cut_at}
use Rattle.session.specs.Serving.{HasNoNewline}

-- what cutting at the first newline says of a text
abbrev IsCut : List ℕ → Option (List ℕ × List ℕ) → Type 0
IsCut text None = HasNoNewline text
IsCut text (Some r) = (text ≡ r.0 ++ 10 ∷ r.1) × HasNoNewline r.0

cut-step : (t : Bool) (b : ℕ) (s : List ℕ) (o : Option (List ℕ × List ℕ)) → eqb b 10 ≡ t → IsCut s o
    → IsCut (b ∷ s) (cond t (Some ([], s)) (option_map (λ (r : List ℕ × List ℕ). (b ∷ r.0, r.1)) o))
cut-step true b s o e h = (ap (λ x. x ∷ s) (eqb-true b 10 e), tt)
cut-step false b s None e h = (e, h)
cut-step false b s (Some r) e h = (ap (λ t. b ∷ t) h.0, (e, h.1))

is-cut : (s : List ℕ) → IsCut s (cut_at 10 s)
is-cut [] = tt
is-cut (b ∷ s) = cut-step (eqb b 10) b s (cut_at 10 s) refl (is-cut s)

-- it is a line, its newline, and what stands behind it
pub cut-line : (s line after : List ℕ) → cut_at 10 s ≡ Some (line, after) → (s ≡ line ++ 10 ∷ after) × HasNoNewline line
cut-line s line after e = subst (IsCut s) e (is-cut s)

-- or has no newline
pub cut-rest : (s : List ℕ) → cut_at 10 s ≡ None → HasNoNewline s
cut-rest s e = subst (IsCut s) e (is-cut s)

pub piece-all : (input front rest piece : List ℕ) → piece ≡ front ++ rest → (input ++ front) ++ rest ≡ input ++ piece
piece-all input front rest piece e = append_assoc input front rest ∙ ap (λ t. input ++ t) (sym e)

pub piece-line : (input front line rest piece after : List ℕ) → piece ≡ front ++ rest → rest ≡ line ++ 10 ∷ after
    → ((input ++ front) ++ line) ++ 10 ∷ after ≡ input ++ piece
piece-line input front line rest piece after e f =
    append_assoc (input ++ front) line (10 ∷ after) ∙ ap (λ t. (input ++ front) ++ t) (sym f) ∙ piece-all input front rest piece e

pub input-line : (input front line : List ℕ) → ((input ++ front) ++ line) ++ 10 ∷ [] ≡ input ++ (front ++ (line ++ 10 ∷ []))
input-line input front line = append_assoc (input ++ front) line (10 ∷ []) ∙ append_assoc input front (line ++ 10 ∷ [])

pub piece-rest : (front line rest piece after : List ℕ) → piece ≡ front ++ rest → rest ≡ line ++ 10 ∷ after → piece ≡ (front ++ (line ++ 10 ∷ [])) ++ after
piece-rest front line rest piece after e f =
    e ∙ ap (λ t. front ++ t) f ∙ ap (λ t. front ++ t) (sym (append_assoc line (10 ∷ []) after)) ∙ sym (append_assoc front (line ++ 10 ∷ []) after)
