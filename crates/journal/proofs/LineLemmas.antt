-- A line that is read in pieces.
use Rattle.std.proofs.Common.{◌≡◌, ◌≤◌, ℕ, zero, suc, ◌+◌, List, [], ◌∷◌, ◌++◌, length, take, drop, Option, Some, None, option_map, refl, sym, ◌∙◌, ap, arith, append_assoc, length-append, take-append-drop}
use Rattle.std.proofs.lemmas.List.{append-nil, drop_at}
use Rattle.model.specs.Lines.{cut_at}
use Rattle.journal.specs.Rows.{IsPlain}
use Rattle.journal.proofs.RowLemmas.{cut_parts, plain-none}

abbrev Cut : Type 0
Cut = Option (List ℕ × List ℕ)

-- a beginning put in front of what is cut
abbrev pub behind : List ℕ → Option (List ℕ × List ℕ) → Option (List ℕ × List ℕ)
behind line cut = option_map {U = List ℕ × List ℕ} (λ (r : List ℕ × List ℕ). (line ++ r.0, r.1)) cut

behind_none : (cut : Cut) → cut ≡ behind [] cut
behind_none None = refl
behind_none (Some r) = refl

behind_byte : (b : ℕ) (line : List ℕ) (cut : Cut)
    → option_map {U = List ℕ × List ℕ} (λ (r : List ℕ × List ℕ). (b ∷ r.0, r.1)) (behind line cut) ≡ behind (b ∷ line) cut
behind_byte b line None = refl
behind_byte b line (Some r) = refl

pub behind_both : (line more : List ℕ) (cut : Cut) → behind line (behind more cut) ≡ behind (line ++ more) cut
behind_both line more None = refl
behind_both line more (Some r) = ap (λ (l : List ℕ). Some (l, r.1)) (sym (append_assoc line more r.0))

-- what has no newline stands in front of what is cut behind it
cut-behind : (line rest : List ℕ) → IsPlain line → cut_at 10 (line ++ rest) ≡ behind line (cut_at 10 rest)
cut-behind [] rest plain = behind_none (cut_at 10 rest)
cut-behind (b ∷ line) rest plain =
    rw plain.0 (ap (option_map {U = List ℕ × List ℕ} (λ (r : List ℕ × List ℕ). (b ∷ r.0, r.1))) (cut-behind line rest plain.1)
    ∙ behind_byte b line (cut_at 10 rest))

cut-line : (line rest : List ℕ) → IsPlain line → cut_at 10 (line ++ 10 ∷ rest) ≡ Some (line, rest)
cut-line line rest plain = cut-behind line (10 ∷ rest) plain ∙ ap (λ (l : List ℕ). Some (l, rest)) (append-nil line)

-- what is at hand, and the rest
split_hand : (hand rest : List ℕ) → hand ≡ take (length hand) rest → rest ≡ hand ++ drop (length hand) rest
split_hand hand rest ahead = sym (take-append-drop (length hand) rest) ∙ ap (λ (l : List ℕ). l ++ drop (length hand) rest) (sym ahead)

-- a line that ends in what is at hand
pub taken_line : (hand rest last r : List ℕ) → hand ≡ take (length hand) rest → cut_at 10 hand ≡ Some (last, r)
    → cut_at 10 rest ≡ Some (last, drop (length last + 1) rest)
taken_line hand rest last r ahead cut =
    let found = cut_parts hand (last, r) cut in
    let more = drop (length hand) rest in
    let whole : rest ≡ last ++ 10 ∷ (r ++ more) = split_hand hand rest ahead ∙ ap (λ (l : List ℕ). l ++ more) found.split ∙ append_assoc last (10 ∷ r) more in
    let after : drop (length last + 1) rest ≡ r ++ more =
    ap (λ (l : List ℕ). drop (length last + 1) l) (whole ∙ sym (append_assoc last (10 ∷ []) (r ++ more)))
    ∙ drop_at (last ++ 10 ∷ []) (r ++ more) (length last + 1) (length-append last (10 ∷ [])) in
    ap (cut_at 10) whole ∙ cut-line last (r ++ more) found.plain ∙ ap (λ (l : List ℕ). Some (last, l)) (sym after)

pub line_fits : (hand last r : List ℕ) → cut_at 10 hand ≡ Some (last, r) → length last + 1 ≤ length hand
line_fits hand last r cut = omega (arith, ap length (cut_parts hand (last, r) cut).split, length-append last (10 ∷ r))

-- a line that goes on behind what is at hand
pub line_goes_on : (hand rest line : List ℕ) (all : Option (List ℕ × List ℕ)) → hand ≡ take (length hand) rest → cut_at 10 hand ≡ None
    → all ≡ behind line (cut_at 10 rest)
    → all ≡ behind (line ++ hand) (cut_at 10 (drop (length hand) rest))
line_goes_on hand rest line all ahead none so_far =
    so_far ∙ ap (λ (l : List ℕ). behind line (cut_at 10 l)) (split_hand hand rest ahead)
    ∙ ap (behind line) (cut-behind hand (drop (length hand) rest) (plain-none hand none)) ∙ behind_both line hand (cut_at 10 (drop (length hand) rest))

-- what is at hand after some of it was taken
pub ahead_after : (n : ℕ) (hand rest : List ℕ) → hand ≡ take (length hand) rest → drop n hand ≡ take (length (drop n hand)) (drop n rest)
ahead_after zero hand rest ahead = ahead
ahead_after (suc n) [] rest ahead = refl
ahead_after (suc n) (b ∷ hand) [] ahead = absurd (cc ahead)
ahead_after (suc n) (b ∷ hand) (c ∷ rest) ahead = let later : hand ≡ take (length hand) rest = cc ahead in ahead_after n hand rest later
