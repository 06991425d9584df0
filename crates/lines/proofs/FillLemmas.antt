-- A line with its expansions made, a piece at a time.
use Rattle.std.proofs.Common.{◌≡◌, ℕ, Bool, ◌≤◌, true, false, cond, ltb, length, List, [], Option, Some, None, refl, sym, ap, ◌∙◌, append_assoc, arith}
use Rattle.std.proofs.lemmas.List.{append-nil}
use Rattle.std.specs.List.{list_all}
use Rattle.model.specs.declared.mode.Mode.{Mode}
use Rattle.model.specs.ParsedLines.{is_quiet, is_printable, parsed_line, parsed_text}
use Rattle.model.specs.Limits.{longest_line}
use Rattle.model.specs.Lines.{LineResult, cut_at, split, joined_texts, expanded_piece, pieces_text, text_from_pieces, filled}
use Rattle.lines.proofs.CutLemmas.{split-one, split-more}

joined-joined : (a b c : Option (List ℕ)) → joined_texts a (joined_texts b c) ≡ joined_texts (joined_texts a b) c
joined-joined None b c = refl
joined-joined (Some x) None c = refl
joined-joined (Some x) (Some y) None = refl
joined-joined (Some x) (Some y) (Some z) = ap Some (sym (append_assoc x y z))

joined-nil : (a : Option (List ℕ)) → joined_texts a (Some []) ≡ a
joined-nil None = refl
joined-nil (Some x) = ap Some (append-nil x)

pub fill-plain : (told : List LineResult) (line : List ℕ) → cut_at 123 line ≡ None → filled told line ≡ Some line
fill-plain told line e = ap (text_from_pieces told) (split-one 123 line e) ∙ ap Some (append-nil line)

pub fill-start : (told : List LineResult) (line first rest : List ℕ) → cut_at 123 line ≡ Some (first, rest)
    → joined_texts (Some first) (pieces_text told (split 123 rest)) ≡ filled told line
fill-start told line first rest e = sym (ap (text_from_pieces told) (split-more 123 line first rest e))

fill-more : (told : List LineResult) (old rest piece others : List ℕ) → cut_at 123 rest ≡ Some (piece, others)
    → joined_texts (Some old) (pieces_text told (split 123 rest)) ≡ joined_texts (joined_texts (Some old) (expanded_piece told piece)) (pieces_text told (split 123 others))
fill-more told old rest piece others e =
    ap (λ ps. joined_texts (Some old) (pieces_text told ps)) (split-more 123 rest piece others e)
    ∙ joined-joined (Some old) (expanded_piece told piece) (pieces_text told (split 123 others))

pub fill-step : (told : List LineResult) (old new rest piece others : List ℕ) → cut_at 123 rest ≡ Some (piece, others)
    → Some new ≡ joined_texts (Some old) (expanded_piece told piece)
    → joined_texts (Some new) (pieces_text told (split 123 others)) ≡ joined_texts (Some old) (pieces_text told (split 123 rest))
fill-step told old new rest piece others e f = ap (λ a. joined_texts a (pieces_text told (split 123 others))) f ∙ sym (fill-more told old rest piece others e)

pub fill-stop : (told : List LineResult) (old rest piece others : List ℕ) → cut_at 123 rest ≡ Some (piece, others)
    → None ≡ joined_texts (Some old) (expanded_piece told piece)
    → None ≡ joined_texts (Some old) (pieces_text told (split 123 rest))
fill-stop told old rest piece others e f = ap (λ a. joined_texts a (pieces_text told (split 123 others))) f ∙ sym (fill-more told old rest piece others e)

pub fill-last : (told : List LineResult) (old rest : List ℕ) → cut_at 123 rest ≡ None
    → joined_texts (Some old) (expanded_piece told rest) ≡ joined_texts (Some old) (pieces_text told (split 123 rest))
fill-last told old rest e =
    sym (ap (λ ps. joined_texts (Some old) (pieces_text told ps)) (split-one 123 rest e) ∙ ap (joined_texts (Some old)) (joined-nil (expanded_piece told rest)))

pub text-of_test : (whole : Bool) (text : List ℕ) (o : Option (List ℕ)) → whole ≡ true → cond whole (Some text) None ≡ o → Some text ≡ o
text-of_test whole text o e h = sym (ap (λ b. cond b (Some text) None) e) ∙ h

pub none-of_test : (whole : Bool) (text : List ℕ) (o : Option (List ℕ)) → whole ≡ false → cond whole (Some text) None ≡ o → None ≡ o
none-of_test whole text o e h = sym (ap (λ b. cond b (Some text) None) e) ∙ h

ltb-false : (m n : ℕ) → n ≤ m → ltb m n ≡ false
ltb-false m n h = grind arith

-- a line of printable bytes, and neither too long nor quiet, is its text
pub parsed_line-text : (mode : Mode) (begun : Bool) (told : List LineResult) (line : List ℕ) (text : Option (List ℕ)) → length line ≤ longest_line
    → is_quiet line ≡ false
    → list_all is_printable line ≡ true → filled told line ≡ text → parsed_line mode begun told line ≡ parsed_text mode begun text
parsed_line-text mode begun told line text h q p e = rw (ltb-false longest_line (length line) h, q, p, e) refl
