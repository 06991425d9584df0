use Rattle.std.proofs.Common.{◌≡◌, ◌∙◌, ◌<◌, ◌≤◌, ℕ, List, [], ◌∷◌, get_or, length, ap, subst, arith, MatchResult}
use Rattle.model.specs.ParsedLines.{Command}
use Rattle.lines.specs.Reading.{command_of, IsRequestOfCommand, IsNoRequest}
use Rattle.lines.proofs.commands.request_of.Goals as goal

-- a list of one item is that item
one_item : (xs items : List (List ℕ)) (x y : List ℕ) → 1 ≤ length xs → length xs < 2 → x ≡ get_or xs 0 x → y ≡ x → xs ≡ items → y ∷ [] ≡ items
one_item [] items x y least below here same all = absurd (omega arith)
one_item (a ∷ []) items x y least below here same all = ap (λ (z : List ℕ). z ∷ []) (same ∙ here) ∙ all
one_item (a ∷ b ∷ xs) items x y least below here same all = absurd (omega arith)

-- and a list of two is these
two_items : (xs items : List (List ℕ)) (x y v w : List ℕ) → 2 ≤ length xs → length xs < 3 → x ≡ get_or xs 0 x → y ≡ get_or xs 1 y → v ≡ x → w ≡ y
    → xs ≡ items → v ∷ w ∷ [] ≡ items
two_items [] items x y v w least below here next one two all = absurd (omega arith)
two_items (a ∷ []) items x y v w least below here next one two all = absurd (omega arith)
two_items (a ∷ b ∷ []) items x y v w least below here next one two all =
    ap (λ (z : List ℕ). z ∷ w ∷ []) (one ∙ here) ∙ ap (λ (z : List ℕ). a ∷ z ∷ []) (two ∙ next) ∙ all
two_items (a ∷ b ∷ d ∷ xs) items x y v w least below here next one two all = absurd (omega arith)

pub returns-in-len1 : goal.returns-in-len1
returns-in-len1 c =
    let words = one_item c.as_slice.result.now c.command.inside.words.items c.word-item.result c.bytes.result.now
    c.in-len1.len_at_least c.in-len1.len_below c.word-item.is c.bytes.ensures c.as_slice.ensures.value in
    subst (λ (w : Command). MatchResult c.request_of_one.result (IsRequestOfCommand w) (IsNoRequest w)) (ap (command_of c.command.inside.verb) words ∙ c.command.view_is)
    c.request_of_one.ensures

pub returns-in-len2 : goal.returns-in-len2
returns-in-len2 c =
    let words = two_items c.as_slice.result.now c.command.inside.words.items c.first-item.result c.second-item.result c.bytes-in-len2.result.now
    c.bytes-in-len2-2.result.now c.in-len2.len_at_least c.in-len2.len_below c.first-item.is c.second-item.is c.bytes-in-len2.ensures c.bytes-in-len2-2.ensures
    c.as_slice.ensures.value in
    subst (λ (w : Command). MatchResult c.request_of_two.result (IsRequestOfCommand w) (IsNoRequest w)) (ap (command_of c.command.inside.verb) words ∙ c.command.view_is)
    c.request_of_two.ensures
