-- Reading the entries of a tree text, one after another.
use Rattle.std.proofs.Common.{◌≡◌, ℕ, zero, suc, ◌+◌, ◌-◌, ◌<◌, Bool, true, false, List, [], ◌∷◌, ◌++◌, refl, ap, sym, ◌∙◌, arith, codes}
use Rattle.std.specs.Prelude.{Some, None}
use Rattle.model.specs.Archives.{Tree, NoEntries}
use Rattle.nar.specs.NodeTrees.{tree_of, last_name_of, NamedNode}
use Rattle.std.specs.Str.{bytes_eq}
use Rattle.model.specs.ArchiveReading.{split_at, prefix_at, NodeReader, in_front}
use Rattle.tree_text.specs.TextReading.{closes, item_at, items_at, listed_at, leaf_at, kind_at, text_at}
use Rattle.model.specs.TreeTexts.{separator}
use Rattle.nar.proofs.EntrySteps.{last_name_of-push}
use Rattle.nar.proofs.ReadEntries.{behind, behind-push}

-- the text of a directory, and that of a file or a link
pub text_at-listed : (depth : ℕ) (bytes kind rest : List ℕ) → 0 < depth → split_at 2 bytes ≡ Some (kind, rest) → bytes_eq kind (codes "d(") ≡ true
    → text_at depth bytes ≡ listed_at (text_at (depth - 1)) rest
unfolding text_at kind_at
text_at-listed zero bytes kind rest some split is = absurd (omega (arith, some))
text_at-listed (suc d) bytes kind rest some split is = let less : suc d - 1 ≡ d = omega arith in rw (split, is, less) refl

pub text_at-leaf : (depth : ℕ) (bytes kind rest : List ℕ) → 0 < depth → split_at 2 bytes ≡ Some (kind, rest) → bytes_eq kind (codes "d(") ≡ false
    → text_at depth bytes ≡ leaf_at kind rest
unfolding text_at kind_at
text_at-leaf zero bytes kind rest some split is = absurd (omega (arith, some))
text_at-leaf (suc d) bytes kind rest some split is = rw (split, is) refl

pub items_at-closing : (f : NodeReader) (m : ℕ) (first : Bool) (last rest : List ℕ) → closes rest ≡ true
    → items_at f m first last rest ≡ Some (NoEntries, rest)
unfolding items_at
items_at-closing f zero first last rest h = refl
items_at-closing f (suc m) first last rest h = rw h refl

pub items_at-no_separator : (f : NodeReader) (m : ℕ) (first : Bool) (last rest : List ℕ) → 0 < m → closes rest ≡ false
    → prefix_at (separator first) rest ≡ None → items_at f m first last rest ≡ None
unfolding items_at
items_at-no_separator f zero first last rest h k e = absurd (omega (arith, h))
items_at-no_separator f (suc m) first last rest h k e = rw (k, e) refl

pub items_at-bad_item : (f : NodeReader) (m : ℕ) (first : Bool) (last rest start : List ℕ) → 0 < m → closes rest ≡ false
    → prefix_at (separator first) rest ≡ Some start → item_at f last start ≡ None → items_at f m first last rest ≡ None
unfolding items_at
items_at-bad_item f zero first last rest start h k e n = absurd (omega (arith, h))
items_at-bad_item f (suc m) first last rest start h k e n = rw (k, e, n) refl

pub items_at-next : (f : NodeReader) (m : ℕ) (first : Bool) (last rest start n : List ℕ) (t : Tree) (after : List ℕ)
    → closes rest ≡ false → prefix_at (separator first) rest ≡ Some start → item_at f last start ≡ Some ((n, t), after)
    → items_at f (suc m) first last rest ≡ in_front n t (items_at f m false n after)
unfolding items_at
items_at-next f m first last rest start n t after k e g = rw (k, e, g) refl

pub items_at-push : (f : NodeReader) (n i : ℕ) (bytes rest start after : List ℕ) (first : Bool) (es : List NamedNode) (e : NamedNode)
    → i < n → closes rest ≡ false → prefix_at (separator first) rest ≡ Some start
    → item_at f (last_name_of es) start ≡ Some ((e.0.items, tree_of e.1.value), after)
    → items_at f n true [] bytes ≡ behind es (items_at f (n - i) first (last_name_of es) rest)
    → items_at f n true [] bytes ≡ behind (es ++ e ∷ []) (items_at f (n - (i + 1)) false (last_name_of (es ++ e ∷ [])) after)
items_at-push f n i bytes rest start after first es e lt k g h so_far =
    let less : n - i ≡ suc (n - (i + 1)) = omega arith in
    so_far ∙ ap (λ m. behind es (items_at f m first (last_name_of es) rest)) less ∙ ap (behind es) (items_at-next f (n - (i + 1)) first (last_name_of es) rest start e.0.items (tree_of e.1.value) after k g h)
    ∙ sym (behind-push es e (items_at f (n - (i + 1)) false e.0.items after)) ∙ ap (λ l. behind (es ++ e ∷ []) (items_at f (n - (i + 1)) false l after)) (sym (last_name_of-push es e))
