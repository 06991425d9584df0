-- What is written as a tree text is read again, whatever follows it.
use Rattle.std.proofs.Common.{◌≡◌, ℕ, zero, suc, ◌+◌, ◌/◌, ◌%◌, ◌<◌, ◌≤◌, Bool, true, false, List, [], ◌∷◌, ◌++◌, length, codes, refl, ap, sym, ◌∙◌, append_assoc, append-nil, arith, length-append, slice_index, take, cond}
use Rattle.std.specs.List.{prefix_len}
use Rattle.std.specs.Prelude.{Option, Some, take_while, unwrap_or, ◌==◌}
use Rattle.std.proofs.lemmas.Bool.{eqb-true}
use Rattle.hex.specs.Hex.{encode_lower, encode_with, lower_digits, hex_digit_value, IsBytes}
use Rattle.tree_text.specs.TextReading.{is_lower_digit}
use Rattle.hex.proofs.HexLemmas.{decode_of-encode_lower, IsDigits-lower_digits}
use Rattle.model.specs.Archives.{Tree, IsTree, File, Link, Directory, Entries, NoEntries, Entry, IsSound, AreSound, depth_of, deepest, is_entry_name, bytes_before}
use Rattle.model.specs.ArchiveReading.{NodeReader, in_front}
use Rattle.tree_text.specs.TextReading.{digits_at, closes, name_at, item_at, items_at, listed_at, leaf_at, kind_at, text_at, whole_at}
use Rattle.model.specs.TreeTexts.{tree_text_of, entries_text_of, file_mark, separator}
use Rattle.model.specs.Archives.{HasBytes, HaveBytes}
use Rattle.nar.proofs.ArchiveCompleteness.{prefix_at-front, split_at-front}
use Rattle.tree_text.proofs.LowerDigits.{digit_is_lower}
use Rattle.nar.proofs.EntrySteps.{count_of}
use Rattle.tree_text.proofs.ReadItems.{items_at-next, items_at-closing}

-- no digit comes next
abbrev pub Stops : List ℕ → Type 0
Stops k = take_while is_lower_digit k ≡ []

digit_taken : (x : ℕ) (xs : List ℕ) → is_lower_digit x ≡ true
    → take_while is_lower_digit (x ∷ xs) ≡ x ∷ take_while is_lower_digit xs
digit_taken x xs h =
    let one : 1 + prefix_len is_lower_digit xs ≡ suc (prefix_len is_lower_digit xs) = omega arith in
    ap (λ b. take (cond b (1 + prefix_len is_lower_digit xs) 0) (x ∷ xs)) h ∙ ap (λ n. take n (x ∷ xs)) one

digits_in_front-encode_lower : (s k : List ℕ) → IsBytes s → Stops k
    → take_while is_lower_digit (encode_lower s ++ k) ≡ encode_lower s
unfolding encode_with
digits_in_front-encode_lower [] k b h = h
digits_in_front-encode_lower (x ∷ xs) k b h =
    let fits : x < 256 = b 0 in
    let high = digit_is_lower (x / 16) (omega arith) in
    let low = digit_is_lower (x % 16) (omega arith) in
    let rest = encode_lower xs ++ k in
    digit_taken (slice_index lower_digits (x / 16)) (slice_index lower_digits (x % 16) ∷ rest) high
    ∙ ap (λ ds. slice_index lower_digits (x / 16) ∷ ds) (digit_taken (slice_index lower_digits (x % 16)) rest low ∙ ap (λ ds. slice_index lower_digits (x % 16) ∷ ds) (digits_in_front-encode_lower xs k (λ i. b (suc i)) h))

digits_at-front : (s k : List ℕ) → IsBytes s → Stops k → digits_at (encode_lower s ++ k) ≡ Some (s, k)
unfolding digits_at
digits_at-front s k b h =
    rw (digits_in_front-encode_lower s k b h, split_at-front (encode_lower s) k (length (encode_lower s)) refl, decode_of-encode_lower s b) refl

item_at-front : (f : NodeReader) (last n x r : List ℕ) (t : Tree) → IsBytes n → is_entry_name n ≡ true → bytes_before last n ≡ true
    → f x ≡ Some (t, r) → item_at f last (encode_lower n ++ (codes "=" ++ x)) ≡ Some ((n, t), r)
unfolding item_at name_at
item_at-front f last n x r t b named ordered e = rw (digits_at-front n (codes "=" ++ x) b refl, prefix_at-front (codes "=") x, named, ordered, e) refl

listed_at-items : (f : NodeReader) (x after : List ℕ) (es : Entries)
    → items_at f (length x) true [] x ≡ Some (es, codes ")" ++ after) → listed_at f x ≡ Some (Directory es, after)
unfolding listed_at
listed_at-items f x after es e = rw (e, prefix_at-front (codes ")") after) refl

kind_at-file : (f : NodeReader) (x : Bool) (s k : List ℕ) → IsBytes s → Stops k
    → kind_at f (file_mark x) (encode_lower s ++ k) ≡ Some (File x s, k)
unfolding kind_at leaf_at
kind_at-file f true s k b h = rw (digits_at-front s k b h) refl
kind_at-file f false s k b h = rw (digits_at-front s k b h) refl

kind_at-link : (f : NodeReader) (s k : List ℕ) → IsBytes s → Stops k → kind_at f (codes "l:") (encode_lower s ++ k) ≡ Some (Link s, k)
unfolding kind_at leaf_at
kind_at-link f s k b h = rw (digits_at-front s k b h) refl

kind_at-directory : (f : NodeReader) (x : List ℕ) → kind_at f (codes "d(") x ≡ listed_at f x
unfolding kind_at
kind_at-directory f x = refl

text_at-mark : (d : ℕ) (kind x : List ℕ) → 2 ≡ length kind → text_at (suc d) (kind ++ x) ≡ kind_at (text_at d) kind x
unfolding text_at
text_at-mark d kind x h = rw (split_at-front kind x 2 h) refl

stops_items : (es : Entries) (k : List ℕ) → Stops (entries_text_of false es ++ (codes ")" ++ k))
stops_items NoEntries k = refl
stops_items (Entry n t es) k = refl

never_bracket : (c d : ℕ) → hex_digit_value c ≡ Some d → (b : Bool) → (c == 41) ≡ b → b ≡ false
never_bracket c d h false e = refl
never_bracket c d h true e = let is : c ≡ 41 = eqb-true c 41 e in cc (sym (ap hex_digit_value is) ∙ h)

not_bracket : (d : ℕ) → d < 16 → (slice_index lower_digits d == 41) ≡ false
not_bracket d h = never_bracket (slice_index lower_digits d) d (IsDigits-lower_digits d h) _ refl

opens_name : (first : Bool) (n k : List ℕ) → IsBytes n → is_entry_name n ≡ true
    → closes (separator first ++ (encode_lower n ++ k)) ≡ false
unfolding encode_with is_entry_name
opens_name false n k b h = refl
opens_name true [] k b h = cc h
opens_name true (x ∷ xs) k b h = let fits : x < 256 = b 0 in not_bracket (x / 16) (omega arith)

count_of-le-length : (first : Bool) (es : Entries) → count_of es ≤ length (entries_text_of first es)
count_of-le-length first NoEntries = omega arith
count_of-le-length first (Entry n t es) =
    omega (arith, count_of-le-length false es, length-append {A = ℕ})

-- the text of entries, part by part
pub item_grouped : (first : Bool) (n : List ℕ) (t : Tree) (es : Entries) (k : List ℕ)
    → entries_text_of first (Entry n t es) ++ k ≡ separator first ++ (encode_lower n ++ (codes "=" ++ (tree_text_of t ++ (entries_text_of false es ++ k))))
item_grouped first n t es k = grind (arith, append_assoc)

mutual
  pub text_at-front : (t : Tree) (d : ℕ) (k : List ℕ) → IsSound t → depth_of t ≤ d → HasBytes t → Stops k
      → text_at d (tree_text_of t ++ k) ≡ Some (t, k)
  text_at-front (File x s) zero k h b f e = absurd (omega (arith, b))
  text_at-front (Link s) zero k h b f e = absurd (omega (arith, b))
  text_at-front (Directory es) zero k h b f e = absurd (omega (arith, b))
  text_at-front (File true s) (suc d) k h b f e = text_at-mark d (file_mark true) (encode_lower s ++ k) refl ∙ kind_at-file (text_at d) true s k f e
  text_at-front (File false s) (suc d) k h b f e = text_at-mark d (file_mark false) (encode_lower s ++ k) refl ∙ kind_at-file (text_at d) false s k f e
  text_at-front (Link s) (suc d) k h b f e = text_at-mark d (codes "l:") (encode_lower s ++ k) refl ∙ kind_at-link (text_at d) s k f e
  text_at-front (Directory es) (suc d) k h b f e =
      let y = entries_text_of true es ++ (codes ")" ++ k) in
      let room : count_of es ≤ length y = omega (arith, count_of-le-length true es, length-append (entries_text_of true es) (codes ")" ++ k)) in
      let grouped : tree_text_of (Directory es) ++ k ≡ codes "d(" ++ y = grind (arith, append_assoc) in
      ap (text_at (suc d)) grouped ∙ text_at-mark d (codes "d(") y refl ∙ kind_at-directory (text_at d) y ∙ listed_at-items (text_at d) y k es (items_at-front es d (length y) true [] k h (omega (arith, b)) f room)

  pub items_at-front : (es : Entries) (d m : ℕ) (first : Bool) (last k : List ℕ) → AreSound last es → deepest es ≤ d
      → HaveBytes es → count_of es ≤ m
      → items_at (text_at d) m first last (entries_text_of first es ++ (codes ")" ++ k)) ≡ Some (es, codes ")" ++ k)
  items_at-front NoEntries d m first last k h b f c = items_at-closing (text_at d) m first last (codes ")" ++ k) refl
  items_at-front (Entry n t es) d zero first last k h b f c = absurd (omega (arith, c))
  items_at-front (Entry n t es) d (suc m) first last k h b f c =
      let r = codes ")" ++ k in
      let y = entries_text_of false es ++ r in
      let x = tree_text_of t ++ y in
      let start = encode_lower n ++ (codes "=" ++ x) in
      let node : text_at d x ≡ Some (t, y) = text_at-front t d y h.2 (omega (arith, b)) f.1 (stops_items es k) in
      ap (items_at (text_at d) (suc m) first last) (item_grouped first n t es r)
      ∙ items_at-next (text_at d) m first last (separator first ++ start) start n t y (opens_name first n (codes "=" ++ x) f.0 h.0) (prefix_at-front (separator first) start) (item_at-front (text_at d) last n x y t f.0 h.0 h.1 node)
      ∙ ap (in_front n t) (items_at-front es d m false n k h.3 (omega (arith, b)) f.2 (omega (arith, c)))

-- a tree's text is read as that tree
pub whole_at-tree_text_of : (t : Tree) → IsSound t → depth_of t ≤ 64 → HasBytes t → whole_at (tree_text_of t) ≡ Some t
unfolding whole_at
whole_at-tree_text_of t h b f =
    let node : text_at 64 (tree_text_of t) ≡ Some (t, []) = ap (text_at 64) (sym (append-nil (tree_text_of t))) ∙ text_at-front t 64 [] h b f refl in
    rw node refl

-- trees with one tree text are one tree
pub tree_text_of-injective : (a b : Tree) → IsTree a → IsTree b → tree_text_of a ≡ tree_text_of b → a ≡ b
tree_text_of-injective a b h k e =
    let Read : Option Tree → Tree = λ o. unwrap_or o a in
    ap Read (sym (whole_at-tree_text_of a h.sound h.depth h.bytes) ∙ ap whole_at e ∙ whole_at-tree_text_of b k.sound k.depth k.bytes)
