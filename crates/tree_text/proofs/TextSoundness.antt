-- What is read from a tree text is what is written: the bytes that a part was read from begin with that part's text.
use Rattle.std.proofs.Common.{◌≡◌, ℕ, zero, suc, ◌≤◌, Bool, true, false, cond, inl, inr, List, [], ◌++◌, length, codes, refl, ap, sym, subst, ◌∙◌, append_assoc, append-nil, arith}
use Rattle.std.specs.Prelude.{Option, Some, None, Result, Ok, Err, nat_eq, ◌&&◌}
use Rattle.std.specs.List.{list_all}
use Rattle.std.specs.Str.{bytes_eq}
use Rattle.std.specs.Result.{result_ok}
use Rattle.hex.specs.Hex.{encode_lower, decode_of}
use Rattle.hex.proofs.HexLemmas.{decode_of-ok}
use Rattle.model.specs.Archives.{Tree, IsTree, nar, File, Link, Directory, Entries, NoEntries, Entry, AreBytes, HasBytes, HaveBytes, IsSound, AreSound, depth_of, deepest, is_entry_name, bytes_before}
use Rattle.model.specs.Results.{◌>>=◌}
use Rattle.model.specs.ArchiveReading.{NodeReader, split_at, prefix_at, in_front}
use Rattle.model.specs.TreeTexts.{tree_text_of, entries_text_of, file_mark, separator}
use Rattle.model.specs.Words.{IsWellFormed}
use Rattle.model.proofs.BoolLemmas.{same_bytes, both_parts}
use Rattle.model.proofs.ReadingLemmas.{if_true, if_either, some_same}
use Rattle.tree_text.specs.TextReading.{is_lower_digit, digits_in_front, digits_at, closes, name_at, item_at, items_at, listed_at, leaf_of, leaf_at, kind_at, text_at, whole_at}
use Rattle.tree_text.proofs.LowerDigits.{front_is, take_while-list_all, encode_lower-decode_of}
use Rattle.nar.proofs.ReadingSteps.{bind_some, split_sound, prefix_sound, empty}
use Rattle.tree_text.proofs.TextCompleteness.{item_grouped}

-- ---- digits

ok_of_some : {T E : Type 0} (r : Result T E) (x : T) → result_ok r ≡ Some x → r ≡ Ok x
ok_of_some (Ok y) x h = ap Ok (some_same _ _ h)
ok_of_some (Err e) x h = cc

-- bytes were read from these digits
record AreDigitsRead (whole text rest : List ℕ) : Type 0 where
  pub same : whole ≡ encode_lower text ++ rest
  pub bytes : AreBytes text

digits_sound : (bytes : List ℕ) (r : List ℕ × List ℕ) → digits_at bytes ≡ Some r → AreDigitsRead bytes r.0 r.1
unfolding digits_at
digits_sound bytes r h =
    let count = length (digits_in_front bytes) in
    let Read : List ℕ × List ℕ → Type 0 = λ p. AreDigitsRead bytes p.0 p.1 in
    bind_some (split_at count bytes) (λ front. result_ok (decode_of front.0) >>= λ decoded. Some (decoded, front.1)) r h
    (λ front split h. bind_some (result_ok (decode_of front.0)) (λ decoded. Some (decoded, front.1)) r h
    (λ decoded read h.
    let parts = split_sound count bytes front split in
    let is = front_is is_lower_digit bytes front.0 front.1 parts.0 parts.1 in
    let lower : list_all is_lower_digit front.0 ≡ true = ap (list_all is_lower_digit) is ∙ take_while-list_all is_lower_digit bytes in
    let ok = ok_of_some (decode_of front.0) decoded read in
    let text = sym (encode_lower-decode_of front.0 decoded ok lower) in
    subst Read (some_same _ _ h) (record {
      same = parts.0 ∙ ap (λ s. s ++ front.1) text;
      bytes = (decode_of-ok front.0 decoded ok).3;
    })))

-- ---- trees

-- a tree was read from these bytes, of at most this depth
record IsTextRead (most : ℕ) (whole : List ℕ) (tree : Tree) (rest : List ℕ) : Type 0 where
  pub same : whole ≡ tree_text_of tree ++ rest
  pub bytes : HasBytes tree
  pub sound : IsSound tree
  pub depth : depth_of tree ≤ most

-- an entry was read from these bytes, after one of that name
record IsItemRead (most : ℕ) (last whole name : List ℕ) (tree : Tree) (rest : List ℕ) : Type 0 where
  pub same : whole ≡ encode_lower name ++ (codes "=" ++ (tree_text_of tree ++ rest))
  pub is_name : is_entry_name name ≡ true
  pub in_order : bytes_before last name ≡ true
  pub name_bytes : AreBytes name
  pub bytes : HasBytes tree
  pub sound : IsSound tree
  pub depth : depth_of tree ≤ most

-- entries were read from these bytes, after one of that name
record AreItemsRead (most : ℕ) (first : Bool) (last whole : List ℕ) (entries : Entries) (rest : List ℕ) : Type 0 where
  pub same : whole ≡ entries_text_of first entries ++ rest
  pub bytes : HaveBytes entries
  pub sound : AreSound last entries
  pub depth : deepest entries ≤ most

-- what a way to read trees reads are trees of at most this depth
abbrev ReadsTexts : ℕ → NodeReader → Type 0
ReadsTexts depth node = (bytes : List ℕ) (r : Tree × List ℕ) → node bytes ≡ Some r → IsTextRead depth bytes r.0 r.1

-- a name was read from these bytes, after that one
record IsNameRead (last whole name rest : List ℕ) : Type 0 where
  pub same : whole ≡ encode_lower name ++ (codes "=" ++ rest)
  pub is_name : is_entry_name name ≡ true
  pub in_order : bytes_before last name ≡ true
  pub bytes : AreBytes name

name_sound : (last bytes : List ℕ) (r : List ℕ × List ℕ) → name_at last bytes ≡ Some r → IsNameRead last bytes r.0 r.1
unfolding name_at
name_sound last bytes r h =
    let Read : List ℕ × List ℕ → Type 0 = λ p. IsNameRead last bytes p.0 p.1 in
    bind_some (digits_at bytes) _ r h
    (λ n name h. bind_some (prefix_at (codes "=") n.1) _ r h
    (λ rest sign h.
    let named = digits_sound bytes n name in
    let test = if_true (is_entry_name n.0 && bytes_before last n.0) (Some (n.0, rest)) r h in
    let tests = both_parts _ _ test.0 in
    subst Read (some_same _ _ test.1) (record {
      same = named.same ∙ ap (λ s. encode_lower n.0 ++ s) (prefix_sound (codes "=") n.1 rest sign);
      is_name = tests.0;
      in_order = tests.1;
      bytes = named.bytes;
    })))

item_sound : (depth : ℕ) (node : NodeReader) → ReadsTexts depth node → (last bytes : List ℕ) (r : (List ℕ × Tree) × List ℕ)
    → item_at node last bytes ≡ Some r → IsItemRead depth last bytes r.0.0 r.0.1 r.1
unfolding item_at
item_sound depth node reads last bytes r h =
    let Read : (List ℕ × Tree) × List ℕ → Type 0 = λ p. IsItemRead depth last bytes p.0.0 p.0.1 p.1 in
    bind_some (name_at last bytes) (λ n. node n.1 >>= λ t. Some ((n.0, t.0), t.1)) r h
    (λ n name h. bind_some (node n.1) (λ t. Some ((n.0, t.0), t.1)) r h
    (λ t tree h.
    let named = name_sound last bytes n name in
    let read = reads n.1 t tree in
    subst Read (some_same _ _ h) (record {
      same = named.same ∙ ap (λ s. encode_lower n.0 ++ (codes "=" ++ s)) read.same;
      is_name = named.is_name;
      in_order = named.in_order;
      name_bytes = named.bytes;
      bytes = read.bytes;
      sound = read.sound;
      depth = read.depth;
    })))

items_sound : (depth : ℕ) (node : NodeReader) → ReadsTexts depth node → (n : ℕ) (first : Bool) (last bytes : List ℕ) (r : Entries × List ℕ)
    → items_at node n first last bytes ≡ Some r → AreItemsRead depth first last bytes r.0 r.1
unfolding items_at
items_sound depth node reads zero first last bytes r h =
    let Read : Entries × List ℕ → Type 0 = λ p. AreItemsRead depth first last bytes p.0 p.1 in
    subst Read (some_same _ _ h) (record { same = refl; bytes = tt; sound = tt; depth = omega arith })
items_sound depth node reads (suc n) first last bytes r h =
    let more : (List ℕ × Tree) × List ℕ → Option (Entries × List ℕ) = λ e. in_front e.0.0 e.0.1 (items_at node n false e.0.0 e.1) in
    let next : List ℕ → Option (Entries × List ℕ) = λ rest. item_at node last rest >>= more in
    let Read : Entries × List ℕ → Type 0 = λ p. AreItemsRead depth first last bytes p.0 p.1 in
    elim (if_either (closes bytes) (Some (NoEntries, bytes)) (prefix_at (separator first) bytes >>= next) r h) [
      | inl e ↦ subst Read (some_same _ _ e.1) (record { same = refl; bytes = tt; sound = tt; depth = omega arith })
      | inr e ↦ bind_some (prefix_at (separator first) bytes) next r e.1
          (λ start sign h. bind_some (item_at node last start) more r h
          (λ one item h. bind_some (items_at node n false one.0.0 one.1) (λ os. Some (Entry one.0.0 one.0.1 os.0, os.1)) r h
          (λ os others h.
          let entry = item_sound depth node reads last start one item in
          let read = items_sound depth node reads n false one.0.0 one.1 os others in
          let text = prefix_sound (separator first) bytes start sign ∙ ap (λ s. separator first ++ s) entry.same in
          let inner = ap (λ s. separator first ++ (encode_lower one.0.0 ++ (codes "=" ++ (tree_text_of one.0.1 ++ s)))) read.same in
          subst Read (some_same _ _ h) (record {
            same = text ∙ inner ∙ sym (item_grouped first one.0.0 one.0.1 os.0 os.1);
            bytes = (entry.name_bytes, entry.bytes, read.bytes);
            sound = (entry.is_name, entry.in_order, entry.sound, read.sound);
            depth = omega (arith, entry.depth, read.depth);
          }))))
    ]

-- what follows the kind's mark is a tree's
abbrev Follows : ℕ → List ℕ → List ℕ → Tree × List ℕ → Type 0
Follows depth kind bytes r = IsTextRead depth (kind ++ bytes) r.0 r.1

listed_sound : (depth : ℕ) (node : NodeReader) → ReadsTexts depth node → (bytes : List ℕ) (r : Tree × List ℕ) → listed_at node bytes ≡ Some r
    → Follows (suc depth) (codes "d(") bytes r
unfolding listed_at
listed_sound depth node reads bytes r h =
    bind_some (items_at node (length bytes) true [] bytes) (λ es. prefix_at (codes ")") es.1 >>= λ rest. Some (Directory es.0, rest)) r h
    (λ es entries h. bind_some (prefix_at (codes ")") es.1) (λ rest. Some (Directory es.0, rest)) r h
    (λ rest end h.
    let read = items_sound depth node reads (length bytes) true [] bytes es entries in
    let all : bytes ≡ entries_text_of true es.0 ++ (codes ")" ++ rest) = read.same ∙ ap (λ s. entries_text_of true es.0 ++ s) (prefix_sound (codes ")") es.1 rest end) in
    let grouped : codes "d(" ++ (entries_text_of true es.0 ++ (codes ")" ++ rest)) ≡ tree_text_of (Directory es.0) ++ rest = grind (arith, append_assoc) in
    subst (Follows (suc depth) (codes "d(") bytes) (some_same _ _ h)
    (record { same = ap (λ s. codes "d(" ++ s) all ∙ grouped; bytes = read.bytes; sound = read.sound; depth = omega (arith, read.depth) })))

file_sound : (depth : ℕ) (executable : Bool) (bytes text rest : List ℕ) → AreDigitsRead bytes text rest
    → Follows (suc depth) (file_mark executable) bytes (File executable text, rest)
file_sound depth executable bytes text rest read =
    let same = ap (λ s. file_mark executable ++ s) read.same ∙ sym (append_assoc (file_mark executable) (encode_lower text) rest) in
    record { same = same; bytes = read.bytes; sound = tt; depth = omega arith }

link_sound : (depth : ℕ) (bytes text rest : List ℕ) → AreDigitsRead bytes text rest → Follows (suc depth) (codes "l:") bytes (Link text, rest)
link_sound depth bytes text rest read =
    let same = ap (λ s. codes "l:" ++ s) read.same ∙ sym (append_assoc (codes "l:") (encode_lower text) rest) in
    record { same = same; bytes = read.bytes; sound = tt; depth = omega arith }

leaf_of_sound : (depth : ℕ) (kind bytes text rest : List ℕ) (tree : Tree) → AreDigitsRead bytes text rest → leaf_of kind text ≡ Some tree
    → Follows (suc depth) kind bytes (tree, rest)
leaf_of_sound depth kind bytes text rest tree read h =
    let Read : List ℕ → Tree → Type 0 = λ k t. Follows (suc depth) k bytes (t, rest) in
    let links : Option Tree = cond (bytes_eq kind (codes "l:")) (Some (Link text)) None in
    let executables : Option Tree = cond (bytes_eq kind (codes "x:")) (Some (File true text)) links in
    elim (if_either (bytes_eq kind (codes "f:")) (Some (File false text)) executables tree h) [
      | inl e ↦ subst (Read kind) (some_same _ _ e.1) (subst (λ k. Read k (File false text)) (sym (same_bytes _ _ e.0)) (file_sound depth false bytes text rest read))
      | inr e ↦ elim (if_either (bytes_eq kind (codes "x:")) (Some (File true text)) links tree e.1) [
        | inl e ↦ subst (Read kind) (some_same _ _ e.1) (subst (λ k. Read k (File true text)) (sym (same_bytes _ _ e.0)) (file_sound depth true bytes text rest read))
        | inr e ↦
            let is = if_true (bytes_eq kind (codes "l:")) (Some (Link text)) tree e.1 in
            subst (Read kind) (some_same _ _ is.1) (subst (λ k. Read k (Link text)) (sym (same_bytes _ _ is.0)) (link_sound depth bytes text rest read))
      ]
    ]

leaf_sound : (depth : ℕ) (kind bytes : List ℕ) (r : Tree × List ℕ) → leaf_at kind bytes ≡ Some r → Follows (suc depth) kind bytes r
unfolding leaf_at
leaf_sound depth kind bytes r h =
    bind_some (digits_at bytes) (λ decoded. leaf_of kind decoded.0 >>= λ tree. Some (tree, decoded.1)) r h
    (λ decoded digits h. bind_some (leaf_of kind decoded.0) (λ tree. Some (tree, decoded.1)) r h
    (λ tree leaf h.
    subst (Follows (suc depth) kind bytes) (some_same _ _ h)
    (leaf_of_sound depth kind bytes decoded.0 decoded.1 tree (digits_sound bytes decoded digits) leaf)))

kind_sound : (depth : ℕ) (node : NodeReader) → ReadsTexts depth node → (kind bytes : List ℕ) (r : Tree × List ℕ) → kind_at node kind bytes ≡ Some r
    → Follows (suc depth) kind bytes r
unfolding kind_at
kind_sound depth node reads kind bytes r h =
    let Read : List ℕ → Type 0 = λ k. Follows (suc depth) k bytes r in
    elim (if_either (bytes_eq kind (codes "d(")) (listed_at node bytes) (leaf_at kind bytes) r h) [
      | inl e ↦ subst Read (sym (same_bytes _ _ e.0)) (listed_sound depth node reads bytes r e.1)
      | inr e ↦ leaf_sound depth kind bytes r e.1
    ]

text_sound : (depth : ℕ) → ReadsTexts depth (text_at depth)
unfolding text_at
text_sound zero bytes r h = cc
text_sound (suc depth) bytes r h =
    let Read : List ℕ → Type 0 = λ s. IsTextRead (suc depth) s r.0 r.1 in
    bind_some (split_at 2 bytes) (λ mark. kind_at (text_at depth) mark.0 mark.1) r h
    (λ mark split h.
    subst Read (sym (split_sound 2 bytes mark split).0) (kind_sound depth (text_at depth) (text_sound depth) mark.0 mark.1 r h))

-- ---- whole texts

-- a tree that is read from a text has that text
pub whole_at-sound : (bytes : List ℕ) (tree : Tree) → whole_at bytes ≡ Some tree → IsWellFormed tree × (bytes ≡ tree_text_of tree)
unfolding whole_at
whole_at-sound bytes tree h =
    let Read : Tree → Type 0 = λ t. IsWellFormed t × (bytes ≡ tree_text_of t) in
    bind_some (text_at 64 bytes) (λ t. cond (nat_eq (length t.1) 0) (Some t.0) None) tree h
    (λ t text h.
    let end = if_true (nat_eq (length t.1) 0) (Some t.0) tree h in
    let read = text_sound 64 bytes t text in
    let whole : bytes ≡ tree_text_of t.0 = read.same ∙ ap (λ k. tree_text_of t.0 ++ k) (empty t.1 end.0) ∙ append-nil (tree_text_of t.0) in
    subst Read (some_same _ _ end.1) (record { bytes = read.bytes; sound = read.sound; depth = read.depth }, whole))

-- and is a tree where its archive is within the limit
pub within : (tree : Tree) → IsWellFormed tree → length (nar tree) ≤ 67108864 → IsTree tree
within tree is fits = record { bytes = is.bytes; sound = is.sound; depth = is.depth; length = fits }
