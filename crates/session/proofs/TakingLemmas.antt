-- The next line of known bytes.
use Rattle.std.proofs.Common.{◌≡◌, ℕ, ◌+◌, ◌<◌, ◌≤◌, List, [], ◌∷◌, ◌++◌, length, take, Option, Some, None, refl, sym, ap, ◌∙◌, subst, arith, append_assoc, length-append, length-take, take_all, le_refl}
use Rattle.std.specs.Prelude.{IfSome, OnSome}
use Rattle.std.proofs.lemmas.List.{append-nil}
use Rattle.std.specs.Io.{StartsWith}
use Rattle.std.specs.Io.BufRead.{DropsConsumable}
use Rattle.std.specs.Io.KnownBytes.{Consumes, IsAtEnd, Keeps}
use Rattle.std.proofs.BufReadLemmas.{Consumes_shown}
use Rattle.model.specs.Lines.{lines_of, cut_at}
use Rattle.model.specs.Limits.{longest_line}
use Rattle.session.specs.Serving.{HasNoNewline, HoldsMore, IsHeld}
use Rattle.session.specs.Taking.{TakesPart, IsFirstLine}
use Rattle.session.proofs.LineLemmas.{lines-newline, lines-last, HasNoNewline-append, nothing-held}
use Rattle.session.proofs.FeedLemmas.{cut-line, cut-rest}
use Rattle.session.proofs.RowLemmas.{consumes-more, take-seam}

-- ---- what is shown

module _ (start mid left : Option (List ℕ)) (limit : Option ℕ) (shown held held' : List ℕ) (front : IfSome start (λ xs. StartsWith xs shown))
    (end : IfSome start (λ xs. length shown ≡ 0 → xs ≡ [])) (kept : Keeps start mid) (fits : IfSome start (λ _. IfSome limit (λ n. length shown ≤ n))) where
  -- a newline is among it
  pub shown-line : (line after : List ℕ) → cut_at 10 shown ≡ Some (line, after) → HoldsMore held line held'
      → DropsConsumable mid left limit (length line + 1) → TakesPart start left held held' (10 ∷ [])
  shown-line line after cut holds drops =
      let c = cut-line shown line after cut in
      let within : length line + 1 ≤ length shown = omega (arith, ap length c.0, length-append line (10 ∷ after)) in
      let taken = Consumes_shown start mid left limit shown (length line + 1) within front end kept fits drops in
      record {
        part = line;
        within = c.1;
        holds = holds;
        taken = subst (Consumes start left) (ap (take (length line + 1)) c.0 ∙ take-seam line (10 ∷ after) 1) taken.0;
      }

  -- none is
  pub shown-rest : cut_at 10 shown ≡ None → HoldsMore held shown held' → DropsConsumable mid left limit (length shown) → TakesPart start left held held' []
  shown-rest cut holds drops =
      let taken = Consumes_shown start mid left limit shown (length shown) (le_refl _) front end kept fits drops in
      record {
        part = shown;
        within = cut-rest shown cut;
        holds = holds;
        taken = subst (Consumes start left) (take_all (length shown) shown (le_refl _) ∙ sym (append-nil shown)) taken.0;
      }

  -- nothing is shown
  pub shown-end : DropsConsumable mid left limit (length shown) → length shown ≡ 0 → OnSome start (IsAtEnd left)
  shown-end drops none = (Consumes_shown start mid left limit shown (length shown) (le_refl _) front end kept fits drops).1 none

-- ---- the line

-- of the line begun this was taken in all
pub record Begun (start left : Option (List ℕ)) (held : List ℕ) : Type 0 where
  pub part : List ℕ
  pub within : HasNoNewline part
  pub holds : IsHeld part held
  pub taken : Consumes start left part

some_held : (part held : List ℕ) → IsHeld part held → 0 < length held → 0 < length part
some_held part held is some = omega (arith, ap length is, length-take (longest_line + 1) part)

only_line : (part : List ℕ) → HasNoNewline part → 0 < length part → lines_of part ≡ part ∷ []
only_line [] w h = absurd (omega (arith, h))
only_line (b ∷ part) w h = lines-last b part w

-- what is left of known bytes
left_of : (all bytes : List ℕ) (start left : Option (List ℕ)) → start ≡ Some all → Consumes start left bytes
    → (rest : List ℕ) × (left ≡ Some rest) × (all ≡ bytes ++ rest)
left_of all bytes None left is h = cc
left_of all bytes (Some xs) None is h = absurd h
left_of all bytes (Some xs) (Some rest) is h = let same : xs ≡ all = cc in (rest, refl, sym same ∙ h)

-- all of them were taken
all_taken : (all bytes : List ℕ) (start left : Option (List ℕ)) → start ≡ Some all → Consumes start left bytes → IsAtEnd left
    → (left ≡ Some []) × (all ≡ bytes)
all_taken all bytes start left known taken ended =
    let l = left_of all bytes start left known taken in
    let empty : l.0 ≡ [] = subst IsAtEnd l.1 ended in
    (l.1 ∙ ap Some empty, l.2 ∙ ap (λ t. bytes ++ t) empty ∙ append-nil bytes)

module _ (start mid left : Option (List ℕ)) (held held' : List ℕ) (b : Begun start mid held) where
  -- more of it was taken
  pub begun-more : TakesPart mid left held held' [] → Begun start left held'
  begun-more t = record {
    part = b.part ++ t.part;
    within = HasNoNewline-append b.part t.part b.within t.within;
    holds = t.holds b.part b.holds;
    taken = consumes-more start mid left b.part t.part b.taken (subst (Consumes mid left) (append-nil t.part) t.taken);
  }

  -- its newline was
  pub line-whole : TakesPart mid left held held' (10 ∷ []) → (all : List ℕ) → start ≡ Some all → IsFirstLine all left held'
  line-whole t all known =
      let part = b.part ++ t.part in
      let l = left_of all (b.part ++ (t.part ++ 10 ∷ [])) start left known (consumes-more start mid left b.part (t.part ++ 10 ∷ []) b.taken t.taken) in
      let cut : all ≡ part ++ 10 ∷ l.0 =
      l.2 ∙ ap (λ t. t ++ l.0) (sym (append_assoc b.part t.part (10 ∷ []))) ∙ append_assoc part (10 ∷ []) l.0 in
      record {
        first = part;
        held = t.holds b.part b.holds;
        rest = l.0;
        left_is = l.1;
        lines = ap lines_of cut ∙ lines-newline part l.0 (HasNoNewline-append b.part t.part b.within t.within);
      }

  -- the input is at its end, where it is known
  ends : OnSome mid (IsAtEnd left) → (all : List ℕ) → start ≡ Some all → IsAtEnd left
  ends ended all known = subst (λ m. OnSome m (IsAtEnd left)) (left_of all b.part start mid known b.taken).1 ended

  -- there is no more: it is the last one
  pub line-last : TakesPart mid left held held' [] → OnSome mid (IsAtEnd left) → 0 < length held' → (all : List ℕ) → start ≡ Some all
      → IsFirstLine all left held'
  line-last t ended some all known =
      let more = begun-more t in
      let a = all_taken all more.part start left known more.taken (ends ended all known) in
      record {
        first = more.part;
        held = more.holds;
        rest = [];
        left_is = a.0;
        lines = ap lines_of a.1 ∙ only_line more.part more.within (some_held more.part held' more.holds some);
      }

  -- or there is none
  pub line-none : TakesPart mid left held held' [] → OnSome mid (IsAtEnd left) → held' ≡ [] → (all : List ℕ) → start ≡ Some all → all ≡ []
  line-none t ended empty all known =
      let more = begun-more t in
      (all_taken all more.part start left known more.taken (ends ended all known)).1 ∙ nothing-held longest_line more.part (sym empty ∙ more.holds)
