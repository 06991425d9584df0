-- Replies with comments among them.
use Rattle.std.proofs.Common.{◌≡◌, ◌≢◌, refl, sym, ap, ◌∙◌, subst, ℕ, zero, suc, ◌-◌, ◌≤◌, ◌==◌, Bool, true, false, not, if◌then◌else◌, ◌⊎◌, inl, inr, List, [], ◌∷◌, ◌++◌, length, take, drop, append_assoc, arith}
use Rattle.std.specs.Prelude.{All, Option, None, Some, slice_get}
use Rattle.std.specs.Io.{StopsAt}
use Rattle.std.specs.Io.KnownBytes.{Keeps, Appends, append_known}
use Rattle.std.proofs.lemmas.Bool.{ne_eqb}
use Rattle.std.proofs.lemmas.List.{append-nil, take-append-drop, take-take, length-take-le}
use Rattle.std.proofs.lemmas.List.Elements.{All-head, All-tail, All-take}
use Rattle.messages.specs.declared.explaining.Unwritten.{Unwritten}
use Rattle.messages.specs.Explaining.{StaysOrComments}
use Rattle.messages.specs.Comments.{Place, LineStart, InLine, InComment, place_behind, place_after, is_of_comment, without_comments, ends_so, known_without_comments, is_begun_after, begins_comment, IsComment}

-- ---- in two parts

place_after-append : (place : Place) (xs ys : List ℕ) → place_after place (xs ++ ys) ≡ place_after (place_after place xs) ys
place_after-append place [] ys = refl
place_after-append place (x ∷ xs) ys = place_after-append (place_behind place x) xs ys

without_comments-append : (place : Place) (xs ys : List ℕ)
    → without_comments place (xs ++ ys) ≡ without_comments place xs ++ without_comments (place_after place xs) ys
without_comments-append place [] ys = refl
without_comments-append place (x ∷ xs) ys =
    let rest = without_comments-append (place_behind place x) xs ys in
    elim (is_of_comment place x) as (λ b.
    (if b then without_comments (place_behind place x) (xs ++ ys) else x ∷ without_comments (place_behind place x) (xs ++ ys))
    ≡ (if b then without_comments (place_behind place x) xs else x ∷ without_comments (place_behind place x) xs)
    ++ without_comments (place_after (place_behind place x) xs) ys)
    [ true ↦ rest | false ↦ ap (λ (l : List ℕ). x ∷ l) rest ]

-- ---- within a line

-- where the next byte of a line stands, where one is begun or is to begin
abbrev pub line_place : Bool → Place
line_place false = LineStart
line_place true = InLine

ends_line_place : (is_begun : Bool) → ends_so is_begun (line_place is_begun) ≡ true
ends_line_place false = refl
ends_line_place true = refl

line_place_of : (is_begun : Bool) (place : Place) → ends_so is_begun place ≡ true → place ≡ line_place is_begun
line_place_of false LineStart ends = refl
line_place_of true InLine ends = refl
line_place_of false InLine ends = cc
line_place_of false InComment ends = cc
line_place_of true LineStart ends = cc
line_place_of true InComment ends = cc

stops_behind : (x y stop : ℕ) (ys : List ℕ) → StopsAt (x ∷ y ∷ ys) stop → (x ≢ stop) × StopsAt (y ∷ ys) stop
stops_behind x y stop ys stops =
    let two : suc (suc (length ys)) - 1 ≡ suc (length ys) = omega arith in
    let one : suc (length ys) - 1 ≡ length ys = omega arith in
    let whole = subst (λ (n : ℕ). All (λ b. b ≢ stop) (take n (x ∷ y ∷ ys))) two stops in (
      All-head (λ b. b ≢ stop) x (take (length ys) (y ∷ ys)) whole,
      subst (λ (n : ℕ). All (λ b. b ≢ stop) (take n (y ∷ ys))) (sym one) (All-tail (λ b. b ≢ stop) x (take (length ys) (y ∷ ys)) whole),
    )

-- bytes of one line that is begun are of no comment, and behind them it is begun, or the next is to begin
begun_line : (s : List ℕ) → StopsAt s 10
    → (without_comments InLine s ≡ s) × (place_after InLine s ≡ line_place (is_begun_after true s))
begun_line [] stops = (refl, refl)
begun_line (x ∷ []) stops = (
  refl,
  elim (x == 10) as (λ b. (if b then LineStart else InLine) ≡ line_place (not b)) [ true ↦ refl | false ↦ refl ],
)
begun_line (x ∷ y ∷ ys) stops =
    let behind = stops_behind x y 10 ys stops in
    let other : (x == 10) ≡ false = ne_eqb x 10 behind.0 in
    let rest = begun_line (y ∷ ys) behind.1 in (
      ap (λ (l : List ℕ). x ∷ l) (rw other (rest.0)),
      rw other rest.1,
    )

-- so it is of one that is to begin, unless it is a comment
first_line : (s : List ℕ) → StopsAt s 10 → begins_comment false s ≡ false
    → (without_comments LineStart s ≡ s) × (place_after LineStart s ≡ line_place (is_begun_after false s))
first_line [] stops none = (refl, refl)
first_line (x ∷ []) stops none = (
  rw none refl,
  rw none (elim (x == 10) as (λ b. (if b then LineStart else InLine) ≡ line_place (not b)) [ true ↦ refl | false ↦ refl ]),
)
first_line (x ∷ y ∷ ys) stops none =
    let behind = stops_behind x y 10 ys stops in
    let other : (x == 10) ≡ false = ne_eqb x 10 behind.0 in
    let rest = begun_line (y ∷ ys) behind.1 in (
      rw (none, other) (ap (λ (l : List ℕ). x ∷ l) rest.0),
      rw (other, none) rest.1,
    )

line_goes_on : (is_begun : Bool) (s : List ℕ) → StopsAt s 10 → begins_comment is_begun s ≡ false
    → (without_comments (line_place is_begun) s ≡ s) × (place_after (line_place is_begun) s ≡ line_place (is_begun_after is_begun s))
line_goes_on true s stops none = begun_line s stops
line_goes_on false s stops none = first_line s stops none

-- the last byte tells whether a line is begun
pub begun_by_last : (is_begun : Bool) (s : List ℕ) (last : ℕ) → slice_get s (length s - 1) ≡ Some last → not (last == 10) ≡ is_begun_after is_begun s
begun_by_last is_begun [] last is = cc
begun_by_last is_begun (x ∷ []) last is = let same : x ≡ last = cc in subst (λ (l : ℕ). not (l == 10) ≡ not (x == 10)) same refl
begun_by_last is_begun (x ∷ y ∷ ys) last is =
    let two : suc (suc (length ys)) - 1 ≡ suc (length ys) = omega arith in
    let one : suc (length ys) - 1 ≡ length ys = omega arith in
    let here : slice_get (x ∷ y ∷ ys) (suc (length ys)) ≡ Some last = subst (λ (n : ℕ). slice_get (x ∷ y ∷ ys) n ≡ Some last) two is in
    begun_by_last (not (x == 10)) (y ∷ ys) last (subst (λ (n : ℕ). slice_get (y ∷ ys) n ≡ Some last) (sym one) here)

stops_within : (n stop : ℕ) (s : List ℕ) → n ≤ length s → StopsAt s stop → StopsAt (take n s) stop
stops_within n stop s within stops =
    let long : length (take n s) ≡ n = length-take-le n s within in
    let same : take (n - 1) (take (length s - 1) s) ≡ take (n - 1) (take n s) =
    take-take (n - 1) (length s - 1) s (omega arith) ∙ sym (take-take (n - 1) n s (omega arith)) in
    subst (λ (m : ℕ). All (λ b. b ≢ stop) (take (m - 1) (take n s))) (sym long)
    (subst (All (λ b. b ≢ stop)) same (All-take (λ b. b ≢ stop) (n - 1) (take (length s - 1) s) stops))

no_comment_within : (is_begun : Bool) (n : ℕ) (s : List ℕ) → begins_comment is_begun s ≡ false → begins_comment is_begun (take n s) ≡ false
no_comment_within true n s none = refl
no_comment_within false zero s none = refl
no_comment_within false (suc n) [] none = refl
no_comment_within false (suc n) (x ∷ xs) none = none

-- ---- a comment

comment_ends : (text : List ℕ) → All (λ b. b ≢ 10) text
    → (without_comments InComment (text ++ 10 ∷ []) ≡ []) × (place_after InComment (text ++ 10 ∷ []) ≡ LineStart)
comment_ends [] inside = (refl, refl)
comment_ends (x ∷ xs) inside =
    let other : (x == 10) ≡ false = ne_eqb x 10 (All-head (λ b. b ≢ 10) x xs inside) in
    let rest = comment_ends xs (All-tail (λ b. b ≢ 10) x xs inside) in (
      subst (λ (b : Bool). without_comments (if b then LineStart else InComment) (xs ++ 10 ∷ []) ≡ []) (sym other) rest.0,
      subst (λ (b : Bool). place_after (if b then LineStart else InComment) (xs ++ 10 ∷ []) ≡ LineStart) (sym other) rest.1,
    )

-- behind a line there is nothing, or a comment
abbrev pub IsBehind : Bool → List ℕ → Type 0
IsBehind is_begun rest = (rest ≡ []) ⊎ ((is_begun ≡ false) × IsComment rest)

behind_line : (is_begun : Bool) (rest : List ℕ) → IsBehind is_begun rest
    → (without_comments (line_place is_begun) rest ≡ []) × (place_after (line_place is_begun) rest ≡ line_place is_begun)
behind_line is_begun rest (inl none) = subst (λ (r : List ℕ). (without_comments (line_place is_begun) r ≡ []) × (place_after (line_place is_begun) r ≡ line_place is_begun)) (sym none) (refl, refl)
behind_line is_begun rest (inr comment) =
    subst (λ (b : Bool). (without_comments (line_place b) rest ≡ []) × (place_after (line_place b) rest ≡ line_place b)) (sym comment.0)
    (subst (λ (r : List ℕ). (without_comments LineStart r ≡ []) × (place_after LineStart r ≡ LineStart)) (sym comment.1.is)
    (comment_ends comment.1.text comment.1.inside))

-- ---- what is known

pub keeps_same : (known : Option (List ℕ)) → Keeps known known
keeps_same None = tt
keeps_same (Some xs) = refl

pub keeps_on : (a b c : Option (List ℕ)) → Keeps a b → Keeps b c → Keeps a c
keeps_on None b c first second = tt
keeps_on (Some xs) None c first second = absurd first
keeps_on (Some xs) (Some ys) None first second = absurd second
keeps_on (Some xs) (Some ys) (Some zs) first second = second ∙ first

pub keeps_then_appends : (a b c : Option (List ℕ)) (s : List ℕ) → Keeps a b → Appends b c s → Appends a c s
keeps_then_appends None b c s first second = tt
keeps_then_appends (Some xs) None c s first second = absurd first
keeps_then_appends (Some xs) (Some ys) None s first second = absurd second
keeps_then_appends (Some xs) (Some ys) (Some zs) s first second = second ∙ ap (λ (l : List ℕ). l ++ s) first

pub known_kept : (is_begun : Bool) (a b : Option (List ℕ)) → Keeps a b → Keeps (known_without_comments is_begun a) (known_without_comments is_begun b)
known_kept is_begun None b kept = tt
known_kept is_begun (Some xs) None kept = absurd kept
known_kept is_begun (Some xs) (Some ys) kept =
    subst (λ (zs : List ℕ). Keeps (known_without_comments is_begun (Some xs)) (known_without_comments is_begun (Some zs))) (sym kept)
    (keeps_same (known_without_comments is_begun (Some xs)))

-- some bytes are written of those that are yet to be
pub moved : (known a b : Option (List ℕ)) (n : ℕ) (rest : List ℕ) → Keeps known (append_known a rest) → Appends a b (take n rest)
    → Keeps known (append_known b (drop n rest))
moved None a b n rest kept written = tt
moved (Some all) None b n rest kept written = absurd kept
moved (Some all) (Some xs) None n rest kept written = absurd written
moved (Some all) (Some xs) (Some ys) n rest kept written =
    ap (λ (l : List ℕ). l ++ drop n rest) written ∙ append_assoc xs (take n rest) (drop n rest) ∙ ap (λ (l : List ℕ). xs ++ l) (take-append-drop n rest) ∙ kept

pub still_kept : (known a b : Option (List ℕ)) (rest : List ℕ) → Keeps known (append_known a rest) → Keeps a b → Keeps known (append_known b rest)
still_kept None a b rest kept same = tt
still_kept (Some all) None b rest kept same = absurd kept
still_kept (Some all) (Some xs) None rest kept same = absurd same
still_kept (Some all) (Some xs) (Some ys) rest kept same = ap (λ (l : List ℕ). l ++ rest) same ∙ kept

line_known : (is_begun is_begun' ends : Bool) (xs s rest : List ℕ) → ends_so is_begun (place_after LineStart xs) ≡ ends → StopsAt s 10
    → begins_comment is_begun s ≡ false → is_begun' ≡ is_begun_after is_begun s → IsBehind is_begun' rest
    → Appends (if ends then Some (without_comments LineStart xs) else None) (known_without_comments is_begun' (Some ((xs ++ s) ++ rest))) s
line_known is_begun is_begun' false xs s rest is stops none after behind = tt
line_known is_begun is_begun' true xs s rest is stops none after behind =
    let here : place_after LineStart xs ≡ line_place is_begun = line_place_of is_begun (place_after LineStart xs) is in
    let line = line_goes_on is_begun s stops none in
    let next = behind_line is_begun' rest behind in
    let middle : place_after LineStart (xs ++ s) ≡ line_place is_begun' =
    place_after-append LineStart xs s ∙ ap (λ (p : Place). place_after p s) here ∙ line.1 ∙ ap line_place (sym after) in
    let last : place_after LineStart ((xs ++ s) ++ rest) ≡ line_place is_begun' =
    place_after-append LineStart (xs ++ s) rest ∙ ap (λ (p : Place). place_after p rest) middle ∙ next.1 in
    let ends : ends_so is_begun' (place_after LineStart ((xs ++ s) ++ rest)) ≡ true = ap (ends_so is_begun') last ∙ ends_line_place is_begun' in
    let front : without_comments LineStart (xs ++ s) ≡ without_comments LineStart xs ++ s =
    without_comments-append LineStart xs s ∙ ap (λ (p : Place). without_comments LineStart xs ++ without_comments p s) here
    ∙ ap (λ (l : List ℕ). without_comments LineStart xs ++ l) line.0 in
    let whole : without_comments LineStart ((xs ++ s) ++ rest) ≡ without_comments LineStart xs ++ s =
    without_comments-append LineStart (xs ++ s) rest ∙ ap (λ (p : Place). without_comments LineStart (xs ++ s) ++ without_comments p rest) middle
    ∙ ap (λ (l : List ℕ). without_comments LineStart (xs ++ s) ++ l) next.0 ∙ append-nil (without_comments LineStart (xs ++ s)) ∙ front in
    subst (λ (c : Bool). Appends (Some (without_comments LineStart xs))
    (if c then Some (without_comments LineStart ((xs ++ s) ++ rest)) else None) s) (sym ends) whole

-- bytes of a line are written, and behind them is nothing yet, or a comment
pub line_written : (is_begun is_begun' : Bool) (a b : Option (List ℕ)) (s rest : List ℕ) → StopsAt s 10 → begins_comment is_begun s ≡ false
    → is_begun' ≡ is_begun_after is_begun s → IsBehind is_begun' rest → Appends a b s
    → Appends (known_without_comments is_begun (append_known a [])) (known_without_comments is_begun' (append_known b rest)) s
line_written is_begun is_begun' None b s rest stops none after behind written = tt
line_written is_begun is_begun' (Some xs) None s rest stops none after behind written = absurd written
line_written is_begun is_begun' (Some xs) (Some ys) s rest stops none after behind written =
    subst (λ (before : List ℕ). Appends (known_without_comments is_begun (Some before)) (known_without_comments is_begun' (Some (ys ++ rest))) s)
    (sym (append-nil xs))
    (subst (λ (all : List ℕ). Appends (known_without_comments is_begun (Some xs)) (known_without_comments is_begun' (Some (all ++ rest))) s)
    (sym written)
    (line_known is_begun is_begun' (ends_so is_begun (place_after LineStart xs)) xs s rest refl stops none after behind))

-- what is yet to be written behind bytes of a line: nothing, or a comment
pub still_behind : (is_begun : Bool) (old new : Unwritten) → drop old.written old.text.items ≡ [] → StaysOrComments is_begun old new
    → IsBehind is_begun (drop new.written new.text.items)
still_behind is_begun old new none (inl same) = inl (subst (λ (u : Unwritten). drop u.written u.text.items ≡ []) (sym same) none)
still_behind is_begun old new none (inr comment) =
    inr (comment.0, subst (λ (n : ℕ). IsComment (drop n new.text.items)) (sym comment.1) comment.2)

-- the front of bytes of a line is written: then all bytes that are taken are
pub front_written : (is_begun is_begun' : Bool) (a b : Option (List ℕ)) (part bytes rest : List ℕ) (n : ℕ) → n ≤ length part
    → part ≡ take (length part) bytes → StopsAt part 10 → begins_comment is_begun part ≡ false
    → is_begun' ≡ is_begun_after is_begun (take n part) → IsBehind is_begun' rest → Appends a b (take n part)
    → Appends (known_without_comments is_begun (append_known a [])) (known_without_comments is_begun' (append_known b rest)) (take n bytes)
front_written is_begun is_begun' a b part bytes rest n within front stops none after behind written =
    subst (Appends (known_without_comments is_begun (append_known a [])) (known_without_comments is_begun' (append_known b rest)))
    (ap (take n) front ∙ take-take n (length part) bytes within)
    (line_written is_begun is_begun' a b (take n part) rest (stops_within n 10 part within stops) (no_comment_within is_begun n part none) after behind written)
