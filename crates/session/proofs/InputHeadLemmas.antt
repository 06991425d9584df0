-- The first line of a file that gets a reply.
use Rattle.std.proofs.Common.{◌≡◌, ◌⊎◌, inl, inr, ℕ, Bool, true, false, true≢false, List, [], ◌∷◌, ◌++◌, refl, sym, ap, ◌∙◌, subst, arith, length, length-append, append_assoc}
use Rattle.std.specs.Prelude.{◌==◌, Option, Some, None, if◌then◌else◌, codes, decimal}
use Rattle.std.specs.Io.KnownBytes.{Consumes}
use Rattle.std.proofs.lemmas.List.{append-nil}
use Rattle.model.specs.declared.mode.Mode.TheVariants.{Run}
use Rattle.model.specs.Worlds.{Job as GoalId}
use Rattle.model.specs.Lines.{split, cut_at, lines_of, onto_first}
use Rattle.model.specs.ParsedLines.{ParsedLine}
use Rattle.model.specs.ParsedLines as parsed
use Rattle.model.specs.Talk.{Seen, LineRow, Silent, Names, Refuses, Asks, Waits, Gets, GetsNext, Talks, seen_after, after_all, fresh, parsed_of, users_in}
use Rattle.model.specs.Talk.{answer_text, reply_text, row_text}
use Rattle.model.specs.Replies as replies
use Rattle.model.specs.Replies.{Reply, Refused}
use Rattle.lines.proofs.CutLemmas.{split-one, split-more}
use Rattle.session.specs.Ahead.{LooksAhead}
use Rattle.session.specs.InputHeads.{FirstNames, BeginsWithUsers, BeginsOtherwise}

-- a text that ends in a byte is not empty
some_text : (front : List ℕ) (last : ℕ) → front ++ last ∷ [] ≡ [] → ⊥
some_text front last none =
    let long = ap length none in
    let all = length-append front (last ∷ []) in
    omega (arith, long, all)

pub empty_text : (text : List ℕ) → length text ≡ 0 → text ≡ []
empty_text [] none = refl
empty_text (b ∷ text) none = absurd (omega (arith, none))

answered : (n : ℕ) (actor : List ℕ) (reply : Reply) → answer_text n actor reply ≡ [] → ⊥
answered n actor reply none = some_text (decimal n ++ 32 ∷ actor ++ 32 ∷ reply_text reply) 10 none

-- a line for which nothing is printed is silent
silent_row : (n : ℕ) (row : LineRow) → row_text n row ≡ [] → row ≡ Silent
silent_row n Silent none = refl
silent_row n (Names users) none = absurd (answered n (codes "-") replies.Ok none)
silent_row n (Refuses why) none = absurd (answered n (codes "-") (Refused why) none)
silent_row n (Asks event reply) none = absurd (answered n event.actor reply none)
silent_row n (Waits goals reply) none = absurd (answered n (codes "-") reply none)

-- a line after which there are users named them
naming_row : (seen : Seen) (row : LineRow) → seen.begun ≡ false → (seen_after seen row).begun ≡ true → (users : List (List ℕ)) × (row ≡ Names users)
naming_row seen (Names users) none some = (users, refl)
naming_row seen Silent none some = absurd (true≢false (sym some ∙ none))
naming_row seen (Refuses why) none some = absurd (true≢false (sym some ∙ none))
naming_row seen (Asks event reply) none some = absurd (true≢false (sym some ∙ none))
naming_row seen (Waits goals reply) none some = absurd (true≢false (sym some ∙ none))

-- one line more got no reply
pub next_silent : (seen next : Seen) (rest line behind : List ℕ) (n : ℕ) (row : LineRow) (text : List ℕ) → cut_at 10 rest ≡ Some (line, behind)
    → GetsNext seen line row → next ≡ seen_after seen row → text ≡ row_text n row → text ≡ [] → seen.begun ≡ false
    → (next.begun ≡ false) × (FirstNames next (split 10 behind) → FirstNames seen (split 10 rest))
next_silent seen next rest line behind n row text cut gets same printed none going =
    let silent : row ≡ Silent = silent_row n row (sym printed ∙ none) in
    let now : next ≡ seen_after seen Silent = same ∙ ap (seen_after seen) silent in (
      ap (λ (s : Seen). s.begun) now ∙ going,
      λ first. subst (FirstNames seen) (sym (split-more 10 rest line behind cut))
          (inr (subst (GetsNext seen line) silent gets, subst (λ (s : Seen). FirstNames s (split 10 behind)) now first)),
    )

-- the next line names users
pub next_names : (seen next : Seen) (rest line behind : List ℕ) (row : LineRow) → cut_at 10 rest ≡ Some (line, behind)
    → GetsNext seen line row → next ≡ seen_after seen row → seen.begun ≡ false → next.begun ≡ true → FirstNames seen (split 10 rest)
next_names seen next rest line behind row cut gets same going begun =
    let named = naming_row seen row going (ap (λ (s : Seen). s.begun) (sym same) ∙ begun) in
    subst (FirstNames seen) (sym (split-more 10 rest line behind cut)) (inl (named.0, subst (GetsNext seen line) named.1 gets))

-- the last one does
pub last_names : (seen next : Seen) (rest : List ℕ) (row : LineRow) → cut_at 10 rest ≡ None
    → GetsNext seen rest row → next ≡ seen_after seen row → seen.begun ≡ false → next.begun ≡ true → FirstNames seen (split 10 rest)
last_names seen next rest row cut gets same going begun =
    let named = naming_row seen row going (ap (λ (s : Seen). s.begun) (sym same) ∙ begun) in
    subst (FirstNames seen) (sym (split-one 10 rest cut)) (inl (named.0, subst (GetsNext seen rest) named.1 gets))

-- ---- lines of which none does

module _ (goals : List GoalId) where
  -- a line that may get nothing gets nothing else
  silent_only : (f : ParsedLine) (row : LineRow) → Gets goals f Silent → Gets goals f row → row ≡ Silent
  silent_only parsed.Silent Silent s g = refl
  silent_only parsed.Silent (Names users) s g = absurd g
  silent_only parsed.Silent (Refuses why) s g = absurd g
  silent_only parsed.Silent (Asks event reply) s g = absurd g
  silent_only parsed.Silent (Waits awaited reply) s g = absurd g
  silent_only (parsed.Names users) row s g = absurd s
  silent_only (parsed.Refuses why) row s g = absurd s
  silent_only (parsed.Asks user command) row s g = absurd s
  silent_only parsed.Waits row s g = absurd s

  -- one that may name users names users
  names_only : (f : ParsedLine) (users : List (List ℕ)) (row : LineRow) → Gets goals f (Names users) → Gets goals f row
      → (named : List (List ℕ)) × (row ≡ Names named)
  names_only (parsed.Names named) users (Names others) n g = (others, refl)
  names_only (parsed.Names named) users Silent n g = absurd g
  names_only (parsed.Names named) users (Refuses why) n g = absurd g
  names_only (parsed.Names named) users (Asks event reply) n g = absurd g
  names_only (parsed.Names named) users (Waits awaited reply) n g = absurd g
  names_only parsed.Silent users row n g = absurd n
  names_only (parsed.Refuses why) users row n g = absurd n
  names_only (parsed.Asks user command) users row n g = absurd n
  names_only parsed.Waits users row n g = absurd n

-- where the first line that gets a reply names users, and this is the row of the first line: that names them, or gets nothing
first_row : (seen : Seen) (line : List ℕ) (lines : List (List ℕ)) (row : LineRow) → GetsNext seen line row → FirstNames seen (line ∷ lines)
    → ((users : List (List ℕ)) × (row ≡ Names users)) ⊎ ((row ≡ Silent) × FirstNames (seen_after seen Silent) lines)
first_row seen line lines row g (inl names) = inl (names_only seen.goals (parsed_of seen line) names.0 row names.1 g)
first_row seen line lines row g (inr silent) = inr (silent_only seen.goals (parsed_of seen line) row silent.0 g, silent.1)

-- a line that got no reply stands before it
pub still_first : (seen next : Seen) (rest line behind : List ℕ) (n : ℕ) (row : LineRow) (text : List ℕ) → cut_at 10 rest ≡ Some (line, behind)
    → GetsNext seen line row → next ≡ seen_after seen row → text ≡ row_text n row → text ≡ []
    → FirstNames seen (split 10 rest) → FirstNames next (split 10 behind)
still_first seen next rest line behind n row text cut gets same printed none first =
    let silent : row ≡ Silent = silent_row n row (sym printed ∙ none) in
    elim (first_row seen line (split 10 behind) row gets (subst (FirstNames seen) (split-more 10 rest line behind cut) first)) [
      | inl names ↦ let bad : Names names.0 ≡ Silent = sym names.1 ∙ silent in cc
      | inr s ↦ subst (λ x. FirstNames x (split 10 behind)) (sym (same ∙ ap (seen_after seen) silent)) s.1
    ]

-- one that got a reply and names no users is the first that gets one
not_these : (seen next : Seen) (line : List ℕ) (lines : List (List ℕ)) (n : ℕ) (row : LineRow) (text : List ℕ) → GetsNext seen line row
    → next ≡ seen_after seen row → text ≡ row_text n row → next.begun ≡ false → (text ≡ [] → ⊥) → FirstNames seen (line ∷ lines) → ⊥
not_these seen next line lines n row text gets same printed begun some first = elim (first_row seen line lines row gets first) [
  | inl names ↦
      let now : next ≡ seen_after seen (Names names.0) = same ∙ ap (seen_after seen) names.1 in
      true≢false (sym (ap (λ (s : Seen). s.begun) now) ∙ begun)
  | inr s ↦ some (printed ∙ ap (row_text n) s.0)
]

pub next_others : (seen next : Seen) (rest line behind : List ℕ) (n : ℕ) (row : LineRow) (text : List ℕ) → cut_at 10 rest ≡ Some (line, behind)
    → GetsNext seen line row → next ≡ seen_after seen row → text ≡ row_text n row → next.begun ≡ false → (text ≡ [] → ⊥)
    → FirstNames seen (split 10 rest) → ⊥
next_others seen next rest line behind n row text cut gets same printed begun some first =
    not_these seen next line (split 10 behind) n row text gets same printed begun some
    (subst (FirstNames seen) (split-more 10 rest line behind cut) first)

-- the last one names none
pub last_others : (seen next : Seen) (rest : List ℕ) (row : LineRow) → cut_at 10 rest ≡ None → GetsNext seen rest row → next ≡ seen_after seen row
    → next.begun ≡ false → FirstNames seen (split 10 rest) → ⊥
last_others seen next rest row cut gets same begun first =
    elim (first_row seen rest [] row gets (subst (FirstNames seen) (split-one 10 rest cut) first)) [
      | inl names ↦
          let now : next ≡ seen_after seen (Names names.0) = same ∙ ap (seen_after seen) names.1 in
          true≢false (sym (ap (λ (s : Seen). s.begun) now) ∙ begun)
      | inr s ↦ s.1
    ]

-- ---- what comes behind what was read

-- the parts of a text between newlines are its lines, but for an empty last one
parts_onto : (b : ℕ) (parts lines : List (List ℕ)) → (parts ≡ lines) ⊎ (parts ≡ lines ++ [] ∷ [])
    → (onto_first b parts ≡ onto_first b lines) ⊎ (onto_first b parts ≡ onto_first b lines ++ [] ∷ [])
parts_onto b parts lines (inl same) = inl (ap (onto_first b) same)
parts_onto b parts [] (inr last) = inl (ap (onto_first b) last)
parts_onto b parts (line ∷ lines) (inr last) = inr (ap (onto_first b) last)

parts_next : (is : Bool) (b : ℕ) (parts lines : List (List ℕ)) → (parts ≡ lines) ⊎ (parts ≡ lines ++ [] ∷ [])
    → ((if is then [] ∷ parts else onto_first b parts) ≡ (if is then [] ∷ lines else onto_first b lines))
    ⊎ ((if is then [] ∷ parts else onto_first b parts) ≡ (if is then [] ∷ lines else onto_first b lines) ++ [] ∷ [])
parts_next true b parts lines (inl same) = inl (ap (λ (ps : List (List ℕ)). [] ∷ ps) same)
parts_next true b parts lines (inr last) = inr (ap (λ (ps : List (List ℕ)). [] ∷ ps) last)
parts_next false b parts lines h = parts_onto b parts lines h

parts_or_lines : (bytes : List ℕ) → (split 10 bytes ≡ lines_of bytes) ⊎ (split 10 bytes ≡ lines_of bytes ++ [] ∷ [])
parts_or_lines [] = inr refl
parts_or_lines (b ∷ bytes) = parts_next (b == 10) b (split 10 bytes) (lines_of bytes) (parts_or_lines bytes)

-- an empty last part names nobody
no_last : (seen : Seen) (lines : List (List ℕ)) → FirstNames seen (lines ++ [] ∷ []) → FirstNames seen lines
no_last seen [] (inl names) = names.1
no_last seen [] (inr silent) = silent.1
no_last seen (line ∷ lines) (inl names) = inl names
no_last seen (line ∷ lines) (inr silent) = inr (silent.0, no_last (seen_after seen Silent) lines silent.1)

first_of_lines : (bytes : List ℕ) → BeginsWithUsers bytes → FirstNames (fresh Run) (lines_of bytes)
first_of_lines bytes first = elim (parts_or_lines bytes) [
  | inl same ↦ subst (FirstNames (fresh Run)) same first
  | inr last ↦ no_last (fresh Run) (lines_of bytes) (subst (FirstNames (fresh Run)) last first)
]

-- lines that name nobody get nothing, where the first that gets a reply names users
all_silent : (seen : Seen) (done rest : List (List ℕ)) (rows : List LineRow) → Talks seen done rows → users_in rows ≡ None
    → FirstNames seen (done ++ rest) → ((after_all seen rows).refused ≡ seen.refused) × FirstNames (after_all seen rows) rest
all_silent seen [] rest [] t none first = (refl, first)
all_silent seen [] rest (row ∷ rows) t none first = absurd t
all_silent seen (line ∷ done) rest [] t none first = absurd t
all_silent seen (line ∷ done) rest (row ∷ rows) t none first = elim (first_row seen line (done ++ rest) row t.1 first) [
  | inl names ↦ let bad : None ≡ Some names.0 = sym none ∙ ap (λ r. users_in (r ∷ rows)) names.1 in cc
  | inr s ↦
      let after : seen_after seen Silent ≡ seen_after seen row = ap (seen_after seen) (sym s.0) in
      let nobody : users_in rows ≡ None = ap (λ r. users_in (r ∷ rows)) (sym s.0) ∙ none in
      let more = all_silent (seen_after seen row) done rest rows t.2 nobody (subst (λ x. FirstNames x (done ++ rest)) after s.1) in
      (more.0 ∙ ap (λ (x : Seen). x.refused) (sym after), more.1)
]

-- an input that names no users does not begin with them
pub none_ahead : (all : List ℕ) → LooksAhead Run all None → BeginsWithUsers all → ⊥
none_ahead all found first =
    let silent = all_silent (fresh Run) found.done found.rest found.rows found.talks found.named
    (subst (FirstNames (fresh Run)) found.cut (first_of_lines all first)) in
    elim (found.ends refl) [
      | inl over ↦ subst (FirstNames (after_all (fresh Run) found.rows)) over silent.1
      | inr refused ↦ true≢false (sym refused ∙ silent.0)
    ]

-- the parts of a text of which more comes: only the last of them goes on
record PartsCut (bytes more : List ℕ) : Type 0 where
  front : List (List ℕ)
  last : List ℕ
  here : split 10 bytes ≡ front ++ last ∷ []
  on : split 10 (bytes ++ more) ≡ front ++ split 10 (last ++ more)

split_first : (b : ℕ) (is : Bool) (bytes : List ℕ) → (b == 10) ≡ is
    → split 10 (b ∷ bytes) ≡ (if is then [] ∷ split 10 bytes else onto_first b (split 10 bytes))
split_first b is bytes same = ap (λ x. if x then [] ∷ split 10 bytes else onto_first b (split 10 bytes)) same

cut_next : (b : ℕ) (bytes more : List ℕ) (is : Bool) → (b == 10) ≡ is → (front : List (List ℕ)) (last : List ℕ)
    → split 10 bytes ≡ front ++ last ∷ [] → split 10 (bytes ++ more) ≡ front ++ split 10 (last ++ more) → PartsCut (b ∷ bytes) more
cut_next b bytes more true is front last here on = record {
  front = [] ∷ front;
  last = last;
  here = split_first b true bytes is ∙ ap (λ (ps : List (List ℕ)). [] ∷ ps) here;
  on = split_first b true (bytes ++ more) is ∙ ap (λ (ps : List (List ℕ)). [] ∷ ps) on;
}
cut_next b bytes more false is [] last here on = record {
  front = [];
  last = b ∷ last;
  here = split_first b false bytes is ∙ ap (onto_first b) here;
  on = split_first b false (bytes ++ more) is ∙ ap (onto_first b) on ∙ sym (split_first b false (last ++ more) is);
}
cut_next b bytes more false is (part ∷ front) last here on = record {
  front = (b ∷ part) ∷ front;
  last = last;
  here = split_first b false bytes is ∙ ap (onto_first b) here;
  on = split_first b false (bytes ++ more) is ∙ ap (onto_first b) on;
}

parts_cut : (bytes more : List ℕ) → PartsCut bytes more
parts_cut [] more = record { front = []; last = []; here = refl; on = refl }
parts_cut (b ∷ bytes) more = let c = parts_cut bytes more in cut_next b bytes more (b == 10) refl c.front c.last c.here c.on

names_row : (row : LineRow) (users : List (List ℕ)) → users_in (row ∷ []) ≡ Some users → row ≡ Names users
names_row Silent users named = cc
names_row (Names others) users named = cc
names_row (Refuses why) users named = cc
names_row (Asks event reply) users named = cc
names_row (Waits goals reply) users named = cc

-- lines that name users begin with them where they do so with others behind the last but one
first_part : (seen : Seen) (front : List (List ℕ)) (last : List ℕ) (others done rest : List (List ℕ)) (rows : List LineRow) (users : List (List ℕ))
    → done ++ rest ≡ front ++ last ∷ [] → Talks seen done rows → users_in rows ≡ Some users → FirstNames seen (front ++ others)
    → FirstNames seen (front ++ last ∷ [])
first_part seen front last others [] rest [] users cut t named first = cc
first_part seen front last others [] rest (row ∷ rows) users cut t named first = absurd t
first_part seen front last others (line ∷ done) rest [] users cut t named first = absurd t
first_part seen [] last others (line ∷ []) rest (row ∷ []) users cut t named first =
    let here : line ≡ last = cc in
    inl (users, subst (GetsNext seen last) (names_row row users named) (subst (λ x. GetsNext seen x row) here t.1))
first_part seen [] last others (line ∷ []) rest (row ∷ next ∷ rows) users cut t named first = absurd t.2
first_part seen [] last others (line ∷ next ∷ done) rest (row ∷ rows) users cut t named first =
    let bad : next ∷ (done ++ rest) ≡ [] = cc in cc
first_part seen (part ∷ front) last others (line ∷ done) rest (row ∷ rows) users cut t named first =
    let here : line ≡ part = cc in
    let tail : done ++ rest ≡ front ++ last ∷ [] = cc in
    elim first [
      | inl names ↦ inl names
      | inr silent ↦
          let s : row ≡ Silent =
          silent_only seen.goals (parsed_of seen part) row silent.0 (subst (λ x. GetsNext seen x row) here t.1) in
          inr (
            silent.0,
            first_part (seen_after seen Silent) front last others done rest rows users tail
                (subst (λ x. Talks (seen_after seen x) done rows) s t.2) (ap (λ r. users_in (r ∷ rows)) (sym s) ∙ named) silent.1,
          )
    ]

-- bytes that name users begin with them where they do so with more behind them
pub some_ahead : (bytes more : List ℕ) (users : List (List ℕ)) → LooksAhead Run (bytes ++ []) (Some users) → BeginsWithUsers (bytes ++ more)
    → BeginsWithUsers bytes
some_ahead bytes more users found first =
    let c = parts_cut bytes more in
    let cut : lines_of bytes ≡ found.done ++ found.rest = ap lines_of (sym (append-nil bytes)) ∙ found.cut in
    let all : (rest : List (List ℕ)) × (split 10 bytes ≡ found.done ++ rest) = elim (parts_or_lines bytes) [
      | inl same ↦ (found.rest, same ∙ cut)
      | inr last ↦ (
        found.rest ++ [] ∷ [],
        last ∙ ap (λ (ls : List (List ℕ)). ls ++ [] ∷ []) cut ∙ append_assoc found.done found.rest ([] ∷ []),
      )
    ] in
    subst (FirstNames (fresh Run)) (sym c.here)
    (first_part (fresh Run) c.front c.last (split 10 (c.last ++ more)) found.done all.0 found.rows users (sym all.1 ∙ c.here) found.talks found.named
    (subst (FirstNames (fresh Run)) c.on first))

-- what is so of all that a reader gives, where these bytes were read of it
pub otherwise : (start end : Option (List ℕ)) (bytes : List ℕ) → Consumes start end bytes
    → ((left : List ℕ) → end ≡ Some left → BeginsWithUsers (bytes ++ left) → ⊥) → BeginsOtherwise start
otherwise None end bytes read f = tt
otherwise (Some all) None bytes read f = absurd read
otherwise (Some all) (Some left) bytes read f = λ first. f left refl (subst BeginsWithUsers read first)
