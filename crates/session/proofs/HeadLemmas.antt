-- The first lines of a session, which ask nobody.
use Rattle.std.proofs.lemmas.List.{append-nil}
use Rattle.std.proofs.Common.{◌≡◌, ℕ, true, false, inl, inr, refl, sym, ap, ◌∙◌, subst, List, [], ◌∷◌, ◌++◌, Option, Some, None, append_assoc}
use Rattle.model.specs.declared.mode.Mode.{Mode}
use Rattle.model.specs.declared.refusal.Refusal.{Refusal}
use Rattle.model.specs.Events as events
use Rattle.model.specs.Replies as replies
use Rattle.model.specs.Worlds.{Job as GoalId}
use Rattle.model.specs.ParsedLines.{ParsedLine}
use Rattle.model.specs.Talk.{LineRow, Silent, Names, Refuses, Asks, Waits, Seen, fresh, parsed_of, Gets, GetsNext, seen_after, after_all, users_in}
use Rattle.std.specs.Global.{Vec}
use Rattle.lines.specs.declared.line.Reading.{Reading}
use Rattle.lines.specs.declared.line.Reading.TheVariants as reading
use Rattle.lines.specs.Reading.{IsRowOf, Becomes}
use Rattle.model.specs.declared.refusal.Refusal.TheVariants.{BadUsers}
use Rattle.session.specs.Serving.{Link, Chain, Progress, Finished, EndedEarly, AnsweredSoFar, Gives, StopsAt, HasNoNewline, HoldsMore, EndsIn}
use Rattle.session.proofs.FeedLemmas.{piece-all, piece-line, input-line, piece-rest}
use Rattle.session.proofs.ProgressLemmas.{progress-held, early-here}
use Rattle.session.specs.Ahead.{Searched, LooksAhead}
use Rattle.session.specs.Heads.{Idle, IsNamedBy, GoesIdle, IsHeadLine, NamesBehind}
use Rattle.session.proofs.AheadLemmas.{found-line}
use Rattle.session.proofs.EarlyLemmas.{quiet}

-- ---- rows before the users are named

-- what a line gives asks nobody, whoever was there to be asked
pub idle-gives : {A : Type 0} (L : A → LineRow → A → Type 0) (seen seen' : Seen) (line : List ℕ) (now next : A) (text : List ℕ) → seen.begun ≡ false
    → Gives (GetsNext seen line) L seen seen' now next text → Gives (GetsNext seen line) Idle seen seen' tt tt text
idle-gives L seen seen' line now next text b w = (w.0, w.1, w.2, w.3, quiet seen line w.0 b w.1)

pub idle-stops : {A : Type 0} (L : A → LineRow → A → Type 0) (seen : Seen) (line : List ℕ) (now next : A) → seen.begun ≡ false
    → StopsAt (GetsNext seen line) L now next → StopsAt (GetsNext seen line) Idle tt tt
idle-stops L seen line now next b d = elim d [ inl e ↦ inl refl | inr w ↦ inr (w.0, w.1, quiet seen line w.0 b w.1) ]

-- ---- nobody is named yet

begun-stays : (seen : Seen) (row : LineRow) → seen.begun ≡ true → (seen_after seen row).begun ≡ true
begun-stays seen Silent b = b
begun-stays seen (Names users) b = refl
begun-stays seen (Refuses why) b = b
begun-stays seen (Asks event reply) b = b
begun-stays seen (Waits goals reply) b = b

begun-all : (seen : Seen) (rows : List LineRow) → seen.begun ≡ true → (after_all seen rows).begun ≡ true
begun-all seen [] b = b
begun-all seen (row ∷ rows) b = begun-all (seen_after seen row) rows (begun-stays seen row b)

nobody : (seen : Seen) (rows : List LineRow) → (after_all seen rows).begun ≡ false → users_in rows ≡ None
nobody seen [] b = refl
nobody seen (Silent ∷ rows) b = nobody (seen_after seen Silent) rows b
nobody seen (Names users ∷ rows) b = let no : true ≡ false = sym (begun-all (seen_after seen (Names users)) rows refl) ∙ b in absurd (cc)
nobody seen (Refuses why ∷ rows) b = nobody (seen_after seen (Refuses why)) rows b
nobody seen (Asks event reply ∷ rows) b = nobody (seen_after seen (Asks event reply)) rows b
nobody seen (Waits goals reply ∷ rows) b = nobody (seen_after seen (Waits goals reply)) rows b

-- a session on its way that has no users has searched so far
searched-of : {mode : Mode} (blank written : Option (List ℕ)) (input : List ℕ) (seen : Seen) (held : List ℕ) → seen.begun ≡ false
    → Progress mode Idle tt tt blank written input seen held → Searched mode input seen held
searched-of {mode} blank written input seen held b p = record {
  so_far = record {
    rows = p.so_far.rows;
    lines = p.so_far.lines;
    none = nobody (fresh mode) p.so_far.rows (ap (λ (s : Seen). s.begun) (sym p.seen_is) ∙ b);
  };
  held_is = p.held_is;
  seen_is = p.seen_is;
}

-- the line that is held names users
pub names-line : {mode : Mode} (blank written : Option (List ℕ)) (input : List ℕ) (seen : Seen) (held : List ℕ) (users : List (List ℕ)) → seen.begun ≡ false
    → Progress mode Idle tt tt blank written input seen held → GetsNext seen held (Names users) → (more : List ℕ)
    → LooksAhead mode ((input ++ 10 ∷ []) ++ more) (Some users)
names-line {mode} blank written input seen held users b p g more =
    subst (λ t. LooksAhead mode t (Some users)) (sym (append_assoc input (10 ∷ []) more))
    (found-line input seen held (Names users) (Some users) more (searched-of blank written input seen held b p) g refl (λ e. cc))

-- whether users are named by a row, by what its line comes to
row-begins : (goals : List GoalId) (r : Reading) (seen : Seen) (row : LineRow) → IsNamedBy r None → IsRowOf goals r row → seen.begun ≡ false
    → (seen_after seen row).begun ≡ false
row-begins goals reading.Silent seen row n e b = rw e b
row-begins goals (reading.Names users) seen row n e b = absurd n
row-begins goals (reading.Refuses why) seen row n e b = rw e b
row-begins goals (reading.Asks event) seen row n e b = rw e.1 b
row-begins goals reading.Waits seen row n e b = rw e.2 b

row-names : (goals : List GoalId) (parsed : ParsedLine) (r : Reading) (users : Vec (List ℕ)) → IsNamedBy r (Some users) → Becomes parsed r
    → Gets goals parsed (Names users.items)
row-names goals parsed reading.Silent users n b = absurd n
row-names goals parsed (reading.Names named) users n b = rw n (b goals)
row-names goals parsed (reading.Refuses why) users n b = absurd n
row-names goals parsed (reading.Asks event) users n b = absurd n
row-names goals parsed reading.Waits users n b = absurd n

-- the line that is held was answered
pub head-line : (seen seen' : Seen) (held line : List ℕ) (written written' : Option (List ℕ)) (r : Reading) (users : Option (Vec (List ℕ))) → seen.begun ≡ false
    → line ≡ held → Becomes (parsed_of seen line) r → IsNamedBy r users → (row : LineRow) → IsRowOf seen.goals r row → seen' ≡ seen_after seen row
    → GoesIdle written written' seen seen' held [] (10 ∷ []) → IsHeadLine written written' seen seen' held users
head-line seen seen' held line written written' r None b same is named row of next goes =
    (ap (λ (s : Seen). s.begun) next ∙ row-begins seen.goals r seen row named of b, goes)
head-line seen seen' held line written written' r (Some users) b same is named row of next goes =
    (subst (λ t. GetsNext seen t (Names users.items)) same (row-names seen.goals (parsed_of seen line) r users named is), goes)

pub head-goes : (written written' : Option (List ℕ)) (seen seen' : Seen) (held : List ℕ) (users : Option (Vec (List ℕ)))
    → IsHeadLine written written' seen seen' held users
    → GoesIdle written written' seen seen' held [] (10 ∷ [])
head-goes written written' seen seen' held None h = h.1
head-goes written written' seen seen' held (Some users) h = h.1

-- ---- pieces

-- nothing of a piece is taken yet
pub idle-none : (written : Option (List ℕ)) (seen : Seen) (held : List ℕ) → GoesIdle written written seen seen held held []
idle-none written seen held mode first blank input p =
    subst (λ t. Progress mode Idle first tt blank written t seen held) (sym (append-nil input)) p

-- what a piece of the input comes to, behind a front of it that was taken
module _ (written between : Option (List ℕ)) (seen half : Seen) (held part front : List ℕ) (goes : GoesIdle written between seen half held part front)
    (piece rest : List ℕ) (cut : piece ≡ front ++ rest) where
  -- memory was refused there
  pub idle-here : (why : Refusal) → (why ≡ BadUsers → ⊥) → EndsIn Idle tt tt written between seen held piece why
  idle-here why own mode first blank input p =
      subst (λ t. EndedEarly mode Idle first tt blank between t ⊥ why) (piece-all input front rest piece cut)
      (early-here Idle first blank tt between (input ++ front) half part rest why own (goes mode first blank input p))

  -- it is taken to its end
  pub idle-rest : (part' : List ℕ) → HasNoNewline rest → HoldsMore part rest part' → GoesIdle written between seen half held part' piece
  idle-rest part' none holds mode first blank input p =
      subst (λ t. Progress mode Idle first tt blank between t half part') (piece-all input front rest piece cut)
      (progress-held Idle first blank tt between (input ++ front) half part rest part' (goes mode first blank input p) none holds)

  module _ (line behind part' : List ℕ) (none : HasNoNewline line) (parts : rest ≡ line ++ 10 ∷ behind) (holds : HoldsMore part line part') where
    -- the next line is begun
    idle-begun : (mode : Mode) (first : Unit {0}) (blank : Option (List ℕ)) (input : List ℕ) → Progress mode Idle first tt blank written input seen held
        → Progress mode Idle first tt blank between ((input ++ front) ++ line) half part'
    idle-begun mode first blank input p =
        progress-held Idle first blank tt between (input ++ front) half part line part' (goes mode first blank input p) none holds

    -- it ends the session
    pub idle-stopped : (written' : Option (List ℕ)) (why : Refusal) → EndsIn Idle tt tt between written' half part' (10 ∷ behind) why
        → EndsIn Idle tt tt written written' seen held piece why
    idle-stopped written' why ends mode first blank input p =
        subst (λ t. EndedEarly mode Idle first tt blank written' t ⊥ why) (piece-line input front line rest piece behind cut parts)
        (ends mode first blank ((input ++ front) ++ line) (idle-begun mode first blank input p))

    -- it is answered
    pub idle-line : (written' : Option (List ℕ)) (seen' : Seen) → GoesIdle between written' half seen' part' [] (10 ∷ [])
        → GoesIdle written written' seen seen' held [] (front ++ (line ++ 10 ∷ []))
    idle-line written' seen' next mode first blank input p =
        subst (λ t. Progress mode Idle first tt blank written' t seen' []) (input-line input front line)
        (next mode first blank ((input ++ front) ++ line) (idle-begun mode first blank input p))

    pub idle-left : piece ≡ (front ++ (line ++ 10 ∷ [])) ++ behind
    idle-left = piece-rest front line rest piece behind cut parts

    -- and names users
    pub idle-names : (users : List (List ℕ)) → half.begun ≡ false → GetsNext half part' (Names users)
        → NamesBehind written seen held (front ++ (line ++ 10 ∷ [])) users
    idle-names users b g mode blank input p more =
        subst (λ t. LooksAhead mode (t ++ more) (Some users)) (input-line input front line)
        (names-line blank between ((input ++ front) ++ line) half part' users b (idle-begun mode tt blank input p) g more)

-- ---- what asks nobody leaves everybody alone

module _ {A : Type 0} (R : A → events.Event → replies.Reply → A → Type 0) (W : A → List GoalId → replies.Reply → A → Type 0) (one : A) where
  alone : (row : LineRow) → Idle tt row tt → Link R W one row one
  alone Silent h = refl
  alone (Names users) h = refl
  alone (Refuses why) h = refl
  alone (Asks event reply) h = absurd h
  alone (Waits goals reply) h = absurd h

  pub alone-chain : (rows : List LineRow) → Chain Idle tt rows tt → Chain (Link R W) one rows one
  alone-chain [] h = refl
  alone-chain (row ∷ rows) h = (one, alone row h.1, alone-chain rows h.2)

  module _ (mode : Mode) (blank written : Option (List ℕ)) where
    pub alone-progress : (input : List ℕ) (seen : Seen) (held : List ℕ) → Progress mode Idle tt tt blank written input seen held
        → Progress mode (Link R W) one one blank written input seen held
    alone-progress input seen held p = record {
      so_far = record { rows = p.so_far.rows; lines = p.so_far.lines; chain = alone-chain p.so_far.rows p.so_far.chain; text = p.so_far.text };
      held_is = p.held_is;
      seen_is = p.seen_is;
    }

    pub alone-finished : (all : List (List ℕ)) → Finished mode Idle tt tt blank written all → Finished mode (Link R W) one one blank written all
    alone-finished all f = record { rows = f.rows; talks = f.talks; going = f.going; chain = alone-chain f.rows f.chain; text = f.text }

    pub alone-early : (input : List ℕ) (at_end : Type 0) (why : Refusal) → EndedEarly mode Idle tt tt blank written input at_end why
        → EndedEarly mode (Link R W) one one blank written input at_end why
    alone-early input at_end why s = record {
      rows = s.rows;
      done = s.done;
      cut = s.cut;
      talks = s.talks;
      chain = alone-chain s.rows s.chain;
      count = s.count;
      text = s.text;
      users = s.users;
      told = s.told;
    }

    pub alone-so-far : (input : List ℕ) → AnsweredSoFar mode Idle tt tt blank written input → AnsweredSoFar mode (Link R W) one one blank written input
    alone-so-far input s = record { rows = s.rows; lines = s.lines; chain = alone-chain s.rows s.chain; text = s.text }
