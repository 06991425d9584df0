-- What a session did with its lines: the answers and waits that it had, and what it wrote.
use Rattle.std.specs.Prelude.{◌≡◌, ◌⊎◌, ◌≤◌, ◌==◌, ⊤, true, false, ℕ, ◌+◌, List, [], ◌∷◌, ◌++◌, length, take, Option, Some, None, Result, OnOk, IfErr}
use mathlib.Core.List.{IsPrefix}
use Rattle.std.specs.Io.KnownBytes.{Appends, Consumes, IsAtEnd}
use Rattle.model.specs.declared.mode.Mode.{Mode}
use Rattle.model.specs.declared.refusal.Refusal.{Refusal}
use Rattle.model.specs.declared.refusal.Refusal.TheVariants.{InputFault, OutputFault, Memory, BadUsers}
use Rattle.model.specs.Events.{Event}
use Rattle.model.specs.Replies.{Reply}
use Rattle.model.specs.Worlds.{Job as GoalId}
use Rattle.model.specs.Lines.{lines_of}
use Rattle.model.specs.Limits.{longest_line}
pub use Rattle.nar.specs.Writing.{HasFailed, IsFault, MayBeFault, IsUnwritten}
use Rattle.model.specs.Talk.{LineRow, Silent, Names, Refuses, Asks, Waits, Seen, fresh, seen_after, after_all, Talks, row_text, text_from}

-- one row's link of the chain: an event is one answer, a wait is one wait for its goals, and any other line leaves the answer alone
abbrev pub Link : {A : Type 0} → (A → Event → Reply → A → Type 0) → (A → List GoalId → Reply → A → Type 0) → A → LineRow → A → Type 0
Link answers waited old Silent new = new ≡ old
Link answers waited old (Names users) new = new ≡ old
Link answers waited old (Refuses why) new = new ≡ old
Link answers waited old (Asks event reply) new = answers old event reply new
Link answers waited old (Waits goals reply) new = waited old goals reply new

-- the links of the rows form one chain from old to new
abbrev pub Chain : {A : Type 0} → (A → LineRow → A → Type 0) → A → List LineRow → A → Type 0
Chain link old [] new = new ≡ old
Chain {A} link old (row ∷ rows) new = (mid : A) × link old row mid × Chain link mid rows new

-- what a session has done with all of these lines, read and answered one after another
pub record Finished (mode : Mode) {A : Type 0} (link : A → LineRow → A → Type 0) (first now : A) (blank written : Option (List ℕ))
    (all : List (List ℕ)) : Type 0 where
  pub rows : List LineRow
  pub talks : Talks (fresh mode) all rows
  pub going : (after_all (fresh mode) rows).refused ≡ false
  pub chain : Chain link first rows now
  pub text : Appends blank written (text_from 1 rows)

-- no byte of it is a newline
abbrev pub HasNoNewline : List ℕ → Type 0
HasNoNewline [] = Unit {0}
HasNoNewline (b ∷ bytes) = ((b == 10) ≡ false) × HasNoNewline bytes

-- the rows of the whole lines of an input of which more may come:
-- whatever comes, the lines of all are the done ones, and then those of the line begun with what comes
pub record WholeLines (mode : Mode) (input : List ℕ) (rows : List LineRow) : Type 0 where
  pub done : List (List ℕ)
  pub partial : List ℕ
  pub cut : (more : List ℕ) → lines_of (input ++ more) ≡ done ++ lines_of (partial ++ more)
  pub begun : HasNoNewline partial
  pub talks : Talks (fresh mode) done rows
  pub going : (after_all (fresh mode) rows).refused ≡ false

-- what a session has done with an input of which more may come: its whole lines are answered
pub record AnsweredSoFar (mode : Mode) {A : Type 0} (link : A → LineRow → A → Type 0) (first now : A) (blank written : Option (List ℕ))
    (input : List ℕ) : Type 0 where
  pub rows : List LineRow
  pub lines : WholeLines mode input rows
  pub chain : Chain link first rows now
  pub text : Appends blank written (text_from 1 rows)

-- a line of users was refused in these rows, and so many bytes are all of their text
abbrev pub HasRefused : Mode → List LineRow → ℕ → Type 0
HasRefused mode rows count = ((after_all (fresh mode) rows).refused ≡ true) × (length (text_from 1 rows) ≤ count)

-- what it has done where it ended early: the first lines were answered, and a beginning of their text is written;
-- they are the first lines whatever comes after what was read, and nothing comes where that is at the input's end;
-- it ends with 14 just where a line of users was refused and all of the text is written
pub record EndedEarly (mode : Mode) {A : Type 0} (link : A → LineRow → A → Type 0) (first now : A) (blank written : Option (List ℕ)) (input : List ℕ)
    (at_end : Type 0) (why : Refusal) : Type 0 where
  pub rows : List LineRow
  pub done : List (List ℕ)
  pub cut : (more : List ℕ) → (at_end → more ≡ []) → IsPrefix done (lines_of (input ++ more))
  pub talks : Talks (fresh mode) done rows
  pub chain : Chain link first rows now
  pub count : ℕ
  pub text : Appends blank written (take count (text_from 1 rows))
  pub users : why ≡ BadUsers → HasRefused mode rows count
  pub told : HasRefused mode rows count → why ≡ BadUsers

-- all of its text is written, of all lines or up to the users that were refused, and it could not be shown
abbrev pub NotShown : (mode : Mode) {A : Type 0} (link : A → LineRow → A → Type 0) (first now : A) (blank written : Option (List ℕ)) (input : List ℕ)
    (at_end : Type 0) → Refusal → Type 0
NotShown mode link first now blank written input at_end why = (why ≡ OutputFault)
    × ((at_end × Finished mode link first now blank written (lines_of input)) ⊎ EndedEarly mode link first now blank written input at_end BadUsers)

-- what is held of a line begun: as much of it as shows whether it is too long
abbrev pub IsHeld : List ℕ → List ℕ → Type 0
IsHeld partial held = held ≡ take (longest_line + 1) partial

-- where this was held, that is after these bytes more
abbrev pub HoldsMore : (held bytes held' : List ℕ) → Type 0
HoldsMore held bytes held' = (partial : List ℕ) → IsHeld partial held → IsHeld (partial ++ bytes) held'

-- a session on its way: after this input it keeps seen, and holds the beginning of a line
pub record Progress (mode : Mode) {A : Type 0} (link : A → LineRow → A → Type 0) (first now : A) (blank written : Option (List ℕ)) (input : List ℕ)
    (seen : Seen) (held : List ℕ) : Type 0 where
  pub so_far : AnsweredSoFar mode link first now blank written input
  pub held_is : IsHeld so_far.lines.partial held
  pub seen_is : seen ≡ after_all (fresh mode) so_far.rows

-- from any start on: a session that is on its way is on its way after these bytes more
abbrev pub GoesOn : {A : Type 0} → (A → LineRow → A → Type 0)
    → (now next : A) (written written' : Option (List ℕ)) (seen seen' : Seen) (held held' bytes : List ℕ) → Type 0
GoesOn {A} link now next written written' seen seen' held held' bytes = (mode : Mode) (first : A) (blank : Option (List ℕ)) (input : List ℕ)
    → Progress mode link first now blank written input seen held → Progress mode link first next blank written' (input ++ bytes) seen' held'

-- it ends early in these bytes, of which more may come
abbrev pub EndsIn : {A : Type 0} → (A → LineRow → A → Type 0)
    → (now next : A) (written written' : Option (List ℕ)) (seen : Seen) (held bytes : List ℕ) → Refusal → Type 0
EndsIn {A} link now next written written' seen held bytes why = (mode : Mode) (first : A) (blank : Option (List ℕ)) (input : List ℕ)
    → Progress mode link first now blank written input seen held → EndedEarly mode link first next blank written' (input ++ bytes) ⊥ why

-- it comes to its end
abbrev pub Finishes : {A : Type 0} → (A → LineRow → A → Type 0)
    → (now next : A) (written written' : Option (List ℕ)) (seen : Seen) (held : List ℕ) → Type 0
Finishes {A} link now next written written' seen held = (mode : Mode) (first : A) (blank : Option (List ℕ)) (input : List ℕ)
    → Progress mode link first now blank written input seen held → Finished mode link first next blank written' (lines_of input)

-- it ends early in the last line of its input
abbrev pub EndsAtLast : {A : Type 0} → (A → LineRow → A → Type 0)
    → (now next : A) (written written' : Option (List ℕ)) (seen : Seen) (held : List ℕ) → Refusal → Type 0
EndsAtLast {A} link now next written written' seen held why = (mode : Mode) (first : A) (blank : Option (List ℕ)) (input : List ℕ)
    → Progress mode link first now blank written input seen held → EndedEarly mode link first next blank written' input ⊤ why

-- ---- from any way on, to the end of the input

-- a session that is on its way has finished all where these bytes are what is left of it
abbrev pub FinishesBehind : {A : Type 0} → (A → LineRow → A → Type 0)
    → (now next : A) (written written' : Option (List ℕ)) (seen : Seen) (held bytes : List ℕ) → Type 0
FinishesBehind {A} link now next written written' seen held bytes = (mode : Mode) (first : A) (blank : Option (List ℕ)) (input : List ℕ)
    → Progress mode link first now blank written input seen held → Finished mode link first next blank written' (lines_of (input ++ bytes))

-- it ends early in them
abbrev pub EndsBehind : {A : Type 0} → (A → LineRow → A → Type 0)
    → (now next : A) (written written' : Option (List ℕ)) (seen : Seen) (held bytes : List ℕ) → (at_end : Type 0) → Refusal → Type 0
EndsBehind {A} link now next written written' seen held bytes at_end why = (mode : Mode) (first : A) (blank : Option (List ℕ)) (input : List ℕ)
    → Progress mode link first now blank written input seen held → EndedEarly mode link first next blank written' (input ++ bytes) at_end why

-- it has answered the whole lines up to their end
abbrev pub StopsBehind : {A : Type 0} → (A → LineRow → A → Type 0)
    → (now next : A) (written written' : Option (List ℕ)) (seen : Seen) (held bytes : List ℕ) → Type 0
StopsBehind {A} link now next written written' seen held bytes = (mode : Mode) (first : A) (blank : Option (List ℕ)) (input : List ℕ)
    → Progress mode link first now blank written input seen held → AnsweredSoFar mode link first next blank written' (input ++ bytes)

-- ---- one line

-- what a line of that row gives: what is kept of it, and what is printed for it
abbrev pub GivesRow : LineRow → (seen next : Seen) → List ℕ → Type 0
GivesRow row seen next text = (next ≡ seen_after seen row) × (text ≡ row_text (length seen.told + 1) row)

-- what a line gives of which these may be the rows: a row, what is kept of it, what is printed for it, and what became of the answer
abbrev pub Gives : {A : Type 0} → (LineRow → Type 0) → (A → LineRow → A → Type 0) → (seen next : Seen) (old new : A) → List ℕ → Type 0
Gives Is link seen next old new text =
    (row : LineRow) × Is row × (next ≡ seen_after seen row) × (text ≡ row_text (length seen.told + 1) row) × link old row new

-- where it gives none, its event was answered or not, and its wait has ended or not begun
abbrev pub StopsAt : {A : Type 0} → (LineRow → Type 0) → (A → LineRow → A → Type 0) → (old new : A) → Type 0
StopsAt Is link old new = (new ≡ old) ⊎ ((row : LineRow) × Is row × link old row new)

-- where it is 90, the count shows no failure
abbrev pub IsNoFault : (old new : ℕ) → Refusal → Type 0
IsNoFault old new why = why ≡ Memory → ¬ HasFailed old new

-- where it ended well, the writer's count shows no failure
abbrev pub IsShown : {T E : Type 0} → Result T E → (writes writes_now : ℕ) → Type 0
IsShown result writes writes_now = OnOk result (¬ HasFailed writes writes_now)

-- how lines ended, by how often reader and writer had failed before and have failed now: all is answered only where the reader's count
-- shows no failure, a fault comes of a failure that its count shows, and memory is told only where the writer's count shows none
pub record EndsByCounts {T : Type 0} (result : Result T Refusal) (reads reads_now writes writes_now : ℕ) : Type 0 where
  pub whole : OnOk result (¬ HasFailed reads reads_now)
  pub input_fault : IfErr result (MayBeFault InputFault reads reads_now)
  pub output_fault : IfErr result (MayBeFault OutputFault writes writes_now)
  pub memory : IfErr result (IsNoFault writes writes_now)

-- it is 72 where the writer's count shows a failure, and else 90
abbrev pub IsWant : (output : Type 0) → Refusal → Type 0
IsWant output why = ((why ≡ OutputFault) × output) ⊎ ((why ≡ Memory) × ¬ output)

-- how an end by this refusal is told, by what the counts of reader and writer show then: any other than 71, 72 and 90 as it is,
-- 71 where it is shown, and 90 only where no failure of the writer is
abbrev pub TellsEnd : (ended : Refusal) (input output : Type 0) → Refusal → Type 0
TellsEnd InputFault input output why = ((why ≡ InputFault) × input) ⊎ ((¬ input) × IsWant output why)
TellsEnd OutputFault input output why = IsWant output why
TellsEnd Memory input output why = IsWant output why
TellsEnd ended input output why = why ≡ ended

-- so many bytes of a chunk were read, of which there are none at the input's end; or a read failed that may be tried again
abbrev pub HasRead : (start left : Option (List ℕ)) (chunk : List ℕ) → Option ℕ → Type 0
HasRead start left chunk None = Consumes start left []
HasRead start left chunk (Some n) = (n ≤ length chunk) × Consumes start left (take n chunk) × (n ≡ 0 → IsAtEnd left)

-- what may end a session early while it answers
abbrev pub IsOwn : Refusal → Type 0
IsOwn why = (why ≡ OutputFault) ⊎ (why ≡ Memory) ⊎ (why ≡ BadUsers)
