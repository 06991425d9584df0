-- Lines whose events are kept.
use Rattle.std.proofs.Common.{◌≡◌, ℕ, ◌+◌, Bool, true, false, List, [], ◌∷◌, ◌++◌, length, map, refl, sym, ap, ◌∙◌, subst}
use Rattle.std.proofs.Common.{arith, append_assoc, length-append, Option, None, Some}
use Rattle.std.specs.Prelude.{if◌then◌else◌, bytes_eq, slice_get, MatchOption}
use Rattle.std.proofs.lemmas.List.{append-nil}
use Rattle.model.specs.declared.mode.Mode.TheVariants.{Service}
use Rattle.std.specs.Global.{Vec}
use Rattle.model.specs.Worlds.{Setup, Job}
use Rattle.model.specs.Reach.{is_among}
use Rattle.model.specs.Events.{Event as ModelEvent}
use Rattle.model.specs.Replies as replies
use Rattle.model.specs.Replies.{Reply}
use Rattle.model.specs.Lines.{lines_of}
use Rattle.model.specs.Talk.{LineRow, Silent, Names, Refuses, Asks, Waits, Seen, fresh, parsed_of, seen_after, after_all, Gets, GetsNext, Talks, users_in}
use Rattle.events.specs.declared.event.Event.{Event}
use Rattle.events.specs.Terms.{event_of}
use Rattle.session.specs.Serving.{Link, Chain, IsHeld}
use Rattle.session.specs.Heads.{Idle, IsNamedBy}
use Rattle.session.specs.Taking.{IsFirstLine}
use Rattle.session.proofs.RowLemmas.{talks-more, after_all-more, chain-more, length-after_all}
use Rattle.session.proofs.LineLemmas.{parsed_of-held}
use Rattle.session.proofs.AheadLemmas.{users_in-more}
use Rattle.session.proofs.EarlyLemmas.{quiet}
use Rattle.session.proofs.HeadLemmas.{alone-chain}
use Rattle.replaying.specs.OnlyPass.{Only, unasked, IsOnlyAnswer, DoesNothing}
use Rattle.replaying.specs.Replaying.{LinksOnly}
use Rattle.lines.specs.declared.line.Reading.{Reading}
use Rattle.lines.specs.declared.line.Reading.TheVariants as reading
use Rattle.lines.specs.Reading.{IsRowOf}
use Rattle.replaying.specs.Striking.{events_in, is_of, numbers_of}
use Rattle.replaying.specs.BadLines.{numbers_where, is_bad_line, is_bad_reading, bad_numbers, AreBad}
use Rattle.replaying.specs.Recording.{NamesIn, IsFirst, Begins, NamesUsers, Keeps, AreNumbers, AsksOn, RunSoFar, RunsOut, IsAsked, IsFirstRun}
use Rattle.replaying.specs.declared.bad_lines.BadLines.{BadLines}
use Rattle.replaying.specs.declared.first_lines.First.{First}
use Rattle.replaying.specs.declared.numbers.Named.{Named}
use Rattle.replaying.specs.declared.numbers.Notes.{Notes}
use Rattle.replaying.specs.declared.numbers.FirstRun.{FirstRun}
use Rattle.replaying.proofs.ReplayLemmas.{one_store}
use Rattle.replaying.proofs.StrikingLemmas.{numbers-more, events-more}

-- ---- one line

-- whether the first of some events is the user's
abbrev is_first_of : List ℕ → List ModelEvent → Bool
is_first_of user [] = false
is_first_of user (event ∷ events) = bytes_eq event.actor user

next_of : (user : List ℕ) (old new : List Event) (found : List ModelEvent) (his : Bool) → map event_of new ≡ map event_of old ++ found
    → MatchOption (slice_get new (length old)) (his ≡ false) (λ event. his ≡ bytes_eq event.actor user) → his ≡ is_first_of user found
next_of user [] [] [] his e h = h
next_of user [] [] (f ∷ found) his e h = cc
next_of user [] (x ∷ new) [] his e h = cc
next_of user [] (x ∷ new) (f ∷ found) his e h =
    let same : event_of x ≡ f = cc in
    h ∙ ap (λ (event : ModelEvent). bytes_eq event.actor user) same
next_of user (o ∷ old) [] found his e h = cc
next_of user (o ∷ old) (x ∷ new) found his e h =
    let rest : map event_of new ≡ map event_of old ++ found = cc in
    next_of user old new found his rest h

-- the event behind those that were kept before a line is the line's
pub his_line : (user : List ℕ) (old new : List Event) (row : LineRow) (his : Bool) → map event_of new ≡ map event_of old ++ events_in (row ∷ [])
    → MatchOption (slice_get new (length old)) (his ≡ false) (λ event. his ≡ bytes_eq event.actor user) → his ≡ is_of user row
his_line user old new Silent his e h = next_of user old new [] his e h
his_line user old new (Names users) his e h = next_of user old new [] his e h
his_line user old new (Refuses why) his e h = next_of user old new [] his e h
his_line user old new (Waits goals reply) his e h = next_of user old new [] his e h
his_line user old new (Asks event reply) his e h = next_of user old new (event ∷ []) his e h

module _ {A : Type 0} (setup : Setup) (store : A → Only) (events : A → List ModelEvent) (lost : A → Bool) where
  -- who answers as a store does, and keeps what is asked
  abbrev pub answers : A → ModelEvent → Reply → A → Type 0
  answers old event reply new = Keeps setup (store old) (events old) (lost old) event reply (store new) (events new) (lost new)

  abbrev pub waited : A → List Job → Reply → A → Type 0
  waited old goals reply new = (new ≡ old) × (reply ≡ replies.Ok)

  abbrev IsKept : A → LineRow → A → Type 0
  IsKept old row new = LinksOnly setup (store old) row (store new) × (events new ≡ events old ++ events_in (row ∷ []))

  stays : (old new : A) → new ≡ old → events new ≡ events old ++ []
  stays old new same = ap events same ∙ sym (append-nil (events old))

  -- a line that was answered is one link of the store's chain, and its event is kept
  pub link_kept : (old new : A) (row : LineRow) → Link answers waited old row new → lost new ≡ false → IsKept old row new
  link_kept old new Silent h f = (ap store h, stays old new h)
  link_kept old new (Names users) h f = (ap store h, stays old new h)
  link_kept old new (Refuses why) h f = (ap store h, stays old new h)
  link_kept old new (Waits goals reply) h f = ((ap store h.0, h.1), stays old new h.0)
  link_kept old new (Asks event reply) h f = let k = h f in (k.1, k.2)

-- the same of who answered and who does then
pub link_at : {A : Type 0} (old new : A) (setup : Setup) (store : A → Only) (events : A → List ModelEvent) (lost : A → Bool) (row : LineRow)
    → Link (answers setup store events lost) (waited setup store events lost) old row new → lost new ≡ false
    → LinksOnly setup (store old) row (store new) × (events new ≡ events old ++ events_in (row ∷ []))
link_at old new setup store events lost row h f = link_kept setup store events lost old new row h f

-- the event at a place where this many were kept before a line
pub his_at : (user : List ℕ) (old new items : List Event) (n : ℕ) (row : LineRow) (his : Bool) → items ≡ new → n ≡ length old
    → map event_of new ≡ map event_of old ++ events_in (row ∷ [])
    → MatchOption (slice_get items n) (his ≡ false) (λ event. his ≡ bytes_eq event.actor user) → his ≡ is_of user row
his_at user old new items n row his same count e h =
    his_line user old new row his e
    (subst (λ k. MatchOption (slice_get new k) (his ≡ false) (λ event. his ≡ bytes_eq event.actor user)) count
    (subst (λ es. MatchOption (slice_get es n) (his ≡ false) (λ event. his ≡ bytes_eq event.actor user)) same h))

-- a line is refused with 25 where it comes to that
pub bad_row : (goals : List Job) (r : Reading) (row : LineRow) (bad : Bool) → IsRowOf goals r row → bad ≡ is_bad_reading r → bad ≡ is_bad_line row
bad_row goals reading.Silent row bad is e = rw is e
bad_row goals (reading.Names users) row bad is e = rw is e
bad_row goals (reading.Refuses why) row bad is e = rw is e
bad_row goals (reading.Asks event) row bad is e = rw is.1 e
bad_row goals reading.Waits row bad is e = rw is.2 e

-- whether a row names users, by what its line comes to
pub names_in : (goals : List Job) (r : Reading) (seen : Seen) (row : LineRow) (users : Option (Vec (List ℕ))) → IsNamedBy r users → IsRowOf goals r row
    → seen.begun ≡ false → NamesIn row (seen_after seen row) users
names_in goals reading.Silent seen row None n e b = rw e (refl, b)
names_in goals (reading.Names named) seen row None n e b = absurd n
names_in goals (reading.Refuses why) seen row None n e b = rw e (refl, b)
names_in goals (reading.Asks event) seen row None n e b = rw e.1 (refl, b)
names_in goals reading.Waits seen row None n e b = rw e.2 (refl, b)
names_in goals reading.Silent seen row (Some users) n e b = absurd n
names_in goals (reading.Names named) seen row (Some users) n e b = e ∙ ap Names (sym n)
names_in goals (reading.Refuses why) seen row (Some users) n e b = absurd n
names_in goals (reading.Asks event) seen row (Some users) n e b = absurd n
names_in goals reading.Waits seen row (Some users) n e b = absurd n

-- what is held of a line gets the line's row
pub gets_held : (seen : Seen) (full held : List ℕ) (row : LineRow) → IsHeld full held → GetsNext seen held row → GetsNext seen full row
gets_held seen full held row is g = subst (λ f. Gets seen.goals f row) (ap (parsed_of seen) is ∙ parsed_of-held seen full) g

-- the number of one line more, where a test of its row says so
numbered : (test : LineRow → Bool) (rows : List LineRow) (row : LineRow) (seen' : Seen) (so : Bool) → seen' ≡ after_all (fresh Service) (rows ++ row ∷ [])
    → so ≡ test row → numbers_where test 1 rows ++ (if so then length seen'.told ∷ [] else []) ≡ numbers_where test 1 (rows ++ row ∷ [])
numbered test rows row seen' so seen_is so_is =
    let after_row : length seen'.told ≡ 0 + length (rows ++ row ∷ []) =
    ap (λ (s : Seen). length s.told) seen_is ∙ length-after_all (fresh Service) (rows ++ row ∷ []) in
    let count : length seen'.told ≡ 1 + length rows = omega (arith, after_row, length-append rows (row ∷ [])) in
    ap (λ (b : Bool). numbers_where test 1 rows ++ (if b then length seen'.told ∷ [] else [])) so_is
    ∙ ap (λ (n : ℕ). numbers_where test 1 rows ++ (if test row then n ∷ [] else [])) count
    ∙ sym (numbers-more test 1 rows row)

-- ---- the lines up to the one that names the users

-- none was answered yet
pub begins_none : (all : List (List ℕ)) → Begins all all None (fresh Service) None
begins_none all = record {
  rows = [];
  done = [];
  cut = refl;
  talks = tt;
  going = refl;
  named = refl;
  quiet = refl;
  seen_is = refl;
  bad_are = refl;
}

-- one more was, which names these users or none
begins_more : (all rest : List (List ℕ)) (full line : List ℕ) (seen seen' : Seen) (first : First) (bad bad' : Option BadLines)
    (users : Option (List (List ℕ))) → seen.begun ≡ false → IsHeld full line → (h : IsFirst line seen seen' first) → users_in (h.row ∷ []) ≡ users
    → ((numbers : List ℕ) → AreBad bad numbers → AreBad bad' (numbers ++ (if first.is_bad then length seen'.told ∷ [] else [])))
    → Begins all (full ∷ rest) None seen bad → Begins all rest users seen' bad'
begins_more all rest full line seen seen' first bad bad' users none held h names adds s =
    let gets : GetsNext seen full h.row = gets_held seen full line h.row held h.gets in
    let seen_is : seen' ≡ after_all (fresh Service) (s.rows ++ h.row ∷ []) =
    h.seen_is ∙ ap (λ x. seen_after x h.row) s.seen_is ∙ sym (after_all-more (fresh Service) s.rows h.row) in
    record {
      rows = s.rows ++ h.row ∷ [];
      done = s.done ++ full ∷ [];
      cut = s.cut ∙ sym (append_assoc s.done (full ∷ []) rest);
      talks = talks-more (fresh Service) s.done s.rows full h.row s.talks s.going (subst (λ x. GetsNext x full h.row) s.seen_is gets);
      going = ap (λ (x : Seen). x.refused) (sym seen_is) ∙ h.going;
      named = users_in-more s.rows h.row s.named ∙ names;
      quiet = chain-more Idle tt s.rows tt h.row tt s.quiet (quiet seen full h.row none gets);
      seen_is = seen_is;
      bad_are =
          subst (AreBad bad') (numbered is_bad_line s.rows h.row seen' first.is_bad seen_is h.bad_is) (adds (bad_numbers 1 s.rows) s.bad_are);
    }

pub still_nobody : (line : List ℕ) (seen seen' : Seen) (first : First) → IsFirst line seen seen' first → first.users ≡ None → seen'.begun ≡ false
still_nobody line seen seen' first h is = let n : NamesIn h.row seen' None = subst (NamesIn h.row seen') is h.named in n.1

module _ (all : List (List ℕ)) (bytes : List ℕ) (left : Option (List ℕ)) (line : List ℕ) (cut : IsFirstLine bytes left line)
    (seen seen' : Seen) (first : First) (bad bad' : Option BadLines) (none : seen.begun ≡ false) (h : IsFirst line seen seen' first)
    (adds : (numbers : List ℕ) → AreBad bad numbers → AreBad bad' (numbers ++ (if first.is_bad then length seen'.told ∷ [] else [])))
    (s : Begins all (lines_of bytes) None seen bad) where
  begins_line : (users : Option (List (List ℕ))) → users_in (h.row ∷ []) ≡ users → Begins all (lines_of cut.rest) users seen' bad'
  begins_line users names =
      begins_more all (lines_of cut.rest) cut.first line seen seen' first bad bad' users none cut.held h names adds
      (subst (λ t. Begins all t None seen bad) cut.lines s)

  -- the next line names nobody
  pub begins_on : first.users ≡ None → (rest : List ℕ) × (left ≡ Some rest) × Begins all (lines_of rest) None seen' bad'
  begins_on is = let n : NamesIn h.row seen' None = subst (NamesIn h.row seen') is h.named in (cut.rest, cut.left_is, begins_line None n.0)

  -- it names users
  pub names_users : (named : Named) → first.users ≡ Some named.users → named.session ≡ seen' → named.bad ≡ bad' → NamesUsers all left named
  names_users named is session_is bad_is =
      let n : NamesIn h.row seen' (Some named.users) = subst (NamesIn h.row seen') is h.named in
      let b : Begins all (lines_of cut.rest) (Some named.users.items) seen' bad' =
      begins_line (Some named.users.items) (ap (λ (r : LineRow). users_in (r ∷ [])) n) in
      record {
        rest = cut.rest;
        left_is = cut.left_is;
        begins =
            subst (λ x. Begins all (lines_of cut.rest) (Some named.users.items) x named.bad) (sym session_is)
            (subst (λ x. Begins all (lines_of cut.rest) (Some named.users.items) seen' x) (sym bad_is) b);
      }

-- ---- the lines behind it

quiet_events : (rows : List LineRow) → Chain Idle tt rows tt → events_in rows ≡ []
quiet_events [] h = refl
quiet_events (Silent ∷ rows) h = quiet_events rows h.2
quiet_events (Names users ∷ rows) h = quiet_events rows h.2
quiet_events (Refuses why ∷ rows) h = quiet_events rows h.2
quiet_events (Asks event reply ∷ rows) h = absurd h.1
quiet_events (Waits goals reply ∷ rows) h = absurd h.1

quiet_numbers : (user : List ℕ) (n : ℕ) (rows : List LineRow) → Chain Idle tt rows tt → numbers_of user n rows ≡ []
quiet_numbers user n [] h = refl
quiet_numbers user n (Silent ∷ rows) h = quiet_numbers user (n + 1) rows h.2
quiet_numbers user n (Names users ∷ rows) h = quiet_numbers user (n + 1) rows h.2
quiet_numbers user n (Refuses why ∷ rows) h = quiet_numbers user (n + 1) rows h.2
quiet_numbers user n (Asks event reply ∷ rows) h = absurd h.1
quiet_numbers user n (Waits goals reply ∷ rows) h = absurd h.1

-- a store that was asked nothing begins behind the first lines
pub run_begins : (setup : Setup) (user : List ℕ) (all rest : List (List ℕ)) (users : List (List ℕ)) (seen : Seen) (bad : Option BadLines) (notes : Notes)
    → setup.users ≡ users → Begins all rest (Some users) seen bad → notes.session ≡ seen → notes.numbers.bad ≡ bad → notes.numbers.his.items ≡ []
    → notes.user ≡ user → RunSoFar setup user all rest notes unasked []
run_begins setup user all rest users seen bad notes of_users b session_is bad_is his_is user_is = record {
  rows = b.rows;
  done = b.done;
  cut = b.cut;
  talks = b.talks;
  going = b.going;
  named = b.named ∙ ap Some (sym of_users);
  links = alone-chain (IsOnlyAnswer setup) DoesNothing unasked b.rows b.quiet;
  events_are = sym (quiet_events b.rows b.quiet);
  numbers_are = record {
    his = his_is ∙ sym (quiet_numbers user 1 b.rows b.quiet);
    bad = subst (λ x. AreBad x (bad_numbers 1 b.rows)) (sym bad_is) b.bad_are;
  };
  seen_is = session_is ∙ b.seen_is;
  user_is = user_is;
}

named_still : (rows : List LineRow) (row : LineRow) (users : List (List ℕ)) → users_in rows ≡ Some users → users_in (rows ++ row ∷ []) ≡ Some users
named_still [] row users e = cc
named_still (Silent ∷ rows) row users e = named_still rows row users e
named_still (Names named ∷ rows) row users e = e
named_still (Refuses why ∷ rows) row users e = named_still rows row users e
named_still (Asks event reply ∷ rows) row users e = named_still rows row users e
named_still (Waits goals reply ∷ rows) row users e = named_still rows row users e

module _ (setup : Setup) (user : List ℕ) where
  -- both numbers
  are_numbered : (rows : List LineRow) (line : List ℕ) (notes notes' : Notes) (mid new : Only) (events events' : List ModelEvent)
      → (h : AsksOn setup line notes mid events notes' new events') → notes.user ≡ user
      → notes'.session ≡ after_all (fresh Service) (rows ++ h.asked.row ∷ []) → AreNumbers user rows notes.numbers
      → AreNumbers user (rows ++ h.asked.row ∷ []) notes'.numbers
  are_numbered rows line notes notes' mid new events events' h user_is seen_is are =
      let adds = h.numbers_are in
      let row = h.asked.row in
      let told = notes'.session.told in
      let his_is : h.came.is_his ≡ is_of user row = h.asked.his_is ∙ ap (λ u. is_of u row) user_is in
      record {
        his = adds.his
            ∙ ap (λ (t : List ℕ). t ++ (if h.came.is_his then length told ∷ [] else [])) are.his
            ∙ numbered (is_of user) rows row notes'.session h.came.is_his seen_is his_is;
        bad = subst (AreBad notes'.numbers.bad) (numbered is_bad_line rows row notes'.session h.came.is_bad seen_is h.asked.bad_is) (adds.bad (bad_numbers 1 rows) are.bad);
      }

  run_more : (all rest : List (List ℕ)) (full line : List ℕ) (notes notes' : Notes) (mid new : Only) (events events' : List ModelEvent) → IsHeld full line
      → RunSoFar setup user all (full ∷ rest) notes mid events → AsksOn setup line notes mid events notes' new events'
      → RunSoFar setup user all rest notes' new events'
  run_more all rest full line notes notes' mid new events events' held s h =
      let l = h.asked in
      let gets : GetsNext (after_all (fresh Service) s.rows) full l.row =
      subst (λ x. GetsNext x full l.row) s.seen_is (gets_held notes.session full line l.row held l.gets) in
      let seen_is : notes'.session ≡ after_all (fresh Service) (s.rows ++ l.row ∷ []) =
      l.seen_is ∙ ap (λ x. seen_after x l.row) s.seen_is ∙ sym (after_all-more (fresh Service) s.rows l.row) in
      record {
        rows = s.rows ++ l.row ∷ [];
        done = s.done ++ full ∷ [];
        cut = s.cut ∙ sym (append_assoc s.done (full ∷ []) rest);
        talks = talks-more (fresh Service) s.done s.rows full l.row s.talks s.going gets;
        going = ap (λ (x : Seen). x.refused) (sym seen_is) ∙ l.going;
        named = named_still s.rows l.row setup.users s.named;
        links = chain-more (LinksOnly setup) unasked s.rows mid l.row new s.links l.link;
        events_are = l.events_are ∙ ap (λ (t : List ModelEvent). t ++ events_in (l.row ∷ [])) s.events_are ∙ sym (events-more s.rows l.row);
        numbers_are = are_numbered s.rows line notes notes' mid new events events' h s.user_is seen_is s.numbers_are;
        seen_is = seen_is;
        user_is = h.user_is ∙ s.user_is;
      }

  -- the next line was asked
  pub runs_on : (all : List (List ℕ)) (bytes line : List ℕ) (left : Option (List ℕ)) (notes notes' : Notes) (mid new : Only) (events events' : List ModelEvent)
      → IsFirstLine bytes left line → RunSoFar setup user all (lines_of bytes) notes mid events → AsksOn setup line notes mid events notes' new events'
      → (rest : List ℕ) × (left ≡ Some rest) × RunSoFar setup user all (lines_of rest) notes' new events'
  runs_on all bytes line left notes notes' mid new events events' cut s h = (
    cut.rest,
    cut.left_is,
    run_more all (lines_of cut.rest) cut.first line notes notes' mid new events events' cut.held
        (subst (λ t. RunSoFar setup user all t notes mid events) cut.lines s) h,
  )

-- ---- a first run

-- what a store was asked that had been asked nothing
pub asked_new : (setup : Setup) (left : Option (List ℕ)) (notes notes' : Notes) (old new : Only) (events : List ModelEvent) (kept : List Event)
    → old ≡ unasked → events ≡ [] → RunsOut setup left notes old events notes' new (map event_of kept) → IsAsked setup left notes notes' kept
asked_new setup left notes notes' old new events kept none nothing out user all rest known s =
    let begun : RunSoFar setup user all (lines_of rest) notes old events =
    subst (λ (o : Only). RunSoFar setup user all (lines_of rest) notes o events) (sym none)
    (subst (λ (es : List ModelEvent). RunSoFar setup user all (lines_of rest) notes unasked es) (sym nothing) s) in
    (new, out user all rest known begun)

-- lines that a pass which had made no call was asked are one store's
pub first_of : (charge : ℕ) (user : List ℕ) (lines : List (List ℕ)) (run : FirstRun) (notes : Notes) (only : Only)
    → is_among user run.users.items ≡ true → run.user ≡ notes.user → run.numbers ≡ notes.numbers
    → RunSoFar (record { users = run.users.items; charge = charge }) user lines [] notes only (map event_of run.events.items)
    → IsFirstRun charge user lines run
first_of charge user lines run notes only listed user_is numbers_are s = record {
  rows = s.rows;
  first = record {
    talks = subst (λ t. Talks (fresh Service) t s.rows) (sym (s.cut ∙ append-nil s.done)) s.talks;
    going = s.going;
    named = s.named;
    listed = listed;
    answered = one_store (record { users = run.users.items; charge = charge }) unasked only s.rows refl s.links;
  };
  user_is = user_is ∙ s.user_is;
  events_are = s.events_are;
  numbers_are = subst (AreNumbers user s.rows) (sym numbers_are) s.numbers_are;
}
