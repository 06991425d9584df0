-- Why the lines of an input are not run for a user.
use Rattle.std.proofs.Common.{◌≡◌, ◌⊎◌, inl, inr, ℕ, Bool, true, false, List, [], ◌∷◌, ◌++◌, Option, None, Some, refl, sym, ap, ◌∙◌, subst, append_assoc}
use Rattle.std.specs.Prelude.{if◌then◌else◌, not, IfSome, Result, Ok, Err, IfErr}
use Rattle.std.proofs.lemmas.Bool.{true≢false}
use Rattle.model.specs.declared.mode.Mode.TheVariants.{Service}
use Rattle.model.specs.declared.refusal.Refusal.{Refusal}
use Rattle.model.specs.declared.refusal.Refusal.TheVariants.{BadUsers, UnknownUser, InputFault, OutputFault, Memory}
use Rattle.model.specs.Reach.{is_among}
use Rattle.model.specs.Worlds.{are_users}
use Rattle.model.specs.Lines.{lines_of}
use Rattle.model.specs.Talk.{LineRow, Silent, Names, Refuses, Asks, Waits, Seen, fresh, seen_after, after_all, GetsNext, users_in}
use Rattle.laws.proofs.TalkLemmas.{named_are_users}
use Rattle.events.specs.Ever.{why_untold}
use Rattle.schedule.specs.Standing.{IsRefusedFor}
use Rattle.session.specs.Serving.{IsUnwritten, IsWant, TellsEnd}
use Rattle.session.specs.Taking.{IsFirstLine}
use Rattle.session.proofs.RowLemmas.{talks-more, after_all-more}
use Rattle.session.proofs.AheadLemmas.{users_in-more}
use Rattle.replaying.specs.declared.bad_lines.BadLines.{BadLines}
use Rattle.replaying.specs.declared.numbers.Named.{Named}
use Rattle.replaying.specs.declared.numbers.FirstRun.{FirstRun}
use Rattle.replaying.specs.Recording.{Begins, NamesUsers, RefusesFirst, IsFirstRun}
use Rattle.replaying.specs.Striking.{IsUnnamed, RefusesUsers, StrikeEndsBy}
use Rattle.replaying.proofs.RecordingLemmas.{gets_held}
use Rattle.session.proofs.FlushLemmas.{Told}

-- ---- what the lines say of the users

-- a line after which one of users was refused, and none before it, names nobody
refused_row : (seen : Seen) (row : LineRow) → seen.refused ≡ false → (seen_after seen row).refused ≡ true → users_in (row ∷ []) ≡ None
refused_row seen Silent going refused = refl
refused_row seen (Names users) going refused = absurd (true≢false (sym refused ∙ going))
refused_row seen (Refuses why) going refused = refl
refused_row seen (Asks event reply) going refused = refl
refused_row seen (Waits goals reply) going refused = refl

-- the next line is one of users that is refused
pub refuses_line : (all bytes : List ℕ) (left : Option (List ℕ)) (line : List ℕ) (seen : Seen) (bad : Option BadLines) → IsFirstLine bytes left line
    → Begins (lines_of all) (lines_of bytes) None seen bad → RefusesFirst line seen → RefusesUsers all
refuses_line all bytes left line seen bad cut s h =
    let row = h.0 in
    let gets : GetsNext seen cut.first row = gets_held seen cut.first line row cut.held h.1 in
    let after : after_all (fresh Service) (s.rows ++ row ∷ []) ≡ seen_after seen row =
    after_all-more (fresh Service) s.rows row ∙ ap (λ x. seen_after x row) (sym s.seen_is) in
    let refused : (after_all (fresh Service) (s.rows ++ row ∷ [])).refused ≡ true = ap (λ (x : Seen). x.refused) after ∙ h.2 in
    record {
      found = record {
        rows = s.rows ++ row ∷ [];
        done = s.done ++ cut.first ∷ [];
        rest = lines_of cut.rest;
        cut = s.cut ∙ ap (λ t. s.done ++ t) cut.lines ∙ sym (append_assoc s.done (cut.first ∷ []) (lines_of cut.rest));
        talks = talks-more (fresh Service) s.done s.rows cut.first row s.talks s.going (subst (λ x. GetsNext x cut.first row) s.seen_is gets);
        named = users_in-more s.rows row s.named ∙ refused_row seen row (ap (λ (x : Seen). x.refused) s.seen_is ∙ s.going) h.2;
        ends = λ e. inr refused;
      };
      refused = refused;
    }

-- there is no line more
pub names_nobody : (all rest : List ℕ) (seen : Seen) (bad : Option BadLines) (user : List ℕ) → rest ≡ []
    → Begins (lines_of all) (lines_of rest) None seen bad → IsUnnamed user all
names_nobody all rest seen bad user none s = record {
  users = None;
  found = record { rows = s.rows; done = s.done; rest = lines_of rest; cut = s.cut; talks = s.talks; named = s.named; ends = λ e. inl (ap lines_of none) };
  going = s.going;
  unlisted = refl;
}

-- the line of users does not name him
pub names_others : (all : List ℕ) (left : Option (List ℕ)) (named : Named) (user : List ℕ) → NamesUsers (lines_of all) left named
    → is_among user named.users.items ≡ false → IsUnnamed user all
names_others all left named user n unlisted =
    let s = n.begins in
    record {
      users = Some named.users.items;
      found = record { rows = s.rows; done = s.done; rest = lines_of n.rest; cut = s.cut; talks = s.talks; named = s.named; ends = λ e. cc };
      going = s.going;
      unlisted = unlisted;
    }

pub named_well : (all : List (List ℕ)) (left : Option (List ℕ)) (named : Named) → NamesUsers all left named → are_users named.users.items ≡ true
named_well all left named n =
    named_are_users (fresh Service) n.begins.done n.begins.rows named.users.items refl n.begins.talks n.begins.named

-- ---- why they are not run

pub if_known : (start : Option (List ℕ)) (P : List ℕ → Type 0) → ((all : List ℕ) → start ≡ Some all → P all) → IfSome start P
if_known None P f = tt
if_known (Some all) P f = f all refl

module _ (user : List ℕ) (start : Option (List ℕ)) where
  pub by_memory : (why : Refusal) → why ≡ Memory → StrikeEndsBy user start why
  by_memory why is = subst (StrikeEndsBy user start) (sym is) tt

  pub by_reading : (why : Refusal) → (why ≡ InputFault) ⊎ (why ≡ Memory) → StrikeEndsBy user start why
  by_reading why (inl is) = subst (StrikeEndsBy user start) (sym is) tt
  by_reading why (inr is) = by_memory why is

  pub by_writing : (why : Refusal) → IsUnwritten why → StrikeEndsBy user start why
  by_writing why (inl is) = subst (StrikeEndsBy user start) (sym is) tt
  by_writing why (inr is) = by_memory why is

  -- a line before which nobody is named is refused
  pub by_first : (why : Refusal) (line : List ℕ) (seen : Seen) → (why ≡ Memory) ⊎ ((why ≡ BadUsers) × RefusesFirst line seen)
      → ((all : List ℕ) → start ≡ Some all → RefusesFirst line seen → RefusesUsers all) → StrikeEndsBy user start why
  by_first why line seen (inl is) f = by_memory why is
  by_first why line seen (inr bad) f =
      subst (StrikeEndsBy user start) (sym bad.0) (if_known start RefusesUsers (λ all known. f all known bad.1))

  -- the user is not among those who are named
  pub by_others : (why : Refusal) (users : List (List ℕ)) → (why ≡ Memory) ⊎ ((why ≡ UnknownUser) × (is_among user users ≡ false))
      → ((all : List ℕ) → start ≡ Some all → is_among user users ≡ false → IsUnnamed user all) → StrikeEndsBy user start why
  by_others why users (inl is) f = by_memory why is
  by_others why users (inr other) f =
      subst (StrikeEndsBy user start) (sym other.0) (if_known start (IsUnnamed user) (λ all known. f all known other.1))

  -- a store for them is refused memory alone
  pub by_store : (why : Refusal) (users : List (List ℕ)) → IsRefusedFor users why → ((all : List ℕ) → start ≡ Some all → are_users users ≡ true)
      → StrikeEndsBy user start why
  by_store why users (inl is) well = by_memory why is
  by_store why users (inr bad) well =
      subst (StrikeEndsBy user start) (sym bad.0)
      (if_known start RefusesUsers (λ all known. absurd (true≢false (sym (well all known) ∙ bad.1))))

pub untold_by : (users : List (List ℕ)) (user : List ℕ) (why : Refusal) → IsRefusedFor users why
    → (why ≡ Memory) ⊎ (why_untold users user ≡ Some why)
untold_by users user why (inl memory) = inl memory
untold_by users user why (inr bad) = inr (rw bad.1 (ap Some (sym bad.0)))

-- the events that can reach one of them are told
told_of : (users : List (List ℕ)) (user : List ℕ) → are_users users ≡ true → is_among user users ≡ true → why_untold users user ≡ None
told_of users user well listed = rw (well, listed) refl

pub first_told : (charge : ℕ) (name : List ℕ) (lines : List (List ℕ)) (run : FirstRun) → IsFirstRun charge name lines run
    → why_untold run.users.items run.user ≡ None
first_told charge name lines run h =
    let well : are_users run.users.items ≡ true =
    named_are_users (fresh Service) lines h.rows run.users.items refl h.first.talks h.first.named in
    told_of run.users.items run.user well (ap (λ u. is_among u run.users.items) h.user_is ∙ h.first.listed)

module _ (name : List ℕ) (start : Option (List ℕ)) (users : List (List ℕ)) (user : List ℕ)
    (told : (all : List ℕ) → start ≡ Some all → why_untold users user ≡ None) where
  never : (why : Refusal) → why_untold users user ≡ Some why → (P : List ℕ → Type 0) → IfSome start P
  never why some P = if_known start P (λ all known. let bad : Some why ≡ None = sym some ∙ told all known in cc)

  by_tests : (b c : Bool) (why : Refusal) → why_untold users user ≡ Some why
      → (if not b then Some BadUsers else if not c then Some UnknownUser else None) ≡ Some why → StrikeEndsBy name start why
  by_tests false c why some e = let is : BadUsers ≡ why = cc in subst (StrikeEndsBy name start) is (never why some RefusesUsers)
  by_tests true false why some e = let is : UnknownUser ≡ why = cc in subst (StrikeEndsBy name start) is (never why some (IsUnnamed name))
  by_tests true true why some e = cc

  -- a second run of their events is refused memory alone
  pub by_rerun : (why : Refusal) → (why ≡ Memory) ⊎ (why_untold users user ≡ Some why) → StrikeEndsBy name start why
  by_rerun why (inl is) = by_memory name start why is
  by_rerun why (inr some) = by_tests (are_users users) (is_among user users) why some some

-- ---- how that is told

module _ (user : List ℕ) (start : Option (List ℕ)) where
  by_want : (why : Refusal) (output : Type 0) → IsWant output why → StrikeEndsBy user start why
  by_want why output (inl f) = subst (StrikeEndsBy user start) (sym f.0) tt
  by_want why output (inr m) = subst (StrikeEndsBy user start) (sym m.0) tt

  told_so : (first why : Refusal) (input output : Type 0) → TellsEnd first input output why → StrikeEndsBy user start first → StrikeEndsBy user start why
  told_so InputFault why input output h q = elim h [ inl i ↦ subst (StrikeEndsBy user start) (sym i.0) tt | inr w ↦ by_want why output w.1 ]
  told_so OutputFault why input output h q = by_want why output h
  told_so Memory why input output h q = by_want why output h
  told_so first why input output h q = subst (StrikeEndsBy user start) (sym h) q

  -- an end is told as it is, or as one by a failure or for want of memory
  pub still_why : (old new : ℕ) (input output : Type 0) (r e : Result (Unit {0}) Refusal) → IfErr r (Told e old new input output)
      → IfErr e (StrikeEndsBy user start) → IfErr r (StrikeEndsBy user start)
  still_why old new input output (Ok u) e is q = tt
  still_why old new input output (Err why) e (inl f) q = subst (StrikeEndsBy user start) (sym f.0) tt
  still_why old new input output (Err why) (Ok v) (inr t) q = let bad : Ok v ≡ Err t.0 = t.1 in cc
  still_why old new input output (Err why) (Err first) (inr t) q =
      let is : first ≡ t.0 = let e : Err first ≡ Err t.0 = t.1 in cc in
      told_so first why input output (subst (λ x. TellsEnd x input output why) (sym is) t.2) q
