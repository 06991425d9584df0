-- What the lines of an input get, of which the users were found ahead.
use Rattle.std.proofs.Common.{◌≡◌, ℕ, true, inl, List, [], ◌++◌, length, take, Option, Some, None, refl, sym, ap, ◌∙◌, subst, arith}
use Rattle.std.specs.Prelude.{◌⊎◌, MatchOption, Result, Ok, Err, IsOk, OnOk}
use Rattle.std.proofs.lemmas.List.{append-nil, take_all}
use Rattle.std.proofs.lemmas.Bool.{true≢false}
use mathlib.Core.List.{IsPrefix}
use Rattle.std.specs.Io.KnownBytes.{Appends, Consumes, IsAtEnd}
use Rattle.model.specs.declared.mode.Mode.TheVariants.{Service}
use Rattle.model.specs.declared.refusal.Refusal.{Refusal}
use Rattle.model.specs.declared.refusal.Refusal.TheVariants.{BadUsers, OutputFault}
use Rattle.model.specs.Worlds.{Setup, are_users}
use Rattle.model.specs.Lines.{lines_of}
use Rattle.model.specs.Talk.{LineRow, fresh, Talks, text_from, asked_in, users_in}
use Rattle.laws.proofs.TalkLemmas.{none_asked, named_are_users, same_users}
use Rattle.session.specs.Serving.{Finished}
use Rattle.session.specs.Ahead.{LooksAhead}
use Rattle.session.proofs.RowLemmas.{appends-flushed}
use Rattle.replaying.specs.Replaying.{AreOfOneStore, AreAnswered, LinksOnly, Served, ServedInPart, Replayed, ReplayedInPart}
use Rattle.replaying.proofs.ReplayLemmas.{one_store}

-- ---- answers

answered_as : (charge : ℕ) (rows : List LineRow) (named : Option (List (List ℕ))) → (named ≡ None → asked_in rows ≡ [])
    → ((users : List (List ℕ)) → named ≡ Some users → AreOfOneStore (record { users = users; charge = charge }) rows)
    → MatchOption named (asked_in rows ≡ []) (λ users. AreOfOneStore (record { users = users; charge = charge }) rows)
answered_as charge rows None none some = none refl
answered_as charge rows (Some users) none some = some users refl

pub are_answered : (charge : ℕ) (done : List (List ℕ)) (rows : List LineRow) → Talks (fresh Service) done rows
    → ((users : List (List ℕ)) → users_in rows ≡ Some users → AreOfOneStore (record { users = users; charge = charge }) rows) → AreAnswered charge rows
are_answered charge done rows t some = answered_as charge rows (users_in rows) (none_asked (fresh Service) done rows refl t) some

-- by a store for the users that were found ahead
pub by_store : (charge : ℕ) (users : List (List ℕ)) (all : List ℕ) (done rest : List (List ℕ)) (rows : List LineRow)
    → LooksAhead Service all (Some users) → done ++ rest ≡ lines_of all
    → Talks (fresh Service) done rows → AreOfOneStore (record { users = users; charge = charge }) rows → AreAnswered charge rows
by_store charge users all done rest rows found cut t one = are_answered charge done rows t (λ named n.
    let same : users ≡ named = same_users (fresh Service) found.done done found.rest rest found.rows rows refl found.talks t (sym found.cut ∙ sym cut) users named found.named n in
    subst (λ u. AreOfOneStore (record { users = u; charge = charge }) rows) same one)

-- ---- the input

-- what was consumed of known bytes, and what is left of them
pub consumed : (all input : List ℕ) (start end : Option (List ℕ)) → start ≡ Some all → Consumes start end input
    → (left : List ℕ) × (end ≡ Some left) × (all ≡ input ++ left) × (IsAtEnd end → left ≡ [])
consumed all input None end is h = cc
consumed all input (Some xs) None is h = absurd h
consumed all input (Some xs) (Some left) is h = let same : xs ≡ all = cc in (left, refl, sym same ∙ h, λ e. e)

-- all of it
pub consumed_all : (all input : List ℕ) (start end : Option (List ℕ)) → start ≡ Some all → Consumes start end input → IsAtEnd end → input ≡ all
consumed_all all input start end is h done =
    let c = consumed all input start end is h in
    sym (append-nil input) ∙ (ap (λ (t : List ℕ). input ++ t) (sym (c.3 done)) ∙ sym c.2)

-- ---- all lines, and the first lines

-- all was answered and then flushed
pub flushed : (charge : ℕ) (blank written written' : Option (List ℕ)) (lines : List (List ℕ)) → Replayed charge blank written lines
    → Appends written written' [] → Replayed charge blank written' lines
flushed charge blank written written' lines h kept = record {
  rows = h.rows;
  talks = h.talks;
  going = h.going;
  text = appends-flushed blank written written' (text_from 1 h.rows) h.text kept;
  answered = h.answered;
}

pub flushed_in_part : (charge : ℕ) (blank written written' : Option (List ℕ)) (lines : List (List ℕ)) (why : Refusal)
    → ReplayedInPart charge blank written lines why → Appends written written' []
    → ReplayedInPart charge blank written' lines why
flushed_in_part charge blank written written' lines why h kept = record {
  rows = h.rows;
  done = h.done;
  first = h.first;
  talks = h.talks;
  count = h.count;
  text = appends-flushed blank written written' (take h.count (text_from 1 h.rows)) h.text kept;
  users = h.users;
  told = h.told;
  answered = h.answered;
}

-- all was answered, and the flush failed
pub not_flushed : (charge : ℕ) (blank written written' : Option (List ℕ)) (lines : List (List ℕ)) (why : Refusal) → (why ≡ BadUsers → ⊥)
    → Replayed charge blank written lines → Appends written written' []
    → ReplayedInPart charge blank written' lines why
not_flushed charge blank written written' lines why own h kept = record {
  rows = h.rows;
  done = lines;
  first = ([], append-nil lines);
  talks = h.talks;
  count = length (text_from 1 h.rows);
  text = subst (λ t. Appends blank written' t) (sym (take_all _ _ (omega arith))) (appends-flushed blank written written' (text_from 1 h.rows) h.text kept);
  users = λ e. absurd (own e);
  told = λ r. absurd (true≢false (sym r.0 ∙ h.going));
  answered = h.answered;
}

-- it ended otherwise than is told
pub other_fault : (charge : ℕ) (blank written : Option (List ℕ)) (lines : List (List ℕ)) (why other : Refusal) → (other ≡ BadUsers → ⊥)
    → ((why ≡ BadUsers) ⊎ (why ≡ OutputFault) → (other ≡ BadUsers) ⊎ (other ≡ OutputFault)) → ReplayedInPart charge blank written lines why
    → ReplayedInPart charge blank written lines other
other_fault charge blank written lines why other own keeps h = record {
  rows = h.rows;
  done = h.done;
  first = h.first;
  talks = h.talks;
  count = h.count;
  text = h.text;
  users = λ e. absurd (own e);
  told = λ r. keeps (h.told r);
  answered = h.answered;
}

module _ (charge : ℕ) (all : List ℕ) (blank written : Option (List ℕ)) where
  abbrev setup_of_users : List (List ℕ) → Setup
  setup_of_users users = record { users = users; charge = charge }

  pub finished_by_store : (users : List (List ℕ)) (start end : Option (List ℕ)) → LooksAhead Service all (Some users) → start ≡ Some all
      → Served (setup_of_users users) start end blank written → Replayed charge blank written (lines_of all)
  finished_by_store users start end found is h =
      let same : h.input ≡ all = consumed_all all h.input start end is h.read h.ended in
      let f : Finished Service (LinksOnly (setup_of_users users)) h.first h.last blank written (lines_of all) =
      subst (λ (t : List ℕ). Finished Service (LinksOnly (setup_of_users users)) h.first h.last blank written (lines_of t)) same h.done in
      record {
        rows = f.rows;
        talks = f.talks;
        going = f.going;
        text = f.text;
        answered = by_store charge users all (lines_of all) [] f.rows found (append-nil (lines_of all)) f.talks (one_store (setup_of_users users) h.first h.last f.rows h.new f.chain);
      }

  pub stopped_by_store : (users : List (List ℕ)) (start end : Option (List ℕ)) (why : Refusal) → LooksAhead Service all (Some users) → start ≡ Some all
      → ServedInPart (setup_of_users users) start end blank written why → ReplayedInPart charge blank written (lines_of all) why
  stopped_by_store users start end why found is h =
      let left = consumed all h.input start end is h.read in
      let s = h.done in
      let first : IsPrefix s.done (lines_of all) = subst (λ (t : List ℕ). IsPrefix s.done (lines_of t)) (sym left.2) (s.cut left.0 left.3) in
      record {
        rows = s.rows;
        done = s.done;
        first = first;
        talks = s.talks;
        count = s.count;
        text = s.text;
        users = s.users;
        told = λ r. inl (s.told r);
        answered = by_store charge users all s.done first.0 s.rows found first.1 s.talks (one_store (setup_of_users users) h.first h.last s.rows h.new s.chain);
      }

-- the users that were found ahead are a list of users
pub found_are_users : (all : List ℕ) (users : List (List ℕ)) → LooksAhead Service all (Some users) → are_users users ≡ true
found_are_users all users found = named_are_users (fresh Service) found.done found.rows users refl found.talks found.named

-- ---- what was flushed after an end

-- what holds where all was answered, holds where it was flushed as well
pub after_ok : (r e : Result (Unit {0}) Refusal) (P Q : Type 0) → OnOk r (IsOk e) → OnOk e P → (P → Q) → OnOk r Q
after_ok (Ok u) (Ok v) P Q is p f = f p
after_ok (Ok u) (Err w) P Q is p f = cc
after_ok (Err why) e P Q is p f = tt
